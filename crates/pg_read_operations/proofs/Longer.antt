-- What can't be empty is read as a token at least.
use Rattle.std.proofs.Common.{◌≡◌, ℕ, ◌<◌, List, [], ◌∷◌, length, drop, length-drop, length-append, ap, arith, Bool, false, IsTrue, Result, Ok, Err, IfOk, Option, None}
use Rattle.pg_read_grammar.specs.declared.token.Token.{Token}
use Rattle.pg_read_grammar.specs.declared.class.Class.{Class}
use Rattle.pg_read_grammar.specs.declared.token.Fault.{Fault}
use Rattle.pg_read_grammar.specs.declared.token.ReadError.{ReadError}
use Rattle.pg_read_grammar.specs.Language.{Lang, Gram}
use Rattle.pg_read_grammar.specs.Reading.{Read, Good}
use Rattle.pg_read_grammar.specs.Views.{Reads}
use Rattle.pg_read_grammar.proofs.Pieces.{Piece, Met, Went, Stopped, rest_of}

went : {A : Type 0} (g : Gram A) (av : Class → Bool) → ((m : Option Fault) (K : A → Lang) → g m K [] → ⊥) → (ts rest : List Token) (a : A) (x : Read A) → Met g av ts x
    → x ≡ Good a rest → length rest < length ts
went {A} g av never ts rest a _ (Went b [] rest' split o) h = absurd (never None (λ c us. Unit {0}) (o.sound None (λ c us. Unit {0}) [] tt))
went g av never ts rest a _ (Went b (t ∷ front) rest' split o) h = let e : rest' ≡ rest = ap rest_of h in omega (arith, ap length split, length-append (t ∷ front) rest', ap length e)
went g av never ts rest a _ (Stopped fault front rest' split o) h = absurd cc

pub some_read : {A : Type 0} (r : List Token → Read A) (g : Gram A) (fi ma av : Class → Bool) → Piece r g fi ma false av → (ts rest : List Token) (a : A) → r ts ≡ Good a rest
    → length rest < length ts
some_read r g fi ma av e ts rest a h = went g av (λ m K j. let z : IsTrue false = (e.empty m K j).0 in absurd cc) ts rest a (r ts) (e.meets ts) h

-- so the place after it lies behind it
pub reads_some : {X Y : Type 0} (r : Result X ReadError) (v : X → Y) (to : X → ℕ) (ts : List Token) (at : ℕ) (x : Read Y) → Reads ts at v to r x
    → ((rest : List Token) (a : Y) → x ≡ Good a rest → length rest < length (drop at ts)) → IfOk r (λ y. at < to y)
reads_some (Ok y) v to ts at x h s = omega (arith, s (drop (to y) ts) (v y) h.0, h.1, h.2, length-drop at ts, length-drop (to y) ts)
reads_some (Err e) v to ts at x h s = tt
