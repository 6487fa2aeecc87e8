-- What holds of each value of a piece.
use Rattle.std.proofs.Common.{◌≡◌, ℕ, zero, suc, List, [], ◌∷◌, Option, Bool, true, refl, inl, inr}
use Rattle.std.specs.List.{list_all}
use Rattle.pg_read_grammar.specs.declared.token.Token.{Token}
use Rattle.pg_read_grammar.specs.declared.class.Class.{Class}
use Rattle.pg_read_grammar.specs.declared.token.Fault.{Fault}
use Rattle.pg_read_grammar.specs.Language.{Lang, Gram, give, refused, ◌or◌, times, many}
use Rattle.pg_read_grammar.specs.Language.{◌>>=◌ as ◌then◌}
use Rattle.pg_read_grammar.proofs.Linear.{Linear, linear_times}

pub record Keeps {A : Type 0} (g : Gram A) (P : A → Type 0) : Type 1 where
  pub keep : (m : Option Fault) (K : A → Lang) (us : List Token) → g m K us → g m (λ a vs. P a × K a vs) us

pub keeps_give : {A : Type 0} {P : A → Type 0} (a : A) → P a → Keeps (give a) P
keeps_give {A} {P} a p = record { keep = λ m K us j. (p, j) }

pub keeps_refused : {A : Type 0} {P : A → Type 0} (f : Fault) (test : Class → Bool) → Keeps {A = A} (refused f test) P
keeps_refused {A} {P} f test = record { keep = λ m K us j. j }

pub keeps_or : {A : Type 0} {P : A → Type 0} {g h : Gram A} → Keeps g P → Keeps h P → Keeps (g or h) P
keeps_or {A} {P} {g} {h} e k = record { keep = keep }
  where
    keep : (m : Option Fault) (K : A → Lang) (us : List Token) → (g or h) m K us → (g or h) m (λ a vs. P a × K a vs) us
    keep m K us (inl j) = inl (e.keep m K us j)
    keep m K us (inr j) = inr (k.keep m K us j)

-- by what holds of the values of the first piece
pub keeps_with : {A B : Type 0} {Q : A → Type 0} {P : B → Type 0} {g : Gram A} {h : A → Gram B} → Linear g → Keeps g Q → ((a : A) → Q a → Keeps (h a) P) → Keeps (g then h) P
keeps_with {A} {B} {Q} {P} {g} {h} e q k = record {
  keep = λ m K us j. e.mono m (λ a vs. Q a × h a m K vs) (λ a. h a m (λ b vs. P b × K b vs)) (λ a vs i. (k a i.0).keep m K vs i.1) us (q.keep m (λ a. h a m K) us j);
}

pub keeps_then : {A B : Type 0} {P : B → Type 0} {g : Gram A} {h : A → Gram B} → Linear g → ((a : A) → Keeps (h a) P) → Keeps (g then h) P
keeps_then {A} {B} {P} {g} {h} e k = record { keep = λ m K us j. e.mono m (λ a. h a m K) (λ a. h a m (λ b vs. P b × K b vs)) (λ a vs i. (k a).keep m K vs i) us j }

keeps_times : {A : Type 0} {p : A → Bool} {g : Gram A} → Linear g → Keeps g (λ a. p a ≡ true) → (n : ℕ) → Keeps (times g n) (λ all. list_all p all ≡ true)
keeps_times {A} {p} {g} e k zero = keeps_give [] refl
keeps_times {A} {p} {g} e k (suc n) = keeps_with e k (λ a h. keeps_with (linear_times e n) (keeps_times e k n) (λ more i. keeps_give (a ∷ more) (rw h i)))

pub keeps_many : {A : Type 0} {p : A → Bool} {g : Gram A} → Linear g → Keeps g (λ a. p a ≡ true) → Keeps (many g) (λ all. list_all p all ≡ true)
keeps_many {A} {p} {g} e k = record { keep = λ m K us j. (j.0, (keeps_times e k j.0).keep m K us j.1) }
