-- A piece where one of its first tokens comes, for lists of pieces that may be refused at their first token.
use Rattle.std.proofs.Common.{◌≡◌, ℕ, zero, suc, ◌≤◌, List, [], ◌∷◌, ◌++◌, length, Some, None, refl, sym, ap, subst, ◌∙◌, inl, inr, ◌⊎◌, Bool, true}
use Rattle.std.proofs.Common.{false, IsTrue, if◌then◌else◌}
use Rattle.pg_read_grammar.specs.declared.token.Token.{Token}
use Rattle.pg_read_grammar.specs.declared.class.Class.{Class}
use Rattle.pg_read_grammar.specs.declared.token.Fault.TheVariants.{Unsupported}
use Rattle.pg_read_grammar.specs.Language.{Lang, Gram}
use Rattle.pg_read_grammar.specs.Reading.{Read, Good, Bad, ◌>>=◌, comes, repeat, run}
use Rattle.pg_read_grammar.proofs.Pieces.{Piece, Item, Gets, Met, Went, Stopped, Alive, Same, Marked, too_long, rest_of}

abbrev pub only : {A : Type 0} → (Class → Bool) → Gram A → Gram A
only test g m K ts = (comes test ts ≡ true) × g m K ts

abbrev pub only_at : {A : Type 0} → (Class → Bool) → (List Token → Read A) → List Token → Read A
only_at test r ts = if comes test ts then r ts else Bad None ts

pub only_item : {A : Type 0} {r : List Token → Read A} {g : Gram A} {fi ma : Class → Bool} {av : Class → Bool} → Piece r g fi ma false av → Gets fi r
    → Item (only_at fi r) (only fi g) fi av
only_item {A} {r} {g} {fi} {ma} {av} e gets = record {
  piece = record { meets = meets; some = some; begins = λ m K t us j. inl j.0; empty = λ m K j. absurd (let z : false ≡ true = j.0 in cc) };
  gets = record { on = λ t ts i. rw i (gets.on t ts i) };
}
  where
    comes_some : (K : A → Lang) (us : List Token) → g None K us → comes fi us ≡ true
    comes_some K [] j = (e.empty None K j).0
    comes_some K (t ∷ us) j = pick (e.begins None K t us j)
      where
        pick : IsTrue (fi t.class) ⊎ ((IsTrue (ma t.class) × Marked None us) ⊎ (IsTrue false × ((a : A) × K a (t ∷ us)))) → IsTrue (fi t.class)
        pick (inl i) = i
        pick (inr (inl i)) = absurd (let z : None ≡ Some Unsupported = i.1.0 in cc)
        pick (inr (inr i)) = absurd (let z : false ≡ true = i.0 in cc)

    some : (K : A → Lang) → Alive K → (us : List Token) × only fi g None K us
    some K alive = let q = e.some K alive in (q.0, (comes_some K q.0 q.1, q.1))

    never : (us ts : List Token) → Same us ts → comes fi ts ≡ false → comes fi us ≡ true → ⊥
    never [] ts same n y = absurd cc
    never (u ∷ us) [] same n y = same
    never (u ∷ us) (t ∷ ts) same n y = let z : fi u.class ≡ false = subst (λ v. fi v.class ≡ false) (sym same) n in absurd cc

    first : (t u : Token) (ts us : List Token) → t ∷ ts ≡ u ∷ us → IsTrue (fi t.class) → IsTrue (fi u.class)
    first t u ts us w i = let p : t ≡ u = cc in subst (λ v. IsTrue (fi v.class)) p i

    there : (t : Token) (ts : List Token) (x : Read A) → IsTrue (fi t.class) → length (rest_of x) ≤ length ts → Met g av (t ∷ ts) x → Met (only fi g) av (t ∷ ts) x
    there t ts _ i l (Went a [] rest split o) = absurd (too_long t ts rest split l)
    there t ts _ i l (Stopped fault [] rest split o) = absurd (too_long t ts rest split l)
    there t ts _ i l (Went a (u ∷ front) rest split o) = Went a (u ∷ front) rest split (record {
      sound = λ m K us j. (first t u ts (front ++ rest) split i, o.sound m K us j);
      back = λ m K us avoids same full j. o.back m K us avoids same full j.1;
    })
    there t ts _ i l (Stopped fault (u ∷ front) rest split o) = Stopped fault (u ∷ front) rest split (record {
      alive = λ K alive. let q = o.alive K alive in (q.0, (first t u ts (front ++ rest) split i, q.1));
      dead = λ m K us avoids same full j. o.dead m K us avoids same full j.1;
      marked = λ f K w. let q = o.marked f K w in (q.0, q.1, q.2, (first t u ts (front ++ rest) split i, q.3));
    })

    nothing : (ts : List Token) → comes fi ts ≡ false → Met (only fi g) av ts (Bad None ts)
    nothing ts n = Stopped None [] ts refl (record {
      alive = some;
      dead = λ m K us avoids same full j. absurd (never us ts same n j.0);
      marked = λ f K w. absurd cc;
    })

    by : (ts : List Token) (b : Bool) → comes fi ts ≡ b → Met (only fi g) av ts (if b then r ts else Bad None ts)
    by [] true n = absurd cc
    by (t ∷ ts) true i = there t ts (r (t ∷ ts)) i (gets.on t ts i) (e.meets (t ∷ ts))
    by ts false n = nothing ts n

    meets : (ts : List Token) → Met (only fi g) av ts (only_at fi r ts)
    meets ts = by ts (comes fi ts) refl

only_same : {A : Type 0} (test : Class → Bool) (r : List Token → Read A) (ts : List Token) → comes test ts ≡ true → only_at test r ts ≡ r ts
only_same test r ts h = rw h refl

-- a loop that reads alike where it goes on
repeat_same : {A : Type 0} (test : Class → Bool) (r s : List Token → Read A) → ((ts : List Token) → comes test ts ≡ true → r ts ≡ s ts) → (n : ℕ) (ts : List Token)
    → repeat test r n ts ≡ repeat test s n ts
unfolding repeat
repeat_same test r s same zero ts = refl
repeat_same {A} test r s same (suc n) ts = by (λ rest. repeat_same test r s same n rest) (comes test ts) refl
  where
    after : ((rest : List Token) → repeat test r n rest ≡ repeat test s n rest) → (x : Read A)
        → (x >>= λ a rest. repeat test r n rest >>= λ more after. Good (a ∷ more) after) ≡ (x >>= λ a rest. repeat test s n rest >>= λ more after. Good (a ∷ more) after)
    after rec (Good a rest) = ap (λ y. y >>= λ more after. Good (a ∷ more) after) (rec rest)
    after rec (Bad fault rest) = refl

    by : ((rest : List Token) → repeat test r n rest ≡ repeat test s n rest) → (b : Bool) → comes test ts ≡ b
        → (if b then (r ts >>= λ a rest. repeat test r n rest >>= λ more after. Good (a ∷ more) after) else Good [] ts)
        ≡ (if b then (s ts >>= λ a rest. repeat test s n rest >>= λ more after. Good (a ∷ more) after) else Good [] ts)
    by rec true h = ap (λ x. x >>= λ a rest. repeat test r n rest >>= λ more after. Good (a ∷ more) after) (same ts h) ∙ after rec (s ts)
    by rec false h = refl

pub repeat_only : {A : Type 0} (test : Class → Bool) (r : List Token → Read A) (n : ℕ) (ts : List Token) → repeat test (only_at test r) n ts ≡ repeat test r n ts
repeat_only test r n ts = repeat_same test (only_at test r) r (only_same test r) n ts

pub run_same : {S B : Type 0} (test : S → Class → Bool) (r s : S → List Token → Read S) (tail : S → List Token → Read B)
    → ((x : S) (ts : List Token) → comes (test x) ts ≡ true → r x ts ≡ s x ts) → (n : ℕ) (x : S) (ts : List Token) → run test r tail n x ts ≡ run test s tail n x ts
unfolding run
run_same test r s tail same zero x ts = refl
run_same {S} {B} test r s tail same (suc n) x ts = by (λ next rest. run_same test r s tail same n next rest) (comes (test x) ts) refl
  where
    after : ((next : S) (rest : List Token) → run test r tail n next rest ≡ run test s tail n next rest) → (y : Read S)
        → (y >>= λ next rest. run test r tail n next rest) ≡ (y >>= λ next rest. run test s tail n next rest)
    after rec (Good next rest) = rec next rest
    after rec (Bad fault rest) = refl

    by : ((next : S) (rest : List Token) → run test r tail n next rest ≡ run test s tail n next rest) → (b : Bool) → comes (test x) ts ≡ b
        → (if b then (r x ts >>= λ next rest. run test r tail n next rest) else tail x ts) ≡ (if b then (s x ts >>= λ next rest. run test s tail n next rest) else tail x ts)
    by rec true h = ap (λ y. y >>= λ next rest. run test r tail n next rest) (same x ts h) ∙ after rec (s x ts)
    by rec false h = refl

-- a piece that is read in another way
pub read_as : {A : Type 0} {r : List Token → Read A} {g : Gram A} {fi ma : Class → Bool} {nu : Bool} {av : Class → Bool} (s : List Token → Read A)
    → ((ts : List Token) → r ts ≡ s ts) → Piece r g fi ma nu av → Piece s g fi ma nu av
read_as {A} {r} {g} {fi} {ma} {nu} {av} s same e = record { meets = λ ts. subst (Met g av ts) (same ts) (e.meets ts); some = e.some; begins = e.begins; empty = e.empty }
