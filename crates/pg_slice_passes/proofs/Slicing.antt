-- From passes to the slice.
use Rattle.std.proofs.Common.{◌≡◌, ℕ, zero, suc, ◌+◌, ◌<◌, Bool, true, false, List, [], ◌∷◌, length, take, slice_get, Some, refl, sym, ap, ◌∙◌, subst, inl, inr}
use Rattle.std.proofs.Common.{◌⊎◌, arith}
use Rattle.std.specs.Prelude.{All, Contains, ◌↔◌, ◌||◌}
use Rattle.std.specs.List.{AllByRecursion}
use Rattle.std.proofs.lemmas.List.Elements.{Contains-append_cases}
use Rattle.std.proofs.lemmas.Bool.{false≢true, true≢false}
use mathlib.Core.Path.{fun_ext}
use Rattle.pg_slice_rules.specs.declared.decision.Decision.{Decision}
use Rattle.pg_slice_rules.specs.declared.decision.Decision.TheVariants.{Pinned, Exact}
use Rattle.pg_slice_rules.specs.Closed.{AreWithin, IsClosed, IsSlice, asks}
use Rattle.pg_slice_rules.specs.Known.{Reference, Taken, has}
use Rattle.pg_slice_decisions.specs.Marks.{members_from}
use Rattle.pg_slice_decisions.specs.Steps as steps
use Rattle.pg_law_demands.specs.pg_law_least.Keeps.{ExtentsKeep}
use Rattle.pg_law_demands.specs.pg_law_least.Laws.{AsksAreAbove, AsksAreNew, AsksAreOfSteps, step_in}
use Rattle.pg_law_demands.proofs.of_pg_law_least.ClosedDecisions.{closed_if}
use Rattle.pg_region_paths.proofs.Elements.{cases as cases_in, here, none_in, there}
use Rattle.pg_law_threads.proofs.ListPlaces.{take_get}

-- sets with the same decisions are the same
pub same_taken : (d e : Taken) → ((x : Decision) → has d x ≡ has e x) → d ≡ e
same_taken d e h =
    let p : d.pinned ≡ e.pinned = fun_ext (λ n. h (Pinned n)) in
    let q : d.exact ≡ e.exact = fun_ext (λ n. h (Exact n)) in
    ap (λ (f : ℕ → Bool). record { pinned = f; exact = d.exact }) p ∙ ap (λ (f : ℕ → Bool). record { pinned = e.pinned; exact = f }) q

step_same : (x : Decision) → step_in x ≡ steps.step_of x
step_same (Pinned n) = refl
step_same (Exact n) = refl

-- where nothing new is missing, nothing is asked
pub closed_where_none : (R : Reference) (d : Taken) (missing : List Decision) (n : ℕ) → AsksAreNew R → AsksAreOfSteps R → n ≡ length R.moments
    → ((x : Decision) → Contains missing x ↔ Contains (asks R d) x) →
    ((x : Decision) → Contains missing x → steps.step_of x < n → has d x ≡ true) → IsClosed R d
closed_where_none R d missing n new_asked of_steps count same none =
    closed_if R d (λ x c.
    let m = same x in
    let s = of_steps d x c in
    let e = step_same x in
    true≢false (sym (none x (m.1 c) (omega (arith, s, e, count))) ∙ new_asked d x c))

-- what is taken stays within each closed set
pub stays_within : (R : Reference) (d new e : Taken) (missing : List Decision) → AsksAreAbove R → ((x : Decision) → Contains missing x ↔ Contains (asks R d) x) →
    ((y : Decision) → has new y ≡ true → (has d y ≡ true) ⊎ Contains missing y) → IsClosed R e → AreWithin d e → AreWithin new e
stays_within R d new e missing above same only closed within = λ y h. go y (only y h)
  where
    go : (y : Decision) → (has d y ≡ true) ⊎ Contains missing y → has e y ≡ true
    go y (inl a) = within y a
    go y (inr c) = let m = same y in above d e closed within y (m.0 c)

-- ---- decisions that are taken one after another

pub first_false : (a b : Bool) → (a || b) ≡ false → a ≡ false
first_false false b e = refl
first_false true b e = absurd (true≢false e)

pub second_false : (a b : Bool) → (a || b) ≡ false → b ≡ false
second_false false b e = e
second_false true b e = absurd (true≢false e)

-- fewer are left where one of the two was taken
pub or_less : (a b : Bool) (first old new : ℕ) → (a ≡ true → new < old) → (a ≡ false → new ≡ old) → (b ≡ true → old < first) → (b ≡ false → old ≡ first)
    → (a || b) ≡ true → new < first
or_less true true first old new less same before stays e = let x = less refl in let y = before refl in omega (arith, x, y)
or_less true false first old new less same before stays e = let x = less refl in let y = stays refl in omega (arith, x, y)
or_less false true first old new less same before stays e = let x = same refl in let y = before refl in omega (arith, x, y)
or_less false false first old new less same before stays e = absurd (false≢true e)

contains_at : {A : Type 0} (xs : List A) (i : ℕ) (x : A) → slice_get xs i ≡ Some x → Contains xs x
contains_at [] i x h = absurd cc
contains_at (y ∷ xs) zero x h = let e : y ≡ x = cc in subst (λ z. Contains (y ∷ xs) z) e (here y xs)
contains_at (y ∷ xs) (suc i) x h = there y xs x (contains_at xs i x h)

one_in : {A : Type 0} (x y : A) → Contains (x ∷ []) y → x ≡ y
one_in x y c = go (cases_in x [] y c)
  where
    go : (x ≡ y) ⊎ Contains [] y → x ≡ y
    go (inl e) = e
    go (inr d) = absurd (none_in y d)

pub taken_more : (old new : Taken) (n : ℕ) (missing : List Decision) (i : ℕ) (x : Decision) → slice_get missing i ≡ Some x →
    ((y : Decision) → Contains (take i missing) y → steps.step_of y < n → has old y ≡ true) → (steps.step_of x < n → has new x ≡ true)
    → ((y : Decision) → has old y ≡ true → has new y ≡ true) →
    (y : Decision) → Contains (take (i + 1) missing) y → steps.step_of y < n → has new y ≡ true
taken_more old new n missing i x at before now kept y c s = go (Contains-append_cases (take i missing) (x ∷ []) y (subst (λ l. Contains l y) (take_get missing i x at) c))
  where
    go : Contains (take i missing) y ⊎ Contains (x ∷ []) y → has new y ≡ true
    go (inl d) = kept y (before y d s)
    go (inr d) = let e = one_in x y d in subst (λ (z : Decision). has new z ≡ true) e (now (subst (λ (z : Decision). steps.step_of z < n) (sym e) s))

pub got_in : (first old : Taken) (missing : List Decision) (i : ℕ) (x y : Decision) → slice_get missing i ≡ Some x → (has old y ≡ true → (has first y ≡ true) ⊎ Contains missing y) →
    (has old y ≡ true) ⊎ (x ≡ y) → (has first y ≡ true) ⊎ Contains missing y
got_in first old missing i x y at before (inl h) = before h
got_in first old missing i x y at before (inr e) = inr (subst (λ (z : Decision). Contains missing z) e (contains_at missing i x at))

-- ---- lists of the steps

members_below : (n m : ℕ) (set : List Bool) → n + length set ≡ m → AllByRecursion (λ (k : ℕ). k < m) (members_from n set)
members_below n m [] e = tt
members_below n m (true ∷ set) e = (omega (arith, e), members_below (suc n) m set (omega (arith, e)))
members_below n m (false ∷ set) e = members_below (suc n) m set (omega (arith, e))

all_at : {A : Type 0} (P : A → Type 0) (xs : List A) → AllByRecursion P xs → All P xs
all_at P [] h k d l = absurd (omega (arith, l))
all_at P (x ∷ xs) h zero d l = h.0
all_at P (x ∷ xs) h (suc k) d l = all_at P xs h.1 k d (omega (arith, l))

pub all_below : (m : ℕ) (set : List Bool) (xs : List ℕ) → length set ≡ m → xs ≡ members_from 0 set → All (λ (k : ℕ). k < m) xs
all_below m set xs c e = all_at (λ (k : ℕ). k < m) xs (subst (λ (l : List ℕ). AllByRecursion (λ (k : ℕ). k < m) l) (sym e) (members_below 0 m set (omega (arith, c))))
