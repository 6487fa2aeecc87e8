-- Taking in what is asked for, from no decisions on, ends at closed decisions that are contained in all that are closed.
use Rattle.std.proofs.Common.{◌≡◌, ℕ, zero, suc, ◌+◌, ◌<◌, ◌≤◌, ◌==◌, Bool, true, false, List, [], ◌∷◌, length, refl, sym, ap, ◌∙◌, subst, inl, inr}
use Rattle.std.proofs.Common.{◌⊎◌, arith}
use Rattle.std.specs.Prelude.{Contains, ◌||◌}
use Rattle.std.specs.List.{list_any}
use Rattle.std.proofs.lemmas.Bool.{true≢false, or_cases, or_left, or_right, eqb-true, eq-eqb, cases_eq}
use Rattle.pg_slice_rules.specs.declared.decision.Decision.{Decision}
use Rattle.pg_slice_rules.specs.declared.decision.Decision.TheVariants.{Pinned, Exact}
use Rattle.pg_slice_rules.specs.Known.{Reference, Taken, has}
use Rattle.pg_slice_rules.specs.Closed.{AreWithin, IsClosed, IsSlice, asks}
use Rattle.pg_law_least.specs.Keeps.{ExtentsKeep}
use Rattle.pg_region_paths.proofs.Elements.{cases as cases_in, here, none_in, there}
use Rattle.pg_law_least.specs.Laws.{step_in}
use Rattle.pg_law_least.proofs.AskedAreMissing.{asks_new}
use Rattle.pg_law_least.proofs.ClosedDecisions.{closed_if}
use Rattle.pg_law_least.proofs.InLargerClosedSets.{asks_above}

-- ---- decisions with more of them

same_decision : Decision → Decision → Bool
same_decision (Pinned m) (Pinned n) = m == n
same_decision (Exact m) (Exact n) = m == n
same_decision x y = false

same_is : (x y : Decision) → same_decision x y ≡ true → x ≡ y
unfolding same_decision
same_is (Pinned m) (Pinned n) h = ap Pinned (eqb-true m n h)
same_is (Pinned m) (Exact n) h = absurd (true≢false (sym h))
same_is (Exact m) (Pinned n) h = absurd (true≢false (sym h))
same_is (Exact m) (Exact n) h = ap Exact (eqb-true m n h)

same_self : (x : Decision) → same_decision x x ≡ true
unfolding same_decision
same_self (Pinned m) = eq-eqb m m refl
same_self (Exact m) = eq-eqb m m refl

is_among : List Decision → Decision → Bool
is_among xs x = list_any (same_decision x) xs

among_is : (xs : List Decision) (x : Decision) → is_among xs x ≡ true → Contains xs x
unfolding is_among
among_is [] x h = absurd (true≢false (sym h))
among_is (y ∷ xs) x h = go (or_cases (same_decision x y) (list_any (same_decision x) xs) h) (λ q. among_is xs x q)
  where
    go : (same_decision x y ≡ true) ⊎ (list_any (same_decision x) xs ≡ true) → (list_any (same_decision x) xs ≡ true → Contains xs x) → Contains (y ∷ xs) x
    go (inl q) more = subst (λ (z : Decision). Contains (y ∷ xs) z) (sym (same_is x y q)) (here y xs)
    go (inr q) more = there y xs x (more q)

is_among_all : (xs : List Decision) (x : Decision) → Contains xs x → is_among xs x ≡ true
unfolding is_among
is_among_all [] x c = absurd (none_in x c)
is_among_all (y ∷ xs) x c = go (cases_in y xs x c) (λ q. is_among_all xs x q)
  where
    go : (y ≡ x) ⊎ Contains xs x → (Contains xs x → list_any (same_decision x) xs ≡ true) → (same_decision x y || list_any (same_decision x) xs) ≡ true
    go (inl q) more = or_left (same_decision x y) (list_any (same_decision x) xs) (rw q (same_self x))
    go (inr q) more = or_right (same_decision x y) (list_any (same_decision x) xs) (more q)

with_taken : List Decision → Taken → Taken
with_taken xs d = record { pinned = λ n. d.pinned n || is_among xs (Pinned n); exact = λ n. d.exact n || is_among xs (Exact n) }

with_has : (xs : List Decision) (d : Taken) (x : Decision) → has (with_taken xs d) x ≡ (has d x || is_among xs x)
unfolding with_taken
with_has xs d (Pinned n) = refl
with_has xs d (Exact n) = refl

nothing : Taken
nothing = record { pinned = λ n. false; exact = λ n. false }

has_nothing : (x : Decision) → has nothing x ≡ false
unfolding nothing
has_nothing (Pinned n) = refl
has_nothing (Exact n) = refl

-- ---- how many decisions below a bound aren't taken

untaken : Bool → ℕ
untaken true = 0
untaken false = 1

left : Taken → ℕ → ℕ
left d zero = 0
left d (suc n) = left d n + (untaken (has d (Pinned n)) + untaken (has d (Exact n)))

untaken_less : (b c : Bool) → (b ≡ true → c ≡ true) → untaken c ≤ untaken b
unfolding untaken
untaken_less true true h = omega arith
untaken_less true false h = absurd (true≢false (sym (h refl)))
untaken_less false true h = omega arith
untaken_less false false h = omega arith

left_less : (d g : Taken) (n : ℕ) → AreWithin d g → left g n ≤ left d n
unfolding left
left_less d g zero w = omega arith
left_less d g (suc n) w =
    let a = left_less d g n w in
    let b = untaken_less (has d (Pinned n)) (has g (Pinned n)) (w (Pinned n)) in
    let c = untaken_less (has d (Exact n)) (has g (Exact n)) (w (Exact n)) in
    omega (arith, a, b, c)

untaken_new : (b c : Bool) → b ≡ false → c ≡ true → untaken c + 1 ≤ untaken b
unfolding untaken
untaken_new true c f g = absurd (true≢false f)
untaken_new false true f g = omega arith
untaken_new false false f g = absurd (true≢false (sym g))

-- with a new one there are fewer
left_fewer : (d g : Taken) (x : Decision) (n : ℕ) → AreWithin d g → has d x ≡ false → has g x ≡ true → step_in x < n → left g n < left d n
unfolding left
left_fewer d g x zero w f q l = absurd (omega (arith, l))
left_fewer d g x (suc n) w f q l = go (cases_eq (step_in x) n) (λ l. left_fewer d g x n w f q l)
  where
    others : left g n ≤ left d n
    others = left_less d g n w

    pins : untaken (has g (Pinned n)) ≤ untaken (has d (Pinned n))
    pins = untaken_less (has d (Pinned n)) (has g (Pinned n)) (w (Pinned n))

    exacts : untaken (has g (Exact n)) ≤ untaken (has d (Exact n))
    exacts = untaken_less (has d (Exact n)) (has g (Exact n)) (w (Exact n))

    last : (y : Decision) → has d y ≡ false → has g y ≡ true → step_in y ≡ n →
        left g n + (untaken (has g (Pinned n)) + untaken (has g (Exact n))) < left d n + (untaken (has d (Pinned n)) + untaken (has d (Exact n)))
    last (Pinned m) f q e =
        let a : untaken (has g (Pinned n)) + 1 ≤ untaken (has d (Pinned n)) = untaken_new (has d (Pinned n)) (has g (Pinned n)) (rw e at f) (rw e at q) in
        omega (arith, a, others, exacts)
    last (Exact m) f q e =
        let a : untaken (has g (Exact n)) + 1 ≤ untaken (has d (Exact n)) = untaken_new (has d (Exact n)) (has g (Exact n)) (rw e at f) (rw e at q) in
        omega (arith, a, others, pins)

    go : (step_in x ≡ n) ⊎ (step_in x ≡ n → ⊥) → (step_in x < n → left g n < left d n) →
        left g n + (untaken (has g (Pinned n)) + untaken (has g (Exact n))) < left d n + (untaken (has d (Pinned n)) + untaken (has d (Exact n)))
    go (inl e) more = last x f q e
    go (inr o) more = let a = more (grind (arith, l, o)) in omega (arith, a, pins, exacts)

-- ---- the slice

module _ (R : Reference) (keeps : ExtentsKeep R) where
  grown : Taken → Taken
  grown d = with_taken (asks R d) d

  grows : (d : Taken) → AreWithin d (grown d)
  unfolding grown
  grows d x h = with_has (asks R d) d x ∙ or_left (has d x) (is_among (asks R d) x) h

  -- what is taken in is in each closed set above
  still_below : (d e : Taken) → IsClosed R e → AreWithin d e → AreWithin (grown d) e
  unfolding grown
  still_below d e closed w x h = go (or_cases (has d x) (is_among (asks R d) x) (sym (with_has (asks R d) d x) ∙ h))
    where
      go : (has d x ≡ true) ⊎ (is_among (asks R d) x ≡ true) → has e x ≡ true
      go (inl q) = w x q
      go (inr q) = asks_above R keeps d e closed w x (among_is (asks R d) x q)

  fewer : (d : Taken) (x : Decision) → Contains (asks R d) x → left (grown d) (length R.moments) < left d (length R.moments)
  unfolding grown
  fewer d x c =
      let q = asks_new R d x c in
      left_fewer d (with_taken (asks R d) d) x (length R.moments) (λ y h. with_has (asks R d) d y ∙ or_left (has d y) (is_among (asks R d) y) h) q.0
      (with_has (asks R d) d x ∙ or_right (has d x) (is_among (asks R d) x) (is_among_all (asks R d) x c)) q.1

  slice_from : (fuel : ℕ) (d : Taken) → left d (length R.moments) ≤ fuel → ((e : Taken) → IsClosed R e → AreWithin d e) → (s : Taken) × IsSlice R s
  slice_from zero d l below = go (asks R d) refl
    where
      go : (xs : List Decision) → asks R d ≡ xs → (s : Taken) × IsSlice R s
      go [] q = (d, record { closed = closed_if R d (λ x c. none_in x (subst (λ (xs : List Decision). Contains xs x) q c)); least = below })
      go (x ∷ xs) q = let a = fewer d x (subst (λ (xs : List Decision). Contains xs x) (sym q) (here x xs)) in absurd (omega (arith, a, l))
  slice_from (suc fuel) d l below = go (asks R d) refl (λ a. slice_from fuel (grown d) (omega (arith, a, l)) (λ e closed. still_below d e closed (below e closed)))
    where
      go : (xs : List Decision) → asks R d ≡ xs → (left (grown d) (length R.moments) < left d (length R.moments) → (s : Taken) × IsSlice R s) → (s : Taken) × IsSlice R s
      go [] q more = (d, record { closed = closed_if R d (λ x c. none_in x (subst (λ (xs : List Decision). Contains xs x) q c)); least = below })
      go (x ∷ xs) q more = more (fewer d x (subst (λ (xs : List Decision). Contains xs x) (sym q) (here x xs)))

  pub has_slice : (s : Taken) × IsSlice R s
  has_slice = slice_from (left nothing (length R.moments)) nothing (omega arith) (λ e closed x h. absurd (true≢false (sym h ∙ has_nothing x)))
