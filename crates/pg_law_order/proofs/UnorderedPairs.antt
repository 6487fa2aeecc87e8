-- A trace has no first unordered pair exactly where it is ordered.
use Rattle.std.proofs.Common.{◌≡◌, ℕ, ◌+◌, ◌⊎◌, Bool, true, false, List, [], ◌∷◌, ◌++◌, Option, Some, None, refl, sym, ◌∙◌, subst, inl, inr, append_assoc, append-nil}
use Rattle.std.specs.Prelude.{◌↔◌, not, nat_lt}
use Rattle.std.specs.List.{AllByRecursion as AllOf, position_from}
use Rattle.std.proofs.lemmas.Bool.{true≢false, cases_Bool, ltb-true, lt-ltb, and_cases, and_left, and_right, not-false, not_from_true}
use Rattle.pg_law_threads.specs.Steps.{Conflict, EachPair}
use Rattle.pg_law_threads.specs.Intervals.{Timed, AreOrdered, IsOrdered, owners}
use Rattle.pg_law_threads.proofs.DoneLists.{all_map, pairs_before, pairs_more}
use Rattle.pg_run_trace.specs.declared.step.Step.{Step}
use Rattle.pg_run_trace.specs.Races.{conflict, first_unordered, is_unordered, overlap, recorded, steps_by, timed_by, unordered_in}
use Rattle.pg_law_order.proofs.Conflicts.{at_a_byte, in_conflict}

none_passes : {A : Type 0} (test : A → Bool) (k : ℕ) (xs : List A) → position_from test k xs ≡ None → AllOf (λ x. test x ≡ false) xs
none_passes test k [] h = tt
none_passes test k (x ∷ xs) h = go (test x) refl (none_passes test (k + 1) xs)
  where
    go : (b : Bool) → test x ≡ b → (position_from test (k + 1) xs ≡ None → AllOf (λ x. test x ≡ false) xs) → AllOf (λ x. test x ≡ false) (x ∷ xs)
    go true w ih = let z = rw w at h in absurd (cc)
    go false w ih = let z = rw w at h in (w, ih z)

passes_none : {A : Type 0} (test : A → Bool) (k : ℕ) (xs : List A) → AllOf (λ x. test x ≡ false) xs → position_from test k xs ≡ None
passes_none test k [] h = refl
passes_none test k (x ∷ xs) h = rw h.0 (passes_none test (k + 1) xs h.1)

module _ (is_event : Step → Bool) where
  abbrev Settled : Timed Step → Timed Step → Type 0
  Settled x y = Conflict (steps_by is_event) x.did y.did → AreOrdered x y

  pub settled_of : (x y : Timed Step) → is_unordered x y ≡ false → Settled x y
  settled_of x y h c = go (and_cases (conflict x.did y.did) (overlap x y) h)
    where
      apart : (not (nat_lt x.high y.low) ≡ false) ⊎ (not (nat_lt y.high x.low) ≡ false) → AreOrdered x y
      apart (inl e) = inl (ltb-true x.high y.low (not-false (nat_lt x.high y.low) e))
      apart (inr e) = inr (ltb-true y.high x.low (not-false (nat_lt y.high x.low) e))

      go : (conflict x.did y.did ≡ false) ⊎ (overlap x y ≡ false) → AreOrdered x y
      go (inl e) = absurd (true≢false (sym (in_conflict is_event x.did y.did c) ∙ e))
      go (inr e) = apart (and_cases (not (nat_lt x.high y.low)) (not (nat_lt y.high x.low)) e)

  of_settled : (x y : Timed Step) → Settled x y → is_unordered x y ≡ false
  of_settled x y h = go (cases_Bool (conflict x.did y.did))
    where
      apart : AreOrdered x y → overlap x y ≡ false
      apart (inl lt) = and_left (not (nat_lt x.high y.low)) (not (nat_lt y.high x.low)) (not_from_true (nat_lt x.high y.low) (lt-ltb x.high y.low lt))
      apart (inr lt) = and_right (not (nat_lt x.high y.low)) (not (nat_lt y.high x.low)) (not_from_true (nat_lt y.high x.low) (lt-ltb y.high x.low lt))

      go : (conflict x.did y.did ≡ true) ⊎ (conflict x.did y.did ≡ false) → is_unordered x y ≡ false
      go (inl e) = and_right (conflict x.did y.did) (overlap x y) (apart (h (at_a_byte is_event x.did y.did e)))
      go (inr e) = and_left (conflict x.did y.did) (overlap x y) e

  pairs_of_none : (xs : List (Timed Step)) (j : ℕ) (ys : List (Timed Step)) → unordered_in xs j ys ≡ None → EachPair Settled xs → EachPair Settled (xs ++ ys)
  pairs_of_none xs j [] h a = subst (EachPair Settled) (sym (append-nil xs)) a
  pairs_of_none xs j (y ∷ ys) h a = go (position_from (λ x. is_unordered x y) 0 xs) refl (pairs_of_none (xs ++ y ∷ []) (j + 1) ys)
    where
      go : (o : Option ℕ) → position_from (λ x. is_unordered x y) 0 xs ≡ o
          → (unordered_in (xs ++ y ∷ []) (j + 1) ys ≡ None → EachPair Settled (xs ++ y ∷ []) → EachPair Settled ((xs ++ y ∷ []) ++ ys)) → EachPair Settled (xs ++ y ∷ ys)
      go (Some i) e ih = let z = rw e at h in absurd (cc)
      go None e ih =
          let z = rw e at h in
          subst (EachPair Settled) (append_assoc xs (y ∷ []) ys) (ih z (pairs_more Settled xs y a (all_map (λ x w. settled_of x y w) xs (none_passes (λ x. is_unordered x y) 0 xs e))))

  none_of_pairs : (xs : List (Timed Step)) (j : ℕ) (ys : List (Timed Step)) → EachPair Settled (xs ++ ys) → unordered_in xs j ys ≡ None
  none_of_pairs xs j [] a = refl
  none_of_pairs xs j (y ∷ ys) a =
      let p = passes_none (λ x. is_unordered x y) 0 xs (all_map (λ x w. of_settled x y w) xs (pairs_before Settled xs y ys a)) in
      rw p (none_of_pairs (xs ++ y ∷ []) (j + 1) ys (subst (EachPair Settled) (sym (append_assoc xs (y ∷ []) ys)) a))

pub ordered_none : (xs : List Step) → (first_unordered xs ≡ None) ↔ IsOrdered recorded (owners recorded xs) xs
ordered_none xs = ((λ h. pairs_of_none (λ x. recorded.is_event x) [] 0 (timed_by recorded xs) h tt), (λ a. none_of_pairs (λ x. recorded.is_event x) [] 0 (timed_by recorded xs) a))
