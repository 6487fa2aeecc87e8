-- Steps with their intervals.
use Rattle.std.proofs.Common.{◌≡◌, ℕ, ◌<◌, ◌≤◌, ◌⊎◌, Bool, true, false, List, [], ◌∷◌, ◌++◌, length, Some, refl, sym, ap, ◌∙◌, subst, arith, suc, inl, inr}
use Rattle.std.specs.Prelude.{slice_get}
use Rattle.std.specs.List.{AllByRecursion as AllOf}
use Rattle.std.proofs.lemmas.Bool.{cases_eq}
use Rattle.pg_law_threads.specs.Steps.{View, EachPair}
use Rattle.pg_law_threads.specs.Intervals.{last_before, done_after, turns_done, Timed, timed, times, did_of, AreTurns}
use Rattle.pg_law_threads.proofs.DoneLists.{all_map, cons_head, cons_tail}
use Rattle.pg_law_threads.proofs.LastAndNextTurn.{last_up, last_own, last_other, next_up, next_is, next_own, owner_below}

pub after_up : (e : Bool) (k : ℕ) → k ≤ done_after e k
after_up true k = omega arith
after_up false k = omega arith

module _ {A : Type 0} (V : View A) where
  pub did_times : (T : List ℕ) (k : ℕ) (xs : List A) → did_of (times V T k xs) ≡ xs
  did_times T k [] = refl
  did_times T k (x ∷ xs) = ap (λ l. x ∷ l) (did_times T (done_after (V.is_event x) k) xs)

  pub done_up : (k : ℕ) (xs : List A) → k ≤ turns_done V k xs
  done_up k [] = omega arith
  done_up k (x ∷ xs) = let a = after_up (V.is_event x) k in let ih = done_up (done_after (V.is_event x) k) xs in omega (arith, a, ih)

  pub done_append : (k : ℕ) (xs ys : List A) → turns_done V k (xs ++ ys) ≡ turns_done V (turns_done V k xs) ys
  done_append k [] ys = refl
  done_append k (x ∷ xs) ys = done_append (done_after (V.is_event x) k) xs ys

  module _ (T : List ℕ) where
    pub turns_left_of : (k : ℕ) (xs ys : List A) → AreTurns V T k (xs ++ ys) → AreTurns V T k xs
    turns_left_of k [] ys h = tt
    turns_left_of k (x ∷ xs) ys h = (h.0, turns_left_of (done_after (V.is_event x) k) xs ys h.1)

    pub turns_right_of : (k : ℕ) (xs ys : List A) → AreTurns V T k (xs ++ ys) → AreTurns V T (turns_done V k xs) ys
    turns_right_of k [] ys h = h
    turns_right_of k (x ∷ xs) ys h = turns_right_of (done_after (V.is_event x) k) xs ys h.1

    -- the turns that are done are turns
    pub within_after : (k : ℕ) (x : A) → k ≤ length T → (V.is_event x ≡ true → slice_get T k ≡ Some (V.thread x)) → done_after (V.is_event x) k ≤ length T
    within_after k x le h = go (V.is_event x) h
      where
        go : (e : Bool) → (e ≡ true → slice_get T k ≡ Some (V.thread x)) → done_after e k ≤ length T
        go true h = let l = owner_below T k (V.thread x) (h refl) in omega (arith, l)
        go false h = le

    pub within_end : (k : ℕ) (xs : List A) → k ≤ length T → AreTurns V T k xs → turns_done V k xs ≤ length T
    within_end k [] le h = le
    within_end k (x ∷ xs) le h = within_end (done_after (V.is_event x) k) xs (within_after k x le h.0) h.1

    -- ---- one step's interval

    pub low_up : (k : ℕ) (x : A) → (timed V T k x).low ≤ done_after (V.is_event x) k
    low_up k x = last_up (V.thread x) T (done_after (V.is_event x) k)

    pub high_up : (k : ℕ) (x : A) → k ≤ length T → k ≤ (timed V T k x).high
    high_up k x le = next_up (V.thread x) T k le

    pub event_low : (k : ℕ) (x : A) → (V.is_event x ≡ true → slice_get T k ≡ Some (V.thread x)) → V.is_event x ≡ true → (timed V T k x).low ≡ suc k
    event_low k x h v = rw v (last_own (V.thread x) T k (h v))

    pub event_high : (k : ℕ) (x : A) → (V.is_event x ≡ true → slice_get T k ≡ Some (V.thread x)) → V.is_event x ≡ true → (timed V T k x).high ≡ k
    event_high k x h v = next_own (V.thread x) T k (h v)

    pub plain_low : (k : ℕ) (x : A) → V.is_event x ≡ false → (timed V T k x).low ≡ last_before (V.thread x) T k
    plain_low k x v = rw v refl

    -- ---- lists of them

    pub highs_up : (k : ℕ) (xs : List A) → k ≤ length T → AreTurns V T k xs → AllOf (λ y. k ≤ y.high) (times V T k xs)
    highs_up k [] le h = tt
    highs_up k (x ∷ xs) le h =
        let a = after_up (V.is_event x) k in
        (high_up k x le, all_map (λ y l. omega (arith, a, l)) (times V T (done_after (V.is_event x) k) xs) (highs_up (done_after (V.is_event x) k) xs (within_after k x le h.0) h.1))

    -- a step's last turn isn't after the next turn of a later step
    pub low_high : (k : ℕ) (xs : List A) → k ≤ length T → AreTurns V T k xs → EachPair (λ x y. x.low ≤ y.high) (times V T k xs)
    low_high k [] le h = tt
    low_high k (x ∷ xs) le h =
        let a = low_up k x in
        let k' = done_after (V.is_event x) k in (
          all_map (λ y l. omega (arith, a, l)) (times V T k' xs) (highs_up k' xs (within_after k x le h.0) h.1),
          low_high k' xs (within_after k x le h.0) h.1,
        )

    -- an event is its own last turn and its own next turn
    pub events_low : (k : ℕ) (xs : List A) → AreTurns V T k xs → AllOf (λ y. V.is_event y.did ≡ true → y.low ≡ suc y.high) (times V T k xs)
    events_low k [] h = tt
    events_low k (x ∷ xs) h =
        ((λ v. event_low k x h.0 v ∙ ap suc (sym (event_high k x h.0 v))), events_low (done_after (V.is_event x) k) xs h.1)

    -- a step's next turn is its thread's, or there is none
    pub highs_own : (k : ℕ) (xs : List A) → AllOf (λ y. (slice_get T y.high ≡ Some (V.thread y.did)) ⊎ (y.high ≡ length T)) (times V T k xs)
    highs_own k [] = tt
    highs_own k (x ∷ xs) = (next_is (V.thread x) T k, highs_own (done_after (V.is_event x) k) xs)

    -- each event's turn is below the number of turns done at the end
    pub events_below : (k : ℕ) (xs : List A) → AreTurns V T k xs → AllOf (λ y. V.is_event y.did ≡ true → y.high < turns_done V k xs) (times V T k xs)
    events_below k [] h = tt
    events_below k (x ∷ xs) h = (
      (λ v. let a = event_high k x h.0 v in let q : done_after (V.is_event x) k ≡ suc k = rw v refl in let u = done_up (done_after (V.is_event x) k) xs in omega (arith, a, q, u)),
      events_below (done_after (V.is_event x) k) xs h.1,
    )

    -- the step at a place, by the turns done before it
    pub timed_at : (k : ℕ) (xs : List A) (ys : List (Timed A)) (p : Timed A) (zs : List (Timed A)) → times V T k xs ≡ ys ++ p ∷ zs → p ≡ timed V T (turns_done V k (did_of ys)) p.did
    timed_at k [] [] p zs e = absurd (cc)
    timed_at k [] (y ∷ ys) p zs e = absurd (cc)
    timed_at k (x ∷ xs) [] p zs e = subst (λ q. q ≡ timed V T k q.did) (cons_head e) refl
    timed_at k (x ∷ xs) (y ∷ ys) p zs e =
        subst (λ q. p ≡ timed V T (turns_done V (done_after (V.is_event q.did) k) (did_of ys)) p.did) (cons_head e) (timed_at (done_after (V.is_event x) k) xs ys p zs (cons_tail e))

    -- where no step of thread u has its last turn beyond g, u has no turn beyond g among those done
    pub last_bound : (u g k : ℕ) (xs : List A) → AreTurns V T k xs → last_before u T k ≤ g → AllOf (λ y. V.thread y.did ≡ u → y.low ≤ g) (times V T k xs)
        → last_before u T (turns_done V k xs) ≤ g
    last_bound u g k [] h l a = l
    last_bound u g k (x ∷ xs) h l a = last_bound u g (done_after (V.is_event x) k) xs h.1 (go (cases_eq (V.thread x) u) (V.is_event x) refl) a.1
      where
        go : (V.thread x ≡ u) ⊎ (V.thread x ≡ u → ⊥) → (e : Bool) → V.is_event x ≡ e → last_before u T (done_after (V.is_event x) k) ≤ g
        go (inl q) e w = subst (λ t. last_before t T (done_after (V.is_event x) k) ≤ g) q (a.0 q)
        go (inr n) true w = rw w (let s = last_other u T k (λ o. n (let z = h.0 w in cc)) in rw s l)
        go (inr n) false w = rw w l

    -- the steps before a place, with their intervals
    pub times_front : (k : ℕ) (xs : List A) (ys zs : List (Timed A)) → times V T k xs ≡ ys ++ zs → times V T k (did_of ys) ≡ ys
    times_front k xs [] zs e = refl
    times_front k [] (y ∷ ys) zs e = absurd (cc)
    times_front k (x ∷ xs) (y ∷ ys) zs e =
        subst (λ q. timed V T k q.did ∷ times V T (done_after (V.is_event q.did) k) (did_of ys) ≡ q ∷ ys) (cons_head e)
        (ap (λ l. timed V T k x ∷ l) (times_front (done_after (V.is_event x) k) xs ys zs (cons_tail e)))
