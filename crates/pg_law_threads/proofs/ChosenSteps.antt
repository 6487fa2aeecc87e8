-- The steps of a plan that a test chooses.
use Rattle.std.proofs.Common.{◌≡◌, ℕ, Bool, true, false, cond, List, [], ◌∷◌, refl, sym, ap, subst}
use Rattle.std.specs.List.{AllByRecursion as AllOf, filter}
use Rattle.pg_law_threads.specs.Steps.{View, Conflict, EachPair}
use Rattle.pg_law_threads.specs.Intervals.{done_after, timed, times, AreOrdered, AreTurns}
use Rattle.pg_law_threads.specs.Plans.{IsPlan}

module _ {A : Type 0} (f : A → Bool) where
  pub all_filter : (P : A → Type 0) (xs : List A) → AllOf P xs → AllOf P (filter f xs)
  all_filter P [] h = tt
  all_filter P (x ∷ xs) h = go (f x) (all_filter P xs h.1)
    where
      go : (b : Bool) → AllOf P (filter f xs) → AllOf P (cond b (x ∷ filter f xs) (filter f xs))
      go true ih = (h.0, ih)
      go false ih = ih

  pub pairs_filter : (R : A → A → Type 0) (xs : List A) → EachPair R xs → EachPair R (filter f xs)
  pairs_filter R [] h = tt
  pairs_filter R (x ∷ xs) h = go (f x) (all_filter (R x) xs h.0) (pairs_filter R xs h.1)
    where
      go : (b : Bool) → AllOf (R x) (filter f xs) → EachPair R (filter f xs) → EachPair R (cond b (x ∷ filter f xs) (filter f xs))
      go true a ih = (a, ih)
      go false a ih = ih

module _ {A : Type 0} (V : View A) (T : List ℕ) (f : A → Bool) (events : (x : A) → V.is_event x ≡ true → f x ≡ true) where
  pub times_filter : (k : ℕ) (xs : List A) → times V T k (filter f xs) ≡ filter (λ y. f y.did) (times V T k xs)
  times_filter k [] = refl
  times_filter k (x ∷ xs) = go (f x) (V.is_event x) refl refl (times_filter (done_after (V.is_event x) k) xs)
    where
      go : (b e : Bool) → f x ≡ b → V.is_event x ≡ e → times V T (done_after (V.is_event x) k) (filter f xs) ≡ filter (λ y. f y.did) (times V T (done_after (V.is_event x) k) xs)
          → times V T k (cond (f x) (x ∷ filter f xs) (filter f xs))
          ≡ cond (f x) (timed V T k x ∷ filter (λ y. f y.did) (times V T (done_after (V.is_event x) k) xs)) (filter (λ y. f y.did) (times V T (done_after (V.is_event x) k) xs))
      go true e w v ih = rw w (ap (λ l. timed V T k x ∷ l) ih)
      go false true w v ih = let a = events x v in absurd (cc)
      go false false w v ih = rw w (subst (λ n. times V T n (filter f xs) ≡ filter (λ y. f y.did) (times V T (done_after (V.is_event x) k) xs)) (ap (λ e. done_after e k) v) ih)

  pub turns_filter : (k : ℕ) (xs : List A) → AreTurns V T k xs → AreTurns V T k (filter f xs)
  turns_filter k [] h = tt
  turns_filter k (x ∷ xs) h = go (f x) (V.is_event x) refl refl (turns_filter (done_after (V.is_event x) k) xs h.1)
    where
      go : (b e : Bool) → f x ≡ b → V.is_event x ≡ e → AreTurns V T (done_after (V.is_event x) k) (filter f xs) → AreTurns V T k (cond (f x) (x ∷ filter f xs) (filter f xs))
      go true e w v ih = rw w (h.0, ih)
      go false true w v ih = let a = events x v in absurd (cc)
      go false false w v ih = rw w (subst (λ n. AreTurns V T n (filter f xs)) (ap (λ e. done_after e k) v) ih)

  pub plan_filter : (xs : List A) → IsPlan V T xs → IsPlan V T (filter f xs)
  plan_filter xs h = record {
    turns = turns_filter 0 xs h.turns;
    ordered = subst (EachPair (λ x y. Conflict V x.did y.did → AreOrdered x y)) (sym (times_filter 0 xs))
        (pairs_filter (λ y. f y.did) (λ x y. Conflict V x.did y.did → AreOrdered x y) (times V T 0 xs) h.ordered);
  }
