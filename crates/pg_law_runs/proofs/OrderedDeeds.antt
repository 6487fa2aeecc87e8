-- A run of deeds is ordered exactly where the steps that they tell are.
use Rattle.std.proofs.Common.{◌≡◌, ℕ, ◌≤◌, List, [], ◌∷◌, true, ◌∙◌, ap, subst, arith, suc, inl, inr, ◌⊎◌}
use Rattle.std.specs.Prelude.{⊤}
use Rattle.std.specs.List.{AllByRecursion as AllOf}
use Rattle.pg_law_threads.specs.Steps.{View, Conflict, EachPair}
use Rattle.pg_law_threads.specs.Intervals.{Timed, times, done_after, AreOrdered, AreTurns, IsOrdered, last_before, next_from}
use Rattle.pg_law_threads.proofs.TimedSteps.{events_low, low_high}

module _ {A B : Type 0} (V : View A) (W : View B) (R : A → B → Type 0) where
  -- each of a list and its partner
  abbrev pub Paired : List A → List B → Type 0
  Paired [] [] = ⊤
  Paired [] (y ∷ ys) = ⊥
  Paired (x ∷ xs) [] = ⊥
  Paired (x ∷ xs) (y ∷ ys) = R x y × Paired xs ys

  pub record Timely (x : Timed A) (y : Timed B) : Type 0 where
    pub did : R x.did y.did
    pub low : x.low ≡ y.low
    pub high : x.high ≡ y.high

  abbrev pub AllTimely : List (Timed A) → List (Timed B) → Type 0
  AllTimely [] [] = ⊤
  AllTimely [] (y ∷ ys) = ⊥
  AllTimely (x ∷ xs) [] = ⊥
  AllTimely (x ∷ xs) (y ∷ ys) = Timely x y × AllTimely xs ys

  module _ (threads : (x : A) (y : B) → R x y → V.thread x ≡ W.thread y) (events : (x : A) (y : B) → R x y → V.is_event x ≡ W.is_event y)
      (meets : (x x' : A) (y y' : B) → R x y → R x' y' → Conflict W y y' → Conflict V x x' ⊎ ((W.is_event y ≡ true) × (W.is_event y' ≡ true))) where
    all_timely : (T : List ℕ) (k : ℕ) (xs : List A) (ys : List B) → Paired xs ys → AllTimely (times V T k xs) (times W T k ys)
    all_timely T k [] [] h = tt
    all_timely T k [] (y ∷ ys) h = absurd h
    all_timely T k (x ∷ xs) [] h = absurd h
    all_timely T k (x ∷ xs) (y ∷ ys) h =
        let e = events x y h.0 in
        let t = threads x y h.0 in (
          record {
            did = h.0;
            low = ap (λ b. last_before (V.thread x) T (done_after b k)) e ∙ ap (λ u. last_before u T (done_after (W.is_event y) k)) t;
            high = ap (λ u. next_from u T k) t;
          },
          subst (λ b. AllTimely (times V T (done_after (V.is_event x) k) xs) (times W T (done_after b k) ys)) e (all_timely T (done_after (V.is_event x) k) xs ys h.1),
        )

    abbrev SettledV : Timed A → Timed A → Type 0
    SettledV x y = Conflict V x.did y.did → AreOrdered x y

    abbrev SettledW : Timed B → Timed B → Type 0
    SettledW x y = Conflict W x.did y.did → AreOrdered x y

    abbrev IsEventLow : Timed B → Type 0
    IsEventLow y = W.is_event y.did ≡ true → y.low ≡ suc y.high

    settled : (x x' : Timed A) (y y' : Timed B) → Timely x y → Timely x' y' → SettledV x x' → y.low ≤ y'.high → IsEventLow y → IsEventLow y' → Conflict W y.did y'.did
        → AreOrdered y y'
    settled x x' y y' h k s l e f c = go (meets x.did x'.did y.did y'.did h.did k.did c)
      where
        turned : AreOrdered x x' → AreOrdered y y'
        turned (inl lt) = let a = h.high in let b = k.low in inl (omega (arith, lt, a, b))
        turned (inr lt) = let a = h.low in let b = k.high in inr (omega (arith, lt, a, b))

        go : Conflict V x.did x'.did ⊎ ((W.is_event y.did ≡ true) × (W.is_event y'.did ≡ true)) → AreOrdered y y'
        go (inl q) = turned (s q)
        go (inr q) = let a = e q.0 in let b = f q.1 in inl (omega (arith, a, b, l))

    pub ordered_as : (T : List ℕ) (xs : List A) (ys : List B) → Paired xs ys → AreTurns W T 0 ys → IsOrdered V T xs → IsOrdered W T ys
    ordered_as T xs ys h t o = go (times V T 0 xs) (times W T 0 ys) (all_timely T 0 xs ys h) o (low_high W T 0 ys (omega arith) t) (events_low W T 0 ys t)
      where
        one : (x : Timed A) (y : Timed B) → Timely x y → IsEventLow y → (xs : List (Timed A)) (ys : List (Timed B)) → AllTimely xs ys → AllOf (SettledV x) xs
            → AllOf (λ y'. y.low ≤ y'.high) ys → AllOf IsEventLow ys → AllOf (SettledW y) ys
        one x y h e [] [] p s l q = tt
        one x y h e [] (y' ∷ ys) p s l q = absurd p
        one x y h e (x' ∷ xs) [] p s l q = absurd p
        one x y h e (x' ∷ xs) (y' ∷ ys) p s l q = ((λ c. settled x x' y y' h p.0 s.0 l.0 e q.0 c), one x y h e xs ys p.1 s.1 l.1 q.1)

        go : (xs : List (Timed A)) (ys : List (Timed B)) → AllTimely xs ys → EachPair SettledV xs → EachPair (λ y y'. y.low ≤ y'.high) ys → AllOf IsEventLow ys → EachPair SettledW ys
        go [] [] p s l q = tt
        go [] (y ∷ ys) p s l q = absurd p
        go (x ∷ xs) [] p s l q = absurd p
        go (x ∷ xs) (y ∷ ys) p s l q = (one x y p.0 q.0 xs ys p.1 s.0 l.0 q.1, go xs ys p.1 s.1 l.1 q.1)
