-- Cuts by how many steps of each thread are done.
use Rattle.std.proofs.Common.{◌≡◌, ◌≢◌, ℕ, ◌==◌, ◌-◌, Bool, true, false, cond, List, [], ◌∷◌, refl, sym, ap, ◌∙◌, arith, suc}
use Rattle.std.specs.Prelude.{nat_lt}
use Rattle.std.specs.List.{AllByRecursion as AllOf}
use Rattle.std.proofs.lemmas.Bool.{eqb-true, eq-eqb, ltb-true, ltb-false, lt-ltb, le-ltb}
use Rattle.pg_law_threads.specs.Steps.{View}
use Rattle.pg_law_threads.specs.Intervals.{Timed}
use Rattle.pg_law_threads.specs.Cuts.{Mark, whole, IsCut, one_less, marked, count_done}

module _ {A : Type 0} (V : View A) where
  pub whole_marked : (c : ℕ → ℕ) (xs : List (Timed A)) → whole (marked V c xs) ≡ xs
  whole_marked c [] = refl
  whole_marked c (x ∷ xs) = ap (λ l. x ∷ l) (whole_marked (one_less (V.thread x.did) c) xs)

  less_zero : (t u : ℕ) (c : ℕ → ℕ) → c u ≡ 0 → one_less t c u ≡ 0
  less_zero t u c h = go (u == t)
    where
      go : (e : Bool) → cond e (c u - 1) (c u) ≡ 0
      go true = omega arith
      go false = h

  none_marked : (t : ℕ) (c : ℕ → ℕ) (xs : List (Timed A)) → c t ≡ 0 → AllOf (λ n. n.done ≡ true → V.thread n.step.did ≢ t) (marked V c xs)
  none_marked t c [] h = tt
  none_marked t c (x ∷ xs) h = (
    (λ w e. let z = ltb-true 0 (c (V.thread x.did)) w in let y : c (V.thread x.did) ≡ 0 = ap c e ∙ h in absurd (omega (arith, z, y))),
    none_marked t (one_less (V.thread x.did) c) xs (less_zero (V.thread x.did) t c h),
  )

  -- the first steps of each thread are a cut
  pub cut_marked : (c : ℕ → ℕ) (xs : List (Timed A)) → IsCut V (marked V c xs)
  cut_marked c [] = tt
  cut_marked c (x ∷ xs) = (
    (λ w. none_marked (V.thread x.did) (one_less (V.thread x.did) c) xs (less_zero (V.thread x.did) (V.thread x.did) c (let z = ltb-false 0 (c (V.thread x.did)) w in omega (arith, z)))),
    cut_marked (one_less (V.thread x.did) c) xs,
  )

  marked_same : (c d : ℕ → ℕ) (xs : List (Timed A)) → ((u : ℕ) → c u ≡ d u) → marked V c xs ≡ marked V d xs
  marked_same c d [] h = refl
  marked_same c d (x ∷ xs) h =
      let a = h (V.thread x.did) in
      let ih = marked_same (one_less (V.thread x.did) c) (one_less (V.thread x.did) d) xs (λ u. less_same (u == V.thread x.did) (c u) (d u) (h u)) in
      rw (a, ih) refl
    where
      less_same : (e : Bool) (m n : ℕ) → m ≡ n → cond e (m - 1) m ≡ cond e (n - 1) n
      less_same e m n q = rw q refl

  none_counted : (t : ℕ) (ms : List (Mark (Timed A))) → AllOf (λ n. n.done ≡ true → V.thread n.step.did ≢ t) ms → count_done V ms t ≡ 0
  none_counted t [] h = refl
  none_counted t (m ∷ ms) h = go m.done (t == V.thread m.step.did) refl refl (none_counted t ms h.1)
    where
      go : (b e : Bool) → m.done ≡ b → (t == V.thread m.step.did) ≡ e → count_done V ms t ≡ 0 → cond b (cond e (suc (count_done V ms t)) (count_done V ms t)) (count_done V ms t) ≡ 0
      go true true w v ih = absurd (h.0 w (sym (eqb-true t (V.thread m.step.did) v)))
      go true false w v ih = ih
      go false e w v ih = ih

  -- each cut is the first steps of each thread, so many as are done in it
  pub marked_counts : (ms : List (Mark (Timed A))) → IsCut V ms → marked V (count_done V ms) (whole ms) ≡ ms
  marked_counts [] h = refl
  marked_counts (m ∷ ms) h = go m.done refl (marked_counts ms h.1)
    where
      t : ℕ
      t = V.thread m.step.did

      counted : (b : Bool) → m.done ≡ b → nat_lt 0 (cond b
          (cond (V.thread m.step.did == V.thread m.step.did) (suc (count_done V ms (V.thread m.step.did))) (count_done V ms (V.thread m.step.did))) (count_done V ms (V.thread m.step.did))) ≡ b
      counted true w = rw (eq-eqb (V.thread m.step.did) (V.thread m.step.did) refl) (lt-ltb 0 (suc (count_done V ms (V.thread m.step.did))) (omega arith))
      counted false w = let z = none_counted (V.thread m.step.did) ms (h.0 w) in le-ltb 0 (count_done V ms (V.thread m.step.did)) (omega (arith, z))

      rest : (b : Bool) → m.done ≡ b → (u : ℕ) → one_less (V.thread m.step.did) (count_done V (m ∷ ms)) u ≡ count_done V ms u
      rest b w u = one b (u == V.thread m.step.did) w refl
        where
          one : (b e : Bool) → m.done ≡ b → (u == V.thread m.step.did) ≡ e →
              cond (u == V.thread m.step.did) (cond m.done (cond (u == V.thread m.step.did) (suc (count_done V ms u)) (count_done V ms u)) (count_done V ms u) - 1)
              (cond m.done (cond (u == V.thread m.step.did) (suc (count_done V ms u)) (count_done V ms u)) (count_done V ms u)) ≡ count_done V ms u
          one true true w v = rw (w, v) (omega arith)
          one true false w v = rw (w, v) refl
          one false true w v = rw (w, v) (let q = eqb-true u (V.thread m.step.did) v in
              let z : count_done V ms u ≡ 0 = ap (count_done V ms) q ∙ none_counted (V.thread m.step.did) ms (h.0 w) in omega (arith, z))
          one false false w v = rw (w, v) refl

      go : (b : Bool) → m.done ≡ b → marked V (count_done V ms) (whole ms) ≡ ms → marked V (count_done V (m ∷ ms)) (m.step ∷ whole ms) ≡ m ∷ ms
      go b w ih =
          let head : nat_lt 0 (count_done V (m ∷ ms) (V.thread m.step.did)) ≡ m.done = rw w (counted b w) in
          let tail : marked V (one_less (V.thread m.step.did) (count_done V (m ∷ ms))) (whole ms) ≡ ms =
          marked_same (one_less (V.thread m.step.did) (count_done V (m ∷ ms))) (count_done V ms) (whole ms) (rest b w) ∙ ih in
          ap (λ d. (record { done = d; step = m.step }) ∷ marked V (one_less (V.thread m.step.did) (count_done V (m ∷ ms))) (whole ms)) head ∙ ap (λ l. m ∷ l) tail
