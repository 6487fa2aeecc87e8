-- A step of a run, by its number: what is known before it under all decisions and under some.
use Rattle.std.proofs.Common.{◌≡◌, ℕ, zero, suc, ◌+◌, ◌<◌, ◌≤◌, List, [], ◌∷◌, length, take, Some, None, refl, subst, arith}
use Rattle.std.specs.Prelude.{Contains, slice_get}
use Rattle.pg_slice_rules.specs.Moments.{Moment, thread_in}
use Rattle.pg_slice_rules.specs.Extents.{is_live}
use Rattle.pg_slice_rules.specs.Known.{Reference, SymbolicState, Seen, Taken, after_step, seen_from, seen_in, start_of, thread_of}
use Rattle.pg_law_least.specs.Keeps.{ExtentsKeep, every, steps_of}
use Rattle.pg_region_paths.proofs.Elements.{here, there}
use Rattle.pg_law_least.proofs.KeptLikeness.{IsLink}
use Rattle.pg_law_least.proofs.LikeValues.{Likes, likes_link}
use Rattle.pg_law_least.proofs.ClosedDecisions.{in_every}
use Rattle.pg_law_least.proofs.AlikeKnowledge.{start_like}
use Rattle.pg_law_least.proofs.AlikeAlongRuns.{step_like}
use Rattle.pg_law_demands.specs.Along.{known_at, known_from}
use Rattle.pg_law_demands.proofs.StepBack.{IsRun, of_every, seen_with}

abbrev pub of_those : Reference → Taken → ℕ → Moment → SymbolicState → Seen
of_those R e n m s = seen_with R n m (is_live e.pinned (thread_of s (thread_in m)).extents) s

pub the_link : (e : Taken) (bound : ℕ) → IsLink e every bound (Likes every)
the_link e bound = likes_link e every bound (λ x h. in_every x)

-- what is known before a step and behind it, its thread, and how many calls this is in
pub record Standing : Type 0 where
  pub s : SymbolicState
  pub after : SymbolicState
  pub t : ℕ
  pub k : ℕ

pub record At (R : Reference) (keeps : ExtentsKeep R) (e : Taken) (bound n : ℕ) (m : Moment) (s u : SymbolicState) : Type 0 where
  pub like : IsRun R keeps e bound (Likes every) (the_link e bound) s u
  pub in_run : Contains (steps_of R) (of_every R n m u)
  pub in_those : Contains (seen_in R e) (of_those R e n m s)
  pub below : n < bound

module _ (R : Reference) (keeps : ExtentsKeep R) (e : Taken) (bound : ℕ) where
  at_from : (i n : ℕ) (s u : SymbolicState) (ms : List Moment) → n + length ms ≤ bound → IsRun R keeps e bound (Likes every) (the_link e bound) s u →
      ((z : Seen) → Contains (seen_from R every n u ms) z → Contains (steps_of R) z) → ((z : Seen) → Contains (seen_from R e n s ms) z → Contains (seen_in R e) z) → (m : Moment) →
      slice_get ms i ≡ Some m → At R keeps e bound (n + i) m (known_from R e n s (take i ms)) (known_from R every n u (take i ms))
  unfolding seen_from known_from
  at_from i n s u [] l like c k m q = let z : None ≡ Some m = q in absurd (cc)
  at_from zero n s u (x ∷ ms) l like c k m q =
      let z : n + 0 ≡ n = omega arith in
      rw z (subst (λ (y : Moment). At R keeps e bound n y s u) (one x m q) (record {
        like = like;
        in_run = c _ (here _ (seen_from R every (suc n) (after_step R every n x u) ms));
        in_those = k _ (here _ (seen_from R e (suc n) (after_step R e n x s) ms));
        below = omega (arith, l);
      }))
    where
      one : (x z : Moment) → Some x ≡ Some z → x ≡ z
      one x z q = cc
  at_from (suc i) n s u (x ∷ ms) l like c k m q =
      let below : n < bound = omega (arith, l) in
      let in_run = c _ (here _ (seen_from R every (suc n) (after_step R every n x u) ms)) in
      let z : n + suc i ≡ suc n + i = omega arith in
      rw z (at_from i (suc n) (after_step R e n x s) (after_step R every n x u) ms (omega (arith, l)) (step_like R keeps e every bound (Likes every) (the_link e bound) n below x s u u like in_run)
      (λ z q. c z (there _ (seen_from R every (suc n) (after_step R every n x u) ms) z q))
      (λ z q. k z (there _ (seen_from R e (suc n) (after_step R e n x s) ms) z q)) m q)

pub at_step : (R : Reference) (keeps : ExtentsKeep R) (e : Taken) → (n : ℕ) (m : Moment) → slice_get R.moments n ≡ Some m →
    At R keeps e (length R.moments) n m (known_at R e n) (known_at R every n)
at_step R keeps e n m q =
    let z : 0 + n ≡ n = omega arith in
    subst (λ (i : ℕ). At R keeps e (length R.moments) i m (known_at R e n) (known_at R every n)) z
    (at_from R keeps e (length R.moments) n 0 (start_of R.program) (start_of R.program) R.moments (omega arith)
    (start_like R keeps e every (length R.moments) (Likes every) (the_link e (length R.moments))) (λ z c. c) (λ z c. c) m q)

pub next_step : (R : Reference) (d : Taken) (n k : ℕ) (s : SymbolicState) (ms : List Moment) (m : Moment) → slice_get ms k ≡ Some m →
    known_from R d n s (take (suc k) ms) ≡ after_step R d (n + k) m (known_from R d n s (take k ms))
unfolding known_from
next_step R d n zero s [] m e = absurd cc
next_step R d n (suc k) s [] m e = absurd cc
next_step R d n zero s (x ∷ ms) m e = let h : x ≡ m = cc in let z : n + 0 ≡ n = omega arith in rw z (ap_step h)
  where
    ap_step : x ≡ m → after_step R d n x s ≡ after_step R d n m s
    ap_step h = rw h refl
next_step R d n (suc k) s (x ∷ ms) m e = let z : n + suc k ≡ suc n + k = omega arith in rw z (next_step R d (suc n) k (after_step R d n x s) ms m e)
