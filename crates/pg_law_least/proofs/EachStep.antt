-- What holds of each step of a run, under some decisions and under more of them.
use Rattle.std.proofs.Common.{ℕ, suc, ◌+◌, ◌<◌, ◌≤◌, List, [], ◌∷◌, length, arith}
use Rattle.std.specs.Prelude.{Contains}
use Rattle.std.specs.List.{AllZip, AllByRecursion}
use Rattle.pg_slice_rules.specs.Moments.{Moment}
use Rattle.pg_slice_rules.specs.SymbolicValues.{Symbolic}
use Rattle.pg_slice_rules.specs.Known.{Reference, SymbolicState, Seen, Taken, after_step, seen_from, seen_in, start_of}
use Rattle.pg_slice_rules.specs.Closed.{AreWithin}
use Rattle.pg_law_least.specs.Keeps.{ExtentsKeep, every, steps_of}
use Rattle.pg_law_least.specs.Along.{region_in}
use Rattle.pg_law_least.specs.Laws.{IsPlain, SameExtents}
use Rattle.pg_region_paths.proofs.Elements.{here, there}
use Rattle.pg_law_least.proofs.KeptLikeness.{IsLink}
use Rattle.pg_law_least.proofs.LikeValues.{Likes, likes_link}
use Rattle.pg_law_least.proofs.AskedOfValues.{SeenLike}
use Rattle.pg_law_least.proofs.ThreadsAfterSteps.{live_at}
use Rattle.pg_law_least.proofs.AlikeKnowledge.{RunLike, start_like}
use Rattle.pg_law_least.proofs.AlikeAlongRuns.{left_out, same_extents, seen_like, step_like}

module _ (R : Reference) (keeps : ExtentsKeep R) (d e : Taken) (bound : ℕ) (L : Symbolic → Symbolic → Type 0) (k : IsLink d e bound L) where
  -- step n of the run, with what is known before it
  abbrev at : ℕ → Moment → Taken → SymbolicState → Seen
  at n m c s = record { number = n; moment = m; region = region_in R m; live = live_at R c n m s; before = s }

  -- holds of a step where what is known before it is alike
  abbrev HoldsOf : (Seen → Seen → Type 0) → Type 0
  HoldsOf P = (n : ℕ) → n < bound → (m : Moment) (s t u : SymbolicState) → RunLike R keeps d e bound L k s t u → Contains (steps_of R) (at n m every u) → P (at n m d s) (at n m e t)

  each_from : (P : Seen → Seen → Type 0) → HoldsOf P → (n : ℕ) (s t u : SymbolicState) (ms : List Moment) → n + length ms ≤ bound → RunLike R keeps d e bound L k s t u →
      ((z : Seen) → Contains (seen_from R every n u ms) z → Contains (steps_of R) z) → AllZip P (seen_from R d n s ms) (seen_from R e n t ms)
  unfolding seen_from
  each_from P f n s t u [] l like c = tt
  each_from P f n s t u (m ∷ ms) l like c =
      let below : n < bound = omega (arith, l) in
      let in_run = c _ (here _ (seen_from R every (suc n) (after_step R every n m u) ms)) in (
        f n below m s t u like in_run,
        each_from P f (suc n) (after_step R d n m s) (after_step R e n m t) (after_step R every n m u) ms (omega (arith, l)) (step_like R keeps d e bound L k n below m s t u like in_run)
            (λ z q. c z (there _ (seen_from R every (suc n) (after_step R every n m u) ms) z q)),
      )

run_by : (R : Reference) (keeps : ExtentsKeep R) (d e : Taken) (L : Symbolic → Symbolic → Type 0) (k : IsLink d e (length R.moments) L) (P : Seen → Seen → Type 0) →
    HoldsOf R keeps d e (length R.moments) L k P → AllZip P (seen_in R d) (seen_in R e)
run_by R keeps d e L k P f = each_from R keeps d e (length R.moments) L k P f 0 (start_of R.program) (start_of R.program) (start_of R.program) R.moments (omega arith)
    (start_like R keeps d e (length R.moments) L k) (λ z c. c)

-- what is known before each step under d and under e
pub run_like : (R : Reference) → ExtentsKeep R → (d e : Taken) (L : Symbolic → Symbolic → Type 0) → IsLink d e (length R.moments) L → AllZip (SeenLike L) (seen_in R d) (seen_in R e)
run_like R keeps d e L k = run_by R keeps d e L k (SeenLike L) (λ n below m s t u like in_run. seen_like R keeps d e (length R.moments) L k n below m s t u like in_run)

-- the open extents
pub same_in : (R : Reference) → ExtentsKeep R → (d e : Taken) → AreWithin d e → AllZip SameExtents (seen_in R d) (seen_in R e)
same_in R keeps d e within =
    let k = likes_link d e (length R.moments) within in
    run_by R keeps d e (Likes e) k SameExtents (λ n below m s t u like in_run j. same_extents R keeps d e (length R.moments) (Likes e) k n below m s t u like in_run j)

first_of : (P : Seen → Type 0) (xs ys : List Seen) → AllZip (λ (x y : Seen). P x) xs ys → AllByRecursion P xs
first_of P [] [] h = tt
first_of P [] (y ∷ ys) h = absurd h
first_of P (x ∷ xs) [] h = absurd h
first_of P (x ∷ xs) (y ∷ ys) h = (h.0, first_of P xs ys h.1)

-- what is left out is no event
pub plain_in : (R : Reference) → ExtentsKeep R → (d : Taken) → AllByRecursion IsPlain (seen_in R d)
plain_in R keeps d =
    let k = likes_link d d (length R.moments) (λ x h. h) in
    first_of IsPlain (seen_in R d) (seen_in R d)
    (run_by R keeps d d (Likes d) k (λ (x y : Seen). IsPlain x) (λ n below m s t u like in_run q. left_out R keeps d d (length R.moments) (Likes d) k n below m s t u like in_run q))
