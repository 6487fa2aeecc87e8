-- The full guided run prints what its steps tell, and does as many turns as the guided run.
use Rattle.std.proofs.Common.{◌≡◌, ℕ, ℤ, ◌+◌, ◌≤◌, suc, List, [], ◌∷◌, ◌++◌, length, Option, Some, None, refl, ap, ◌∙◌, arith, zero}
use Rattle.std.specs.Prelude.{take, slice_index, slice_set}
use Rattle.pg_ir.specs.declared.ids.InstrId.{InstrId}
use Rattle.pg_ir.specs.Program.{NumberedProgram}
use Rattle.pg_law_threads.specs.Effects.{deeds}
use Rattle.pg_law_threads.specs.Intervals.{turns_done}
use Rattle.pg_run_trace.specs.declared.schedule.Schedule.{Schedule}
use Rattle.pg_run_trace.specs.declared.turn.Turn.{Turn}
use Rattle.pg_run.specs.declared.guided_end.GuidedEnd.{GuidedEnd}
use Rattle.pg_run.specs.Guided.{GuidedRun, Walk, all_left, ended_at, guided, guided_of, walk}
use Rattle.pg_run.specs.Runs.{events}
use Rattle.pg_run.specs.State.{State, initial}
use Rattle.pg_run.proofs.GuidedRuns.{guided_is}
use Rattle.pg_law_runs.specs.pg_law_effects.PermittedSteps.{none_taken}
use Rattle.pg_law_runs.specs.Cuts.{CanRun}
use Rattle.pg_law_runs.proofs.RunsAsDeeds.{turns_are}
use Rattle.pg_law_order.specs.Good.{IsGoodRun, run_along}
use Rattle.pg_law_order.specs.Served.{guided_along}
use Rattle.pg_law_order.proofs.FullRunOutput.{full_goes_on}
use Rattle.pg_law_course.specs.Plan.{guided_deeds, turn_count}
use Rattle.pg_law_course.specs.Prints.{output_of}
use Rattle.pg_law_course.proofs.GuidedPlan.{ordered_full}
use Rattle.pg_law_course.proofs.PrintedTexts.{run_prints}

none_printed : (p : NumberedProgram) → (initial p).printed ≡ []
unfolding initial
none_printed p = refl

pub output : (p : NumberedProgram) (input : List ℤ) (s : Schedule) → CanRun p input → IsGoodRun p input s → (run_along p input s).state.printed ≡ output_of p (run_along p input s).trace
output p input s can g =
    run_prints s.gated p input can.program (initial p) (run_along p input s).trace (run_along p input s).state (ordered_full p input s can g).permitted.run
    ∙ ap (λ (l : List ℕ). l ++ output_of p (run_along p input s).trace) (none_printed p)

-- ---- the number of turns

take_few : {A : Type 0} (n : ℕ) (xs : List A) → n ≤ length xs → length (take n xs) ≡ n
take_few zero xs h = refl
take_few (suc n) [] h = absurd (omega (arith, h))
take_few (suc n) (x ∷ xs) h = ap suc (take_few n xs (omega (arith, h)))

ended_few : (w : Walk) (left : List ℕ) (k m : ℕ) (o : Option GuidedEnd) (more : State → List ℕ → GuidedRun) → k ≤ m → ((z : State) (l : List ℕ) → (more z l).turns ≤ m)
    → (ended_at w left k o more).turns ≤ m
ended_few w left k m None more h n = n w.state left
ended_few w left k m (Some e) more h n = h

module _ (gated : List InstrId) (p : NumberedProgram) (input : List ℤ) where
  turns_few : (us : List Turn) (k : ℕ) (s : State) (left : List ℕ) → (guided gated p input us k s left).turns ≤ k + length us
  unfolding guided
  turns_few [] k s left = omega arith
  turns_few (u ∷ us) k s left =
      let w : Walk = walk (slice_index left u.thread.0) gated p input u s in
      ended_few w (slice_set left u.thread.0 w.left) k (k + suc (length us)) w.end (λ t rest. guided gated p input us (k + 1) t rest) (omega arith)
      (λ t rest. let h = turns_few us (k + 1) t rest in omega (arith, h))

guided_few : (gated : List InstrId) (p : NumberedProgram) (input : List ℤ) (us : List Turn) → (guided_of p input us gated).turns ≤ length us
unfolding guided_of
guided_few gated p input us = let h = turns_few gated p input us 0 (initial p) all_left in omega (arith, h)

pub same_turns : (p : NumberedProgram) (input : List ℤ) (s : Schedule) → (guided_along p input s).turns ≡ turn_count p input s
unfolding guided_deeds
same_turns p input s =
    let done : turns_done deeds 0 (guided_deeds p input s) ≡ 0 + length (events (run_along p input s).trace) = turns_are s.gated p input (initial p) none_taken 0 (run_along p input s).trace in
    let same : length (events (run_along p input s).trace) ≡ length (events (guided_along p input s).trace) = ap (λ (l : List Turn). length l) (full_goes_on s.gated p input s.turns).events in
    let taken : length (events (guided_along p input s).trace) ≡ (guided_along p input s).turns =
    ap (λ (l : List Turn). length l) (guided_is p input s.turns s.gated).1 ∙ take_few (guided_along p input s).turns s.turns (guided_few s.gated p input s.turns) in
    omega (arith, done, same, taken)
