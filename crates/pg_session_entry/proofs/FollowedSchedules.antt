-- Following the schedule of a recorded run that exits.
use Rattle.std.proofs.Common.{◌≡◌, ℕ, ℤ, suc, ◌≤◌, List, [], ◌∷◌, length, map, Bool, true, false, ap, ◌∙◌, arith}
use Rattle.std.specs.Prelude.{nat_lt, if◌then◌else◌}
use Rattle.std.proofs.lemmas.List.{length-map}
use Rattle.pg_num.specs.declared.limits.TheConstants.{RECORDING_STEP_LIMIT}
use Rattle.pg_ir.specs.Program.{NumberedProgram}
use Rattle.pg_run_trace.specs.declared.step.Step.{Step}
use Rattle.pg_run_trace.specs.declared.turn.Turn.{Turn}
use Rattle.pg_run_trace.specs.Races.{schedule_of, with_gated}
use Rattle.pg_run.specs.declared.guided_end.GuidedEnd.{GuidedEnd}
use Rattle.pg_run.specs.declared.guided_end.GuidedEnd.TheVariants as ends
use Rattle.pg_run.specs.Follow.{Breaks, Exits, following, following_of, reached}
use Rattle.pg_run.specs.Guided.{GuidedRun, guided_of}
use Rattle.pg_run.specs.Permitted.{has_turn}
use Rattle.pg_run.specs.Runs.{event_of}
use Rattle.pg_run.specs.State.{State, exit_value_of}
use Rattle.pg_law_own_input.specs.pg_law_effects.PermittedSteps.{turns_behind}
use Rattle.pg_law_order.specs.pg_law_runs.LastTurns.{IsRecorded, until_last}
use Rattle.pg_law_order.specs.Schedules.{GuidesAs, along}

not_more : (m n : ℕ) → n ≤ m → nat_lt m n ≡ false
not_more m n h = grind arith

-- ---- the schedule of a recorded run is followed to its exit

until_fewer : (us : List Turn) (xs : List Step) → length (until_last us xs) ≤ length xs
until_fewer us [] = omega arith
until_fewer us (x ∷ xs) = go (has_turn x.thread.0 us) (until_fewer (turns_behind (event_of x) us) xs)
  where
    go : (b : Bool) → length (until_last (turns_behind (event_of x) us) xs) ≤ length xs
        → length (if b then x ∷ until_last (turns_behind (event_of x) us) xs else until_last (turns_behind (event_of x) us) xs) ≤ suc (length xs)
    go true h = omega (arith, h)
    go false h = omega (arith, h)

pub along_fewer : (p : NumberedProgram) (input : List ℤ) (xs : List Step) (z : State) → IsRecorded p input xs z → length (along (schedule_of xs) xs) ≤ RECORDING_STEP_LIMIT
along_fewer p input xs z h =
    let a = until_fewer (schedule_of xs).turns (map (with_gated (schedule_of xs).gated) xs) in
    let b : length (map (with_gated (schedule_of xs).gated) xs) ≡ length xs = length-map xs (with_gated (schedule_of xs).gated) in
    let c = h.short in
    omega (arith, a, b, c)

ended_so : (r : GuidedRun) (printed : List ℕ) (value : ℤ) → r.end ≡ ends.Exit value → r.state.printed ≡ printed
    → length r.trace ≤ RECORDING_STEP_LIMIT → following r ≡ Exits r.trace printed value
ended_so r printed value e q few =
    ap (λ (b : Bool). if b then Breaks else reached r.trace r.state.printed r.turns r.end) (not_more RECORDING_STEP_LIMIT (length r.trace) few)
    ∙ (ap (λ (f : GuidedEnd). reached r.trace r.state.printed r.turns f) e ∙ ap (λ (s : List ℕ). Exits r.trace s value) q)

pub follows : (p : NumberedProgram) (input : List ℤ) (xs : List Step) (z : State) → GuidesAs p input (schedule_of xs) xs z
    → length (guided_of p input (schedule_of xs).turns (schedule_of xs).gated).trace ≤ RECORDING_STEP_LIMIT
    → following_of p input (schedule_of xs).turns (schedule_of xs).gated ≡ Exits (guided_of p input (schedule_of xs).turns (schedule_of xs).gated).trace z.printed (exit_value_of z)
unfolding following_of
follows p input xs z g few = ended_so (guided_of p input (schedule_of xs).turns (schedule_of xs).gated) z.printed (exit_value_of z) g.end g.printed few
