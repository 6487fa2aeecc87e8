-- What a schedule of a recorded run is good for.
use Rattle.std.specs.Prelude.{◌≡◌, ℕ, ℤ, List, map, true}
use Rattle.pg_ir.specs.Program.{NumberedProgram}
use Rattle.pg_run_objects.specs.Sync as sync
use Rattle.pg_run_trace.specs.declared.schedule.Schedule.{Schedule}
use Rattle.pg_run_trace.specs.declared.step.Step.{Step}
use Rattle.pg_run_trace.specs.Races.{with_gated}
use Rattle.pg_run.specs.State.{State, exit_value_of}
use Rattle.pg_run.specs.Guided.{guided_of}
use Rattle.pg_run.specs.declared.guided_end.GuidedEnd.TheVariants as ends
use Rattle.pg_law_runs.specs.Cuts.{IsOrderedFull, steps_by}
use Rattle.pg_law_runs.specs.LastTurns.{until_last}

-- the steps of a run as they are told along the schedule, up to each thread's last turn
abbrev pub along : Schedule → List Step → List Step
along s xs = until_last s.turns (map (with_gated s.gated) xs)

-- the steps xs, which lead to z, are an ordered full run along the schedule up to each thread's last turn, which prints
-- the same and exits with the same value
pub record IsOrderedUpTo (p : NumberedProgram) (input : List ℤ) (s : Schedule) (xs : List Step) (z : State) : Type 0 where
  pub last : State
  pub ordered : IsOrderedFull p input s.turns s.gated (along s xs) last
  pub over : sync.over last.sync ≡ true
  pub printed : last.printed ≡ z.printed
  pub value : exit_value_of last ≡ exit_value_of z

-- the guided run along the schedule exits with that value, prints the same, is an ordered full run, and does in each
-- thread these steps up to its last turn
pub record GuidesAs (p : NumberedProgram) (input : List ℤ) (s : Schedule) (xs : List Step) (z : State) : Type 0 where
  pub end : (guided_of p input s.turns s.gated).end ≡ ends.Exit (exit_value_of z)
  pub printed : (guided_of p input s.turns s.gated).state.printed ≡ z.printed
  pub ordered : IsOrderedFull p input s.turns s.gated (guided_of p input s.turns s.gated).trace (guided_of p input s.turns s.gated).state
  pub steps : (t : ℕ) → steps_by t (guided_of p input s.turns s.gated).trace ≡ steps_by t (along s xs)
