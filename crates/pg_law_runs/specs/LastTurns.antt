-- Runs up to each thread's last turn.
use Rattle.std.specs.Prelude.{◌≡◌, ◌≤◌, ℤ, List, [], ◌∷◌, length, true, if◌then◌else◌}
use Rattle.pg_num.specs.declared.limits.TheConstants.{RECORDING_STEP_LIMIT}
use Rattle.pg_ir.specs.Program.{NumberedProgram}
use Rattle.pg_run_objects.specs.Sync as sync
use Rattle.pg_run_trace.specs.declared.step.Step.{Step}
use Rattle.pg_run_trace.specs.declared.turn.Turn.{Turn}
use Rattle.pg_run.specs.State.{State, initial}
use Rattle.pg_run.specs.Permitted.{has_turn}
use Rattle.pg_run.specs.Runs.{IsRun, event_of}
use Rattle.pg_law_effects.specs.PermittedSteps.{turns_behind}

-- the steps whose threads have a turn left before them, where these turns are left before the first
abbrev pub until_last : List Turn → List Step → List Step
until_last us [] = []
until_last us (x ∷ xs) = if has_turn x.thread.0 us then x ∷ until_last (turns_behind (event_of x) us) xs else until_last (turns_behind (event_of x) us) xs

-- these steps are a run of the machine from its first state, in any order of the threads that are ready, that exits in
-- the state z within the limit of a recording
pub record IsRecorded (p : NumberedProgram) (input : List ℤ) (xs : List Step) (z : State) : Type 0 where
  pub run : IsRun [] p input (initial p) xs z
  pub over : sync.over z.sync ≡ true
  pub short : length xs ≤ RECORDING_STEP_LIMIT
