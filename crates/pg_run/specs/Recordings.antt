-- Recordings: runs with the threads in any order in which they are ready, and how they end.
use Rattle.std.specs.Prelude.{◌≡◌, ◌≤◌, ◌⊎◌, ℕ, ℤ, List, [], length, true, false}
use Rattle.pg_run_trace.specs.pg_num.declared.limits.TheConstants.{RECORDING_STEP_LIMIT}
use Rattle.pg_run_trace.specs.pg_ir.Program.{NumberedProgram}
use Rattle.pg_run_trace.specs.pg_ir.declared.ids.InstrId.{InstrId}
use Rattle.pg_run_trace.specs.pg_ir.declared.request.TrapName.{TrapName}
use Rattle.pg_run_objects.specs.Sync as sync
use Rattle.pg_run_trace.specs.declared.step.Step.{Step}
use Rattle.pg_run.specs.declared.outcome.Outcome.{Outcome}
use Rattle.pg_run.specs.declared.outcome.Outcome.TheVariants as ends
use Rattle.pg_run.specs.declared.outcome.Refusal.TheVariants as refusals
use Rattle.pg_run.specs.MachineStep.{Trapped, ready, step}
use Rattle.pg_run.specs.Rotation.{deadlock_of}
use Rattle.pg_run.specs.Runs.{IsRun}
use Rattle.pg_run.specs.State.{State, exit_value_of, initial}

-- a thread is ready whose next step traps so: by its own state, or by a check on the objects
pub record ReadyTraps (p : NumberedProgram) (input : List ℤ) (z : State) (name : TrapName) (id : InstrId) : Type 0 where
  pub thread : ℕ
  pub is_ready : ready p z thread ≡ true
  pub traps : step [] p input z thread ≡ Trapped name id.0

-- the run isn't over, no thread is ready, and this is the trap of the deadlock
pub record IsDeadlock (p : NumberedProgram) (z : State) (name : TrapName) (id : InstrId) : Type 0 where
  pub going : sync.over z.sync ≡ false
  pub none_ready : (t : ℕ) → ready p z t ≡ false
  pub is_trap : ends.Refused (refusals.Trap name id) ≡ deadlock_of p z

-- all steps that a run may have were done, and a thread is ready
pub record IsSpent (limit : ℕ) (p : NumberedProgram) (xs : List Step) (z : State) : Type 0 where
  pub all : length xs ≡ limit
  pub thread : ℕ
  pub is_ready : ready p z thread ≡ true

-- how steps that lead to the state z end, where a run has at most so many steps
abbrev pub EndsBy : ℕ → NumberedProgram → List ℤ → List Step → State → Outcome → Type 0
EndsBy limit p input xs z (ends.Exit value) = (sync.over z.sync ≡ true) × (value ≡ exit_value_of z)
EndsBy limit p input xs z (ends.Refused (refusals.Trap name id)) = ReadyTraps p input z name id ⊎ IsDeadlock p z name id
EndsBy limit p input xs z (ends.Refused refusals.Budget) = IsSpent limit p xs z

-- a recording of a program on an input: steps of threads that are ready, one after another from the first state to
-- the state z, as many as a recording may have at most, and their end
pub record IsRecording (p : NumberedProgram) (input : List ℤ) (xs : List Step) (z : State) (end : Outcome) : Type 0 where
  pub run : IsRun [] p input (initial p) xs z
  pub short : length xs ≤ RECORDING_STEP_LIMIT
  pub ends : EndsBy RECORDING_STEP_LIMIT p input xs z end
