-- A run as a list of steps of the machine, in any order of the threads that are ready: the rotation run,
-- guided and permitted runs are runs of this kind. What such a list did is said by the steps themselves.
use Rattle.std.specs.Prelude.{◌≡◌, ℤ, List, [], ◌∷◌, true}
use Rattle.pg_run_trace.specs.pg_ir.declared.ids.InstrId.{InstrId}
use Rattle.pg_run_trace.specs.pg_ir.Program.{NumberedProgram}
use Rattle.pg_run_trace.specs.declared.step.Step.{Step}
pub use Rattle.pg_run_trace.specs.Steps.{event_of, events, steps_of, turn_at}
use Rattle.pg_run.specs.State.{State}
use Rattle.pg_run.specs.MachineStep.{Did, ready, step}

-- the thread of x is ready in s, and its step is x
pub record Takes (gated : List InstrId) (p : NumberedProgram) (input : List ℤ) (s : State) (x : Step) : Type 0 where
  pub after : State
  pub is_ready : ready p s x.thread.0 ≡ true
  pub is_step : step gated p input s x.thread.0 ≡ Did x after

-- from s on these steps are taken one after another, and the last leaves z
abbrev pub IsRun : List InstrId → NumberedProgram → List ℤ → State → List Step → State → Type 0
IsRun gated p input s [] z = s ≡ z
IsRun gated p input s (x ∷ xs) z = (t : Takes gated p input s x) × IsRun gated p input t.after xs z
