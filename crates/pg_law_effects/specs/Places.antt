-- Two steps in both orders.
use Rattle.std.specs.Prelude.{◌≡◌, ℕ, ℤ, List}
use Rattle.pg_ir.specs.declared.ids.InstrId.{InstrId}
use Rattle.pg_ir.specs.Program.{NumberedProgram}
use Rattle.pg_run.specs.pg_run_trace.declared.step.Step.{Step}
use Rattle.pg_run.specs.State.{State}
use Rattle.pg_run.specs.MachineStep.{Did, step}

-- thread t's step x leads to z, and thread u's step y to w, from one state: behind each the other is done,
-- and both orders lead to the same state
pub record ChangePlaces (gated : List InstrId) (p : NumberedProgram) (input : List ℤ) (t u : ℕ) (x y : Step) (z w : State) : Type 0 where
  pub last : State
  pub second : step gated p input z u ≡ Did y last
  pub first : step gated p input w t ≡ Did x last
