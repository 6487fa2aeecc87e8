-- A run's state with the input and the gated instructions of the run.
use Rattle.std.specs.Prelude.{ℕ, ℤ, List, length, nat_lt, Option, Some, None, if◌then◌else◌}
use Rattle.pg_run_trace.specs.pg_ir.declared.ids.InstrId.{InstrId}
use Rattle.pg_run.specs.declared.machine.Stepped.{Stepped}
use Rattle.pg_run.specs.declared.machine.Stepped.TheVariants as answers
use Rattle.pg_run.specs.declared.machine.Next.{Next}
use Rattle.pg_run.specs.declared.machine.Next.TheVariants as nexts
use Rattle.pg_run.specs.State.{State, next_of, instr_of}
use Rattle.pg_run.specs.MachineStep as steps
use Rattle.pg_run_trace.specs.pg_ir.Program.{NumberedProgram}
use Rattle.pg_run_thread.specs.declared.action.Action.{Action}
use Rattle.pg_run_thread.specs.declared.action.Action.TheVariants as actions
use Rattle.pg_run_trace.specs.declared.turn.Turn.{Turn}

pub record BoundState : Type 0 where
  pub state : State
  pub input : List ℤ
  pub gated : List InstrId

-- how the answer of a step and the state after it read
abbrev pub stepped_as : Stepped → State → steps.Stepped
stepped_as (answers.Did x) s = steps.Did x s
stepped_as (answers.Trapped name id) s = steps.Trapped name id.0

-- P holds where the step trapped
abbrev pub IfTrapped : Stepped → Type 0 → Type 0
IfTrapped (answers.Did x) P = Unit {0}
IfTrapped (answers.Trapped name id) P = P

-- ---- what a thread's next step is

abbrev pub event_or : State → ℕ → Option Turn → Next
event_or s t None = nexts.Other (record { 0 = instr_of s t })
event_or s t (Some u) = nexts.Event u

abbrev pub next_by : List InstrId → State → ℕ → Action → Next
next_by gated s t actions.Ended = nexts.Ended
next_by gated s t (actions.Trap name) = nexts.Trap name (record { 0 = instr_of s t })
next_by gated s t action = event_or s t (steps.turn_with s t (steps.happening_of gated s t action))

abbrev pub next_step : NumberedProgram → BoundState → ℕ → Next
next_step p m t = if nat_lt t (length m.state.locals) then next_by m.gated m.state t (next_of p m.state t) else nexts.NotMade
