-- A step that is recorded, as the trace, the state and the trap that it leaves.
use Rattle.std.specs.Prelude.{List, [], ◌∷◌, ◌++◌, Option, Some, None, Result, Ok, Err}
use Rattle.pg_run_trace.specs.pg_ir.declared.ids.InstrId.{InstrId}
use Rattle.pg_run_trace.specs.pg_ir.declared.request.TrapName.{TrapName}
use Rattle.pg_run_trace.specs.declared.step.Step.{Step}
use Rattle.pg_run.specs.declared.outcome.Outcome.{Outcome}
use Rattle.pg_run.specs.declared.share.Share.{Share}
use Rattle.pg_run.specs.State.{State}
use Rattle.pg_run.specs.Rotation.{RunResult, onto}
use Rattle.pg_run.specs.MachineStep.{Stepped, Did, Trapped}

-- a step that was done is recorded; a trap leaves all as it was, and ends the run
abbrev pub steps_with : List Step → Stepped → List Step
steps_with xs (Did x s) = xs ++ x ∷ []
steps_with xs (Trapped name id) = xs

abbrev pub state_with : State → Stepped → State
state_with s (Did x t) = t
state_with s (Trapped name id) = s

-- the trap in place of the step, and its instruction
abbrev pub trapped_in : Stepped → Option (TrapName × InstrId)
trapped_in (Did x s) = None
trapped_in (Trapped name id) = Some (name, record { 0 = id })

-- the run after a step that left this share, or where its end comes in place of the step
abbrev pub on_turn : Result Share Outcome → List Step → State → (State → Share → RunResult) → RunResult
on_turn (Ok v) xs s more = onto xs (more s v)
on_turn (Err end) xs s more = record { trace = xs; state = s; end = end }
