-- Steps as they are told where other loads and stores are events.
use Rattle.std.specs.Prelude.{List, Bool}
use Rattle.pg_ir.specs.declared.ids.InstrId.{InstrId}
use Rattle.pg_run.specs.pg_run_trace.declared.step.Step.{Step}
use Rattle.pg_run.specs.pg_run_trace.declared.step.StepKind.{StepKind}
use Rattle.pg_run.specs.pg_run_trace.declared.step.StepKind.TheVariants as told
use Rattle.pg_run.specs.pg_run_trace.Steps.{events}
use Rattle.pg_run.specs.MachineStep.{Stepped, Did, Trapped, is_gated}

-- a load or a store is an event or not
abbrev pub marked : Bool → StepKind → StepKind
marked event (told.Access a) = told.Access (record a { event = event })
marked event k = k

-- the step, where the loads and stores of these instructions are events
abbrev pub with_gates : List InstrId → Step → Step
with_gates gated x = record x { kind = marked (is_gated gated x.instr.0) x.kind }

abbrev pub gated_as : List InstrId → Stepped → Stepped
gated_as gated (Did x s) = Did (with_gates gated x) s
gated_as gated (Trapped name id) = Trapped name id
