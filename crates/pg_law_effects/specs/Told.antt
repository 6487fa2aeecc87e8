-- What a step tells, whatever it leaves, and how that tells its effect.
use Rattle.std.specs.Prelude.{◌≡◌, ℕ, Bool, true, false, Option, Some, None, Result, Ok, Err}
use Rattle.pg_ir.specs.declared.request.TrapName.{TrapName}
use Rattle.pg_run.specs.pg_run_trace.declared.step.Access.{Access}
use Rattle.pg_run.specs.pg_run_trace.declared.step.Step.{Step}
use Rattle.pg_run.specs.pg_run_trace.declared.step.StepKind.{StepKind}
use Rattle.pg_run.specs.pg_run_trace.declared.step.StepKind.TheVariants as told
use Rattle.pg_run.specs.pg_run_trace.Steps.{range_of}
use Rattle.pg_run.specs.MachineStep.{Stepped, Did, Trapped}
use Rattle.pg_law_effects.specs.Effect.{Effect}

-- the step that was done; or the trap, with its instruction
abbrev pub tells : Stepped → Result Step (TrapName × ℕ)
tells (Did x s) = Ok x
tells (Trapped name id) = Err (name, id)

-- the access that is told is what the effect writes or reads
abbrev pub TellsAs : Bool → Access → Effect → Type 0
TellsAs true a e = (e.reads ≡ None) × (e.writes ≡ Some (record { at = range_of a; number = a.number }))
TellsAs false a e = (e.reads ≡ Some (range_of a)) × (e.writes ≡ None)

-- where none is told, the effect reads and writes no byte
abbrev pub TellsAccess : Option Access → Effect → Type 0
TellsAccess None e = (e.reads ≡ None) × (e.writes ≡ None)
TellsAccess (Some a) e = TellsAs a.writes a e

abbrev pub asks : StepKind → Bool
asks (told.Event e) = true
asks k = false
