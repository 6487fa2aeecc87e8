-- Reference runs and the inputs that they were recorded on.
use Rattle.std.specs.Prelude.{◌≡◌, ℕ, ℤ, List, Option, true}
use Rattle.pg_ir.specs.declared.ids.InstrId.{InstrId}
use Rattle.pg_ir.specs.Program.{NumberedProgram}
use Rattle.pg_region_accesses.specs.Accesses.{RootedList}
use Rattle.pg_run_trace.specs.declared.step.Step.{Step}
use Rattle.pg_run_trace.specs.declared.turn.Turn.{Turn}
use Rattle.pg_slice_rules.specs.Closed.{admits}
use Rattle.pg_slice_rules.specs.Freeable.{Regions}
use Rattle.pg_slice_rules.specs.Known.{Taken}
use Rattle.pg_slice_rules.specs.Moments.{moments_of}
use Rattle.pg_law_instances.specs.References.{IsReferenceRun}

-- any decisions admit the own input of each reference run
abbrev pub ReferencesAdmitOwn : Type 0
ReferencesAdmitOwn = (p : NumberedProgram) (input : List ℤ) (turns : List Turn) (gated : List InstrId) (sums : ℕ → Option RootedList) (regions : Regions) (xs : List Step)
    → IsReferenceRun p input turns gated sums regions xs →
    (d : Taken) → admits (record { program = p; regions = regions; moments = moments_of gated p input xs }) d input ≡ true
