-- Reference runs are recorded runs whose steps keep to their extents.
use Rattle.std.proofs.Common.{◌≡◌, ℕ, ℤ, true, List, Option}
use Rattle.pg_ir.specs.declared.ids.InstrId.{InstrId}
use Rattle.pg_ir.specs.Program.{NumberedProgram}
use Rattle.pg_region_accesses.specs.Accesses.{RootedList}
use Rattle.pg_run_trace.specs.declared.step.Step.{Step}
use Rattle.pg_run_trace.specs.declared.turn.Turn.{Turn}
use Rattle.pg_slice_rules.specs.Closed.{admits}
use Rattle.pg_slice_rules.specs.Freeable.{Regions}
use Rattle.pg_slice_rules.specs.Known.{Taken}
use Rattle.pg_slice_rules.specs.Moments.{moments_of}
use Rattle.pg_law_instances.specs.References.{IsReferenceRun}
use Rattle.pg_law_instances.proofs.ReferenceExtents.{extents_keep}
use Rattle.pg_law_instances.proofs.NextStepsOfThread.{exited}
use Rattle.pg_law_own_input.proofs.FewerDecisions.{any_admit}

pub reference_admits : (p : NumberedProgram) (input : List ℤ) (turns : List Turn) (gated : List InstrId) (sums : ℕ → Option RootedList) (regions : Regions) (xs : List Step)
    → IsReferenceRun p input turns gated sums regions xs →
    (d : Taken) → admits (record { program = p; regions = regions; moments = moments_of gated p input xs }) d input ≡ true
reference_admits p input turns gated sums regions xs h d =
    let e = exited p input turns gated xs h.printed h.value h.exits in
    any_admit (record { program = p; input = input; gated = gated; regions = regions; steps = xs })
    (record { can = record { program = h.program; bytes = h.bytes; small = h.small }; last = e.state; run = e.run })
    (extents_keep p gated sums regions h.regions_are h.program h.summaries input h.small h.bytes turns xs h.printed h.value h.exits) d
