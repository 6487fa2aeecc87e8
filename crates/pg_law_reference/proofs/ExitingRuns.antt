-- A guided run that exits is a reference run.
use Rattle.std.proofs.Common.{◌≡◌, ◌<◌, ◌^◌, ℕ, ℤ, List, Option, length}
use Rattle.pg_ir.specs.declared.ids.InstrId.{InstrId}
use Rattle.pg_ir.specs.Program.{NumberedProgram}
use Rattle.pg_ir.specs.WellFormed.{IsProgram}
use Rattle.pg_region_accesses.specs.Accesses.{RootedList, is_gated}
use Rattle.pg_run_trace.specs.declared.step.Step.{Step}
use Rattle.pg_run_trace.specs.declared.turn.Turn.{Turn}
use Rattle.pg_run.specs.Follow.{Exits, following_of}
use Rattle.pg_slice_passes.specs.pg_law_effects.Reached.{HoldBytes}
use Rattle.pg_slice_passes.specs.pg_slice_rules.Freeable.{Regions}
use Rattle.pg_law_instances.specs.References.{IsReferenceRun}
use Rattle.pg_law_reference.proofs.BranchRegions.{regions_are}
use Rattle.pg_law_reference.proofs.SummariesExist.{summaries}

pub exits_reference : (p : NumberedProgram) (input : List ℤ) (turns : List Turn) (gated : List InstrId) (xs : List Step) (printed : List ℕ) (value : ℤ) → IsProgram p
    → HoldBytes p.globals → length input < 2 ^ 64 → following_of p input turns gated ≡ Exits xs printed value →
    (sums : ℕ → Option RootedList) × (regions : Regions) × IsReferenceRun p input turns gated sums regions xs
exits_reference p input turns gated xs printed value program bytes small exits =
    let sums = summaries p program (is_gated gated) in
    let regions = regions_are p (is_gated gated) sums.0 program sums.1 in
    (sums.0, regions.0, record { program = program; bytes = bytes; small = small; summaries = sums.1; regions_are = regions.1; printed = printed; value = value; exits = exits })
