-- Reference runs, whose steps keep to the regions of the extents in which they lie.
use Rattle.std.specs.Prelude.{◌≡◌, ℕ, ◌<◌, ◌^◌, ℤ, List, length, Option}
use Rattle.pg_ir.specs.declared.ids.InstrId.{InstrId}
use Rattle.pg_ir.specs.Program.{NumberedProgram}
use Rattle.pg_ir.specs.WellFormed.{IsProgram}
use Rattle.pg_region_accesses.specs.Accesses.{RootedList}
use Rattle.pg_region_summaries.specs.Summaries.{AreSummaries}
use Rattle.pg_run_trace.specs.declared.step.Step.{Step}
use Rattle.pg_run_trace.specs.declared.turn.Turn.{Turn}
use Rattle.pg_run.specs.Follow.{Exits, following_of}
use Rattle.pg_run.specs.MachineStep.{is_gated}
use Rattle.pg_slice_replay.specs.pg_law_effects.Reached.{HoldBytes}
use Rattle.pg_slice_replay.specs.pg_slice_rules.Freeable.{Regions}
use Rattle.pg_slice_replay.specs.pg_slice_rules.Moments.{moments_of}
use Rattle.pg_law_least.specs.Keeps.{ExtentsKeep}
use Rattle.pg_slice_replay.specs.OfRegions.{AreRegions}

-- the guided run of a program along turns exits with these steps; the regions are those of the program's branches
pub record IsReferenceRun (p : NumberedProgram) (input : List ℤ) (turns : List Turn) (gated : List InstrId) (sums : ℕ → Option RootedList) (regions : Regions) (xs : List Step) : Type 0 where
  pub program : IsProgram p
  pub bytes : HoldBytes p.globals
  pub small : length input < 2 ^ 64
  pub summaries : AreSummaries p (λ i. is_gated gated i) sums
  pub regions_are : AreRegions p (λ i. is_gated gated i) sums regions
  pub printed : List ℕ
  pub value : ℤ
  pub exits : following_of p input turns gated ≡ Exits xs printed value

abbrev pub ReferenceRunsKeepExtents : Type 0
ReferenceRunsKeepExtents = (p : NumberedProgram) (input : List ℤ) (turns : List Turn) (gated : List InstrId) (sums : ℕ → Option RootedList) (regions : Regions) (xs : List Step)
    → IsReferenceRun p input turns gated sums regions xs →
    ExtentsKeep (record { program = p; regions = regions; moments = moments_of gated p input xs })
