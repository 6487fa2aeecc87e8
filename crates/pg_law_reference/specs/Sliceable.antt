-- What the slice of a run asks of its steps, and a replay with the landmarks of the run.
use Rattle.std.specs.Prelude.{ℕ, ◌<◌, ℤ, List, length, Option}
use Rattle.pg_ir.specs.declared.ids.InstrId.{InstrId}
use Rattle.pg_ir.specs.Program.{NumberedProgram}
use Rattle.pg_region_accesses.specs.Accesses.{RootedList, is_gated}
use Rattle.pg_region_summaries.specs.Summaries.{AreSummaries}
use Rattle.pg_run_trace.specs.declared.step.Step.{Step}
use Rattle.pg_run.specs.Runs.{IsRun}
use Rattle.pg_run.specs.State.{State, initial}
use Rattle.pg_slice_passes.specs.pg_slice_rules.Freeable.{Regions}
use Rattle.pg_law_instances.specs.pg_law_least.Keeps.{ExtentsKeep}
use Rattle.pg_slice_passes.specs.pg_slice_replay.declared.run.ReferenceRun.{ReferenceRun}
use Rattle.pg_slice_passes.specs.pg_slice_replay.OfRegions.{AreRegions}
use Rattle.pg_slice_passes.specs.Given.{AreSteps, HasLandmarks, reference_of}

-- the steps are those of a run, each is one of its instruction, and their number has 32 bits; and they keep to the regions of
-- the extents in which they lie, whatever gives the program's regions by the summaries of its functions
pub record CanBeSliced (p : NumberedProgram) (input : List ℤ) (gated : List InstrId) (xs : List Step) : Type 0 where
  pub run : (z : State) × IsRun gated p input (initial p) xs z
  pub steps : AreSteps p xs
  pub few : length xs < 4294967296
  pub extents : (sums : ℕ → Option RootedList) (regions : Regions) → AreSummaries p (is_gated gated) sums → AreRegions p (is_gated gated) sums regions
      → ExtentsKeep (reference_of p regions gated input xs)

-- the replay has the landmarks of the run, whatever gives the program's regions by these summaries
abbrev pub HasItsLandmarks : NumberedProgram → List ℤ → List InstrId → (ℕ → Option RootedList) → List Step → ReferenceRun → Type 0
HasItsLandmarks p input gated sums xs r = (regions : Regions) → AreRegions p (is_gated gated) sums regions → HasLandmarks (reference_of p regions gated input xs) r
