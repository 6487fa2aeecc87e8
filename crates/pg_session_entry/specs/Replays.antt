-- A guided run replayed.
use Rattle.std.specs.Prelude.{◌≡◌, ℕ, ℤ, List, length, Option}
use Rattle.pg_ir.specs.declared.ids.InstrId.{InstrId}
use Rattle.pg_ir.specs.Program.{NumberedProgram}
use Rattle.pg_region_accesses.specs.Accesses.{RootedList, is_gated}
use Rattle.pg_region_summaries.specs.Summaries.{AreSummaries}
use Rattle.pg_run_trace.specs.declared.step.Step.{Step}
use Rattle.pg_law_reference.specs.pg_slice_replay.declared.run.ReferenceRun.{ReferenceRun}
use Rattle.pg_law_reference.specs.pg_slice_replay.Kept.{step_count}
use Rattle.pg_law_reference.specs.Given.{EdgesStand}
use Rattle.pg_law_reference.specs.Sliceable.{HasItsLandmarks}

-- what is kept of a replay are the landmarks of the run, by what quiet functions access
pub record IsReplayed (p : NumberedProgram) (input : List ℤ) (gated : List InstrId) (steps : List Step) (r : ReferenceRun) : Type 0 where
  pub sums : ℕ → Option RootedList
  pub summaries : AreSummaries p (is_gated gated) sums
  pub landmarks : HasItsLandmarks p input gated sums steps r
  pub count : step_count r ≡ length steps
  pub edges : EdgesStand p r
