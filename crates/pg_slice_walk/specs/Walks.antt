-- A walk from the end of a run back.
use Rattle.std.specs.Prelude.{ℕ, ℤ, List}
use Rattle.pg_ir.specs.declared.ids.InstrId.{InstrId}
use Rattle.pg_ir.specs.Program.{NumberedProgram}
use Rattle.pg_run_trace.specs.declared.step.Step.{Step}
use Rattle.pg_slice_rules.specs.Closed.{AreWithin, IsClosed}
use Rattle.pg_slice_rules.specs.Freeable.{Regions}
use Rattle.pg_slice_rules.specs.Known.{Reference, Taken}
use Rattle.pg_slice_back.specs.pg_law_least.Keeps.{ExtentsKeep}
use Rattle.pg_slice_back.specs.pg_law_demands.Along.{known_at}
use Rattle.pg_slice_demands.specs.declared.demanded.Demanded.{Demanded}
use Rattle.pg_slice_back.specs.declared.registers.Counts.{Counts}
use Rattle.pg_slice_back.specs.Counted.{AreCounted}
use Rattle.pg_slice_back.specs.Met.{AreMet}
use Rattle.pg_slice_back.specs.pg_slice_replay.declared.run.ReferenceRun.{ReferenceRun}
use Rattle.pg_slice_back.specs.pg_slice_passes.Given.{HasLandmarks, reference_of}
use Rattle.pg_slice_walk.specs.Chains.{Holds}

-- what is told of a run
pub record IsTold (R : Reference) (r : ReferenceRun) (holders : List ℕ) (counts : List Counts) : Type 0 where
  pub landmarks : HasLandmarks R r
  pub keeps : ExtentsKeep R
  pub holds : Holds R r holders
  pub counted : AreCounted R counts

-- before step n what has to be known is known under these decisions, and what is taken is among them
pub record Walks (R : Reference) (e : Taken) (n : ℕ) (w : Demanded) (d : Taken) : Type 0 where
  pub met : AreMet (known_at R e n) w
  pub within : AreWithin d e

-- of a run of the program: the second decisions stay within each closed set that the first were within
pub record Widens (p : NumberedProgram) (r : ReferenceRun) (holders : List ℕ) (counts : List Counts) (xs : List Step) (old new : Taken) : Type 0 where
  pub by : (regions : Regions) (gated : List InstrId) (input : List ℤ) → IsTold (reference_of p regions gated input xs) r holders counts →
      (e : Taken) → IsClosed (reference_of p regions gated input xs) e → AreWithin old e → AreWithin new e
