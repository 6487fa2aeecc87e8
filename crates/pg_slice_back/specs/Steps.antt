-- A live step of a run under closed decisions.
use Rattle.std.specs.Prelude.{◌≡◌, ℕ, length, true, Some, slice_get}
use Rattle.pg_ir.specs.declared.instr.Instr.{Instr}
use Rattle.pg_ir.specs.Program.{NumberedProgram}
use Rattle.pg_run_trace.specs.declared.step.Step.{Step}
use Rattle.pg_slice_rules.specs.Closed.{IsClosed}
use Rattle.pg_slice_rules.specs.Extents.{is_live}
use Rattle.pg_slice_rules.specs.Known.{Reference, Taken, thread_of}
use Rattle.pg_slice_rules.specs.Moments.{Moment, instr_in, thread_in}
use Rattle.pg_law_least.specs.Keeps.{ExtentsKeep, every}
use Rattle.pg_law_demands.specs.Along.{known_at}
use Rattle.pg_slice_passes.specs.pg_slice_replay.declared.run.ReferenceRun.{ReferenceRun}
use Rattle.pg_slice_passes.specs.Given.{HasLandmarks}
use Rattle.pg_slice_demands.specs.declared.call.Call.{Call}
use Rattle.pg_slice_back.specs.declared.registers.Counts.{Counts}
use Rattle.pg_slice_back.specs.Counted.{IsCounted}

-- step n of a run of the program, whose landmarks the replay has: it is live, since the branch steps in whose extents it stands
-- are pinned
pub record IsLiveStep (R : Reference) (e : Taken) (p : NumberedProgram) (r : ReferenceRun) (x : Instr) (step : Step) (counts : Counts) (n : ℕ) (m : Moment) : Type 0 where
  pub program : R.program ≡ p
  pub landmarks : HasLandmarks R r
  pub keeps : ExtentsKeep R
  pub closed : IsClosed R e
  pub stands : slice_get R.moments n ≡ Some m
  pub did : m.did.did ≡ step
  pub instr : instr_in R.program m ≡ Some x
  pub live : is_live e.pinned (thread_of (known_at R every n) (thread_in m)).extents ≡ true
  pub counted : IsCounted R n m counts

-- the call that does the step
pub record IsCallOf (m : Moment) (at : Call) : Type 0 where
  pub thread : at.thread.0 ≡ thread_in m
  pub depth : at.depth ≡ length m.calls
