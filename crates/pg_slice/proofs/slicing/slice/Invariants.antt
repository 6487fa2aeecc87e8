use Rattle.std.proofs.Common.{length}
use Rattle.pg_slice_decisions.specs.Steps.{AreOf, left_by}
use Rattle.pg_slice_walk.proofs.of_pg_slice_passes.SliceOf.{AreBelow}
use Rattle.pg_slice.proofs.slicing.slice.Given as goal

abbrev pub invariant-loop-decisions : goal.invariant-loop-decisions
invariant-loop-decisions l = AreOf (length l.run.t.now.steps) l.decisions × AreBelow l.run.p.now l.run.t.now.steps l.run.r.now l.decisions

abbrev pub decreases-loop-decisions : goal.decreases-loop-decisions
decreases-loop-decisions l = left_by l.decisions
