use Rattle.pg_worker.specs.Standing.{run_in, table_in}
use Rattle.pg_worker.specs.Standing.{IsAt, WentOn}
use Rattle.pg_worker.proofs.worker.Worker.segment.Given as goal

abbrev pub invariant-loop-self : goal.invariant-loop-self
invariant-loop-self g l = (IsAt (run_in l.shared) (table_in l.shared) 0 l.self) × WentOn l.initial.self l.self

abbrev pub decreases-loop-self : goal.decreases-loop-self
decreases-loop-self g l = l.self.left
