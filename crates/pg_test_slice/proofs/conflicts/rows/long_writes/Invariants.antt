use Rattle.pg_slice_conflicts.specs.Meets.{InOrder}
use Rattle.pg_test_slice.proofs.FootprintsInOrder.{AreUpTo}
use Rattle.pg_test_slice.proofs.conflicts.rows.long_writes.Given as goal

abbrev pub invariant-loop-k : goal.invariant-loop-k
invariant-loop-k l = InOrder l.footprints.items × AreUpTo l.k l.footprints.items
