use Rattle.std.proofs.Common.{◌≤◌}
use Rattle.pg_slice_replay.proofs.ShortSets.{NoneFrom}
use Rattle.pg_slice_replay.proofs.may_set.end_of.Given as goal

abbrev pub invariant-loop-i : goal.invariant-loop-i
invariant-loop-i l = record {
  below : l.end ≤ l.i;
  none : NoneFrom l.set l.end l.i;
}
