use Rattle.pg_slice_replay.proofs.FollowedPaths.{FollowedTo}
use Rattle.pg_slice_replay.proofs.follow.follow_each.Given as goal

abbrev pub invariant-loop-i : goal.invariant-loop-i
invariant-loop-i l = FollowedTo l.p l.machine.state l.t.0 l.accesses l.i l.initial.ats.items l.ats.items
