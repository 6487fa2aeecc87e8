use Rattle.std.proofs.Common.{[], take}
use Rattle.pg_slice_replay.proofs.FollowedPaths.{FollowedTo}
use Rattle.pg_slice_replay.proofs.follow.lead_to.Given as goal

abbrev pub invariant-loop-i : goal.invariant-loop-i
invariant-loop-i l = FollowedTo l.p l.machine.state l.t.0 l.accesses l.i [] (take l.i l.ats)
