use Rattle.std.proofs.Common.{◌≡◌, length}
use Rattle.pg_run_memory.specs.Memory.{read}
use Rattle.pg_slice_replay.proofs.FollowedPaths.{Led}
use Rattle.pg_slice_replay.proofs.follow.follow_from.Given as goal

abbrev pub invariant-loop-i : goal.invariant-loop-i
invariant-loop-i l = record {
  led : Led (read l.machine.state.memory) l.fn.word l.offsets l.i l.pointers l.last;
  size : length l.pointers ≡ 4;
}
