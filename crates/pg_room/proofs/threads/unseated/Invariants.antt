use Rattle.std.proofs.Common.{◌≡◌, ◌≤◌, length}
use Rattle.std.specs.Prelude.{vec_capacity}
use Rattle.pg_room.specs.Threads.{AreUnseated}
use Rattle.pg_room.proofs.threads.unseated.Given as goal

abbrev pub invariant-loop-number : goal.invariant-loop-number
invariant-loop-number l = record {
  count : length l.threads.items ≡ l.number;
  room : l.count ≤ vec_capacity l.threads;
  each : AreUnseated l.p l.s l.threads.items;
}
