use Rattle.std.proofs.Common.{◌<◌, ◌≤◌}
use Rattle.pg_crew.specs.pg_num.declared.limits.TheConstants.{THREAD_LIMIT}
use Rattle.pg_room.proofs.TurnOwners.{HasOwners}
use Rattle.pg_room.proofs.threads.thread_count.Given as goal

abbrev pub invariant-loop-number : goal.invariant-loop-number
invariant-loop-number l = record {
  some : 0 < l.count;
  few : l.count ≤ THREAD_LIMIT;
  owners : HasOwners l.turns l.number l.count;
}
