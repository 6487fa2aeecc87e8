use Rattle.std.proofs.Common.{◌≡◌, ◌+◌, ◌-◌, ◌*◌, ◌≤◌, length}
use Rattle.std.specs.Prelude.{vec_capacity}
use Rattle.pg_room.specs.pg_num.declared.limits.TheConstants.{THREAD_LIMIT}
use Rattle.pg_rounds.specs.declared.merge.TheConstants.{TEXT_LIMIT}
use Rattle.pg_rounds.specs.Prints.{numbers_left, numbers_of}
use Rattle.pg_rounds.proofs.Merges.{IsMerged}
use Rattle.pg_rounds.proofs.merge.merge.Given as goal

abbrev pub invariant-loop-turn : goal.invariant-loop-turn
invariant-loop-turn l = record {
  same : l.reader.workers.now ≡ l.workers;
  reads : length l.reader.read ≡ THREAD_LIMIT;
  room : length l.output.items + TEXT_LIMIT * (length l.turns - l.turn-index) ≤ vec_capacity l.output;
  merged : IsMerged l.p l.turns (numbers_of l.workers) l.turn-index l.output.items (numbers_left l.reader.workers.now l.reader.read);
}
