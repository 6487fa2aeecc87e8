use Rattle.std.proofs.Common.{◌≡◌, ◌+◌}
use Rattle.pg_crew.specs.pg_worker.Standing.{run_in}
use Rattle.pg_room.specs.Laying.{IsLaidBelow}
use Rattle.pg_room.proofs.laying.lay_global.Given as goal

abbrev pub invariant-loop-number : goal.invariant-loop-number
invariant-loop-number l = record {
  own : (l.pool.table_id ≡ l.fn.pool.table_id) × (l.pool.id ≡ l.fn.pool.id);
  laid : IsLaidBelow (run_in l.shared) (l.start + l.number) l.pool.me l.laid.words.items;
}
