use Rattle.std.proofs.Common.{◌≡◌}
use Rattle.pg_crew.specs.pg_worker.Standing.{run_in}
use Rattle.pg_room.specs.Laying.{IsLaidBelow, begin_of}
use Rattle.pg_room.proofs.laying.lay_globals.Given as goal

abbrev pub invariant-loop-number : goal.invariant-loop-number
invariant-loop-number l = record {
  own : (l.pool.table_id ≡ l.fn.pool.table_id) × (l.pool.id ≡ l.fn.pool.id);
  laid : IsLaidBelow (run_in l.shared) (begin_of 1 l.shared.program.now.globals l.number) l.pool.me l.laid.words.items;
}
