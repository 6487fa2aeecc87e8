use Rattle.std.proofs.Common.{◌≡◌, ◌*◌}
use Rattle.pg_crew.specs.pg_worker.Standing.{run_in}
use Rattle.pg_room.specs.Sweeping.{IsSweptBelow}
use Rattle.pg_room.proofs.sweeping.sweep_word.Given as goal

abbrev pub invariant-loop-page : goal.invariant-loop-page
invariant-loop-page l = record {
  own : (l.pool.table_id ≡ l.fn.pool.table_id) × (l.pool.id ≡ l.fn.pool.id);
  swept : IsSweptBelow (run_in l.shared) (64 * l.page) l.pool.me;
}
