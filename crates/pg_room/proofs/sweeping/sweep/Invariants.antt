use Rattle.std.proofs.Common.{◌≡◌, ◌*◌}
use Rattle.pg_crew.specs.pg_worker.Standing.{run_in}
use Rattle.pg_room.specs.Sweeping.{IsSweptBelow}
use Rattle.pg_room.proofs.sweeping.sweep.Given as goal

abbrev pub invariant-loop-index : goal.invariant-loop-index
invariant-loop-index l = record {
  own : (l.pool.table_id ≡ l.fn.pool.table_id) × (l.pool.id ≡ l.fn.pool.id);
  swept : IsSweptBelow (run_in l.shared) (64 * (64 * l.index)) l.pool.me;
}
