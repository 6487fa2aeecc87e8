use Rattle.std.proofs.Common.{◌≡◌, ◌+◌, []}
use Rattle.pg_crew.specs.pg_seats.declared.run.View.TheVariants.{Sweeping}
use Rattle.pg_crew.specs.pg_worker.Standing.{run_in}
use Rattle.pg_room.proofs.sweeping.clear_threads.Given as goal

abbrev pub invariant-loop-thread : goal.invariant-loop-thread
invariant-loop-thread l = record {
  own : (l.pool.table_id ≡ l.fn.pool.table_id) × (l.pool.id ≡ l.fn.pool.id);
  view : l.pool.me ≡ (Sweeping (run_in l.shared) (1 + l.thread), []);
}
