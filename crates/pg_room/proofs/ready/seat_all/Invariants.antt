use Rattle.std.proofs.Common.{◌≡◌, ◌≤◌, [], length}
use Rattle.std.specs.Prelude.{vec_capacity}
use Rattle.pg_crew.specs.pg_seats.declared.run.View.TheVariants.{Pool}
use Rattle.pg_crew.specs.pg_worker.Standing.{run_in, table_in}
use Rattle.pg_room.proofs.SeatLists.{AreSeated}
use Rattle.pg_room.proofs.ready.seat_all.Given as goal

abbrev pub invariant-loop-thread : goal.invariant-loop-thread
invariant-loop-thread l = record {
  own : (l.pool.table_id ≡ l.fn.pool.table_id) × (l.pool.id ≡ l.fn.pool.id);
  view : l.pool.me ≡ (Pool (run_in l.shared) (length l.yielded) 0, []);
  count : length l.workers.items ≡ length l.yielded;
  room : length l.fn.threads.items ≤ vec_capacity l.workers;
  seated : AreSeated (run_in l.shared) (table_in l.shared) l.workers.items;
}
