use Rattle.std.proofs.Common.{◌≡◌, ℕ, [], length, true}
use Rattle.pg_crew.specs.pg_seats.declared.run.View.TheVariants.{Pool}
use Rattle.pg_crew.specs.pg_worker.Pages.{is_marked}
use Rattle.pg_crew.specs.pg_worker.Standing.{run_in}
use Rattle.pg_room.proofs.SeatLists.{HaveAdded}
use Rattle.pg_room.proofs.gathering.gather_all.Given as goal

abbrev pub invariant-loop-worker : goal.invariant-loop-worker
invariant-loop-worker l = record {
  own : (l.pool.table_id ≡ l.fn.pool.table_id) × (l.pool.id ≡ l.fn.pool.id);
  view : l.pool.me ≡ (Pool (run_in l.shared) (length l.fn.workers.items) (length l.yielded), []);
  kept : (page : ℕ) → is_marked l.fn.written.words.items page ≡ true → is_marked l.written.words.items page ≡ true;
  added : HaveAdded l.fn.workers.items (length l.yielded) l.written.words.items;
}
