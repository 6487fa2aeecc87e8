use Rattle.std.proofs.Common.{◌≡◌, ◌<◌, ◌∙◌, [], ◌∷◌, ◌++◌, length, length-append, ap, arith, refl, rules, sym, subst}
use Rattle.std.specs.Prelude.{slice_index_or}
use Rattle.std.proofs.lemmas.Iterator.Adapters.{YieldsList-from_vec}
use Rattle.std.proofs.lemmas.Iterator.Consumers.{YieldsList-end, YieldsList-turn}
use Rattle.pg_crew.specs.pg_seats.declared.run.View.TheVariants.{Pool}
use Rattle.pg_crew.specs.pg_worker.Standing.{run_in, table_in}
use Rattle.pg_crew.specs.pg_worker.Unseated.{IsUnseated}
use Rattle.pg_room.proofs.SeatLists.{AreSeated, first_seat, none_seated, one_more, all_seated, one_seated, own_thread, splits, thread_at}
use Rattle.pg_room.proofs.ready.seat_all.Goals as goal
use Rattle.pg_room.proofs.ready.seat_all.Goals.{In-None, In-Some}

turn : (c : In-Some) → (length c.loop-thread.yielded < length c.args.threads.items) × (c.in-Some.thread ≡ slice_index_or c.args.threads.items (length c.loop-thread.yielded) c.in-Some.thread)
turn c = YieldsList-turn (YieldsList-from_vec {s = c.into_iter-thread-iterator.result} c.args.threads.items (search rules) (search rules)) c.loop-thread.yielded c.loop-thread.thread-iterator c.loop-thread.yielded_by c.next.result c.next.new.self c.in-Some.thread
    c.in-Some.is c.next.ensures.steps

is_thread : (c : In-Some) → IsUnseated c.args.shared.now.program.now c.args.shared.now.schedule.now (length c.loop-thread.yielded) c.in-Some.thread
is_thread c = thread_at c.args.shared.now.program.now c.args.shared.now.schedule.now c.args.threads.items (length c.loop-thread.yielded) c.in-Some.thread c.requires.threads (turn c).0 (turn c).1

-- all threads have a worker
count_is : (c : In-None) → length c.loop-thread.workers.items ≡ length c.args.threads.items
count_is c = c.loop-thread.invariant.count
    ∙ (YieldsList-end (YieldsList-from_vec {s = c.into_iter-thread-iterator.result} c.args.threads.items (search rules) (search rules)) c.loop-thread.yielded c.loop-thread.thread-iterator c.loop-thread.yielded_by c.next.result c.next.new.self c.in-None.is c.next.ensures.steps).1

pub loop-thread-init : goal.loop-thread-init
loop-thread-init c = record {
  own = (refl, refl);
  view = c.requires.view;
  count = ap (λ ws. length ws) c.requires.none;
  room = c.requires.room;
  seated = none_seated (run_in c.args.shared.now) (table_in c.args.shared.now) c.args.workers.items c.requires.none;
}

pub split-seat-requires-clause-view : goal.split-seat-requires-clause-view
split-seat-requires-clause-view c = splits (run_in c.args.shared.now) (length c.loop-thread.yielded) c.loop-thread.pool.me c.loop-thread.invariant.view

pub seated-requires-clause-thread : goal.seated-requires-clause-thread
seated-requires-clause-thread c = own_thread c.args.shared.now.program.now c.args.shared.now.schedule.now (length c.loop-thread.yielded) c.in-Some.thread (is_thread (goal.at.seated-requires-clause-thread c).In-Some)

pub seated-requires-clause-view : goal.seated-requires-clause-view
seated-requires-clause-view c = first_seat (run_in c.args.shared.now) (length c.loop-thread.yielded) c.in-Some.thread.thread.0 c.loop-thread.pool.me c.split-seat.result.me c.loop-thread.invariant.view c.split-seat.ensures.given.1
    (is_thread (goal.at.seated-requires-clause-view c).In-Some).thread

pub push_reserved-requires : goal.push_reserved-requires
push_reserved-requires c = (let t = turn (goal.at.push_reserved-requires c).In-Some in omega (arith, t.0, c.loop-thread.invariant.count, c.loop-thread.invariant.room))

pub loop-thread-preserved : goal.loop-thread-preserved
loop-thread-preserved c =
    let n = length-append c.loop-thread.yielded (c.in-Some.thread ∷ []) in
    let m = length-append c.loop-thread.workers.items (c.seated.result ∷ []) in
    let i = is_thread (goal.at.loop-thread-preserved c).In-Some in
    record {
      own = (c.split-seat.ensures.own.0 ∙ c.loop-thread.invariant.own.0, c.split-seat.ensures.own.1 ∙ c.loop-thread.invariant.own.1);
      view = one_more (run_in c.args.shared.now) (length c.loop-thread.yielded) (length (c.loop-thread.yielded ++ c.in-Some.thread ∷ [])) c.loop-thread.pool.me c.split-seat.new.pool.me c.loop-thread.invariant.view
          c.split-seat.ensures.view (omega (arith, n));
      count = ap (λ ws. length ws) c.push_reserved.ensures.items ∙ (let k : length (c.loop-thread.workers.items ++ c.seated.result ∷ []) ≡ length (c.loop-thread.yielded ++ c.in-Some.thread ∷ []) = omega (arith, n, m, c.loop-thread.invariant.count) in k);
      room = (let k = c.push_reserved.ensures.capacity in omega (arith, k, c.loop-thread.invariant.room));
      seated = subst (AreSeated (run_in c.args.shared.now) (table_in c.args.shared.now)) (sym c.push_reserved.ensures.items)
          (one_seated (run_in c.args.shared.now) (table_in c.args.shared.now) c.loop-thread.workers.items c.seated.result c.loop-thread.invariant.seated
          (ap (λ t. t.0) c.seated.ensures.first.0 ∙ i.thread ∙ sym c.loop-thread.invariant.count) c.seated.ensures.at c.seated.ensures.first.1);
    }

pub returns-clause-view : goal.returns-clause-view
returns-clause-view c = c.loop-thread.invariant.view ∙ ap (λ n. (Pool (run_in c.args.shared.now) n 0, [])) (sym c.loop-thread.invariant.count)

pub returns-clause-workers : goal.returns-clause-workers
returns-clause-workers c = all_seated (run_in c.args.shared.now) (table_in c.args.shared.now) c.loop-thread.workers.items (length c.args.threads.items) c.requires.enforced c.loop-thread.invariant.seated
    (count_is (goal.at.returns-clause-workers c).In-None) c.requires.main c.requires.few c.requires.owners

pub returns-clause-first : goal.returns-clause-first
returns-clause-first c = λ t d lt. (c.loop-thread.invariant.seated t d lt).2
