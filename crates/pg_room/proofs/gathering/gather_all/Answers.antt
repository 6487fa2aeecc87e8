use Rattle.std.proofs.Common.{◌≡◌, ◌<◌, ◌∙◌, [], ◌∷◌, ◌++◌, length, length-append, ap, arith, rules, sym, subst}
use Rattle.std.specs.Prelude.{slice_index_or}
use Rattle.std.proofs.lemmas.Iterator.Adapters.{YieldsList-from_vec}
use Rattle.std.proofs.lemmas.Iterator.Consumers.{YieldsList-end, YieldsList-turn}
use Rattle.pg_crew.specs.pg_seats.declared.run.View.TheVariants.{Pool}
use Rattle.pg_crew.specs.pg_worker.Pages.{is_marked}
use Rattle.pg_crew.specs.pg_worker.Standing.{IsAt, run_in, table_in}
use Rattle.pg_room.proofs.SeatLists.{bare_seat, gathers, one_added, one_gathered, worker_at}
use Rattle.pg_room.proofs.gathering.gather_all.Goals as goal
use Rattle.pg_room.proofs.gathering.gather_all.Goals.{In-None, In-Some}

-- all of them were taken
count_is : (c : In-None) → length c.loop-worker.yielded ≡ length c.args.workers.items
count_is c = (YieldsList-end (YieldsList-from_vec {s = c.into_iter-worker-iterator.result} c.args.workers.items (search rules) (search rules)) c.loop-worker.yielded c.loop-worker.worker-iterator c.loop-worker.yielded_by c.next.result c.next.new.self c.in-None.is
    c.next.ensures.steps).1

-- which worker it is
turn : (c : In-Some) → (length c.loop-worker.yielded < length c.args.workers.items) × (c.in-Some.worker ≡ slice_index_or c.args.workers.items (length c.loop-worker.yielded) c.in-Some.worker)
turn c = YieldsList-turn (YieldsList-from_vec {s = c.into_iter-worker-iterator.result} c.args.workers.items (search rules) (search rules)) c.loop-worker.yielded c.loop-worker.worker-iterator c.loop-worker.yielded_by c.next.result c.next.new.self c.in-Some.worker
    c.in-Some.is c.next.ensures.steps

stands : (c : In-Some) → (c.in-Some.worker.thread.0 ≡ length c.loop-worker.yielded) × IsAt (run_in c.args.shared.now) (table_in c.args.shared.now) 0 c.in-Some.worker
stands c = worker_at (run_in c.args.shared.now) (table_in c.args.shared.now) c.args.workers.items (length c.loop-worker.yielded) c.in-Some.worker c.requires.workers (turn c).0 (turn c).1

pub gather-requires-clause-own : goal.gather-requires-clause-own
gather-requires-clause-own c = (c.loop-worker.invariant.own.0 ∙ c.requires.own, ap (λ p. p.0.table_id) c.into_parts-seat.ensures ∙ (stands (goal.at.gather-requires-clause-own c).In-Some).1.own)

pub gather-requires-clause-bare : goal.gather-requires-clause-bare
gather-requires-clause-bare c = bare_seat (run_in c.args.shared.now) (table_in c.args.shared.now) c.in-Some.worker c.into_parts-seat.result.0.me (stands (goal.at.gather-requires-clause-bare c).In-Some).1 (ap (λ p. p.0.me) c.into_parts-seat.ensures)

pub gather-requires-clause-view : goal.gather-requires-clause-view
gather-requires-clause-view c = gathers (run_in c.args.shared.now) (table_in c.args.shared.now) (length c.args.workers.items) (length c.loop-worker.yielded) c.loop-worker.pool.me c.in-Some.worker c.into_parts-seat.result.0.me
    c.loop-worker.invariant.view (stands (goal.at.gather-requires-clause-view c).In-Some).1 (stands (goal.at.gather-requires-clause-view c).In-Some).0 (ap (λ p. p.0.me) c.into_parts-seat.ensures)

pub loop-worker-preserved : goal.loop-worker-preserved
loop-worker-preserved c =
    let n = length-append c.loop-worker.yielded (c.in-Some.worker ∷ []) in
    let t = turn (goal.at.loop-worker-preserved c).In-Some in
    record {
      own = (c.gather.ensures.own.0 ∙ c.loop-worker.invariant.own.0, c.gather.ensures.own.1 ∙ c.loop-worker.invariant.own.1);
      view = one_gathered (run_in c.args.shared.now) (length c.args.workers.items) (length c.loop-worker.yielded) (length (c.loop-worker.yielded ++ c.in-Some.worker ∷ [])) c.loop-worker.pool.me c.gather.new.pool.me
          c.into_parts-seat.result.0.me.0 c.loop-worker.invariant.view c.gather.ensures.view (omega (arith, n));
      kept = λ page e. c.add.ensures.kept page (c.loop-worker.invariant.kept page e);
      added = one_added c.args.workers.items (length c.loop-worker.yielded) (length (c.loop-worker.yielded ++ c.in-Some.worker ∷ [])) c.in-Some.worker c.loop-worker.written.words.items c.add.new.self.words.items
          t.0 t.1 (omega (arith, n)) c.loop-worker.invariant.added c.add.ensures.kept
          (λ page e. c.add.ensures.added page (ap (λ p. is_marked p.1.words.items page) c.into_parts-seat.ensures ∙ e));
    }

pub returns-clause-view : goal.returns-clause-view
returns-clause-view c = c.loop-worker.invariant.view ∙ ap (λ n. (Pool (run_in c.args.shared.now) (length c.args.workers.items) n, [])) (count_is (goal.at.returns-clause-view c).In-None)

pub returns-clause-added : goal.returns-clause-added
returns-clause-added c = λ t page d lt mark. c.loop-worker.invariant.added t page d (subst (λ n. t < n) (sym (count_is (goal.at.returns-clause-added c).In-None)) lt) mark
