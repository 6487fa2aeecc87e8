use Rattle.std.proofs.Common.{subst, rules}
use Rattle.std.specs.Prelude.{slice_index_or}
use Rattle.pg_worker.specs.declared.worker.Worker.{Worker}
use Rattle.pg_worker.specs.Standing.{IsAt, run_in, table_in}
use Rattle.pg_crew.specs.Workers.{HasGone}
use Rattle.pg_crew.proofs.WorkerLists.{gone_again}
use Rattle.pg_crew.proofs.parking.in_threads.Goals as goal

pub returns : goal.returns
returns g c = record {
  workers = gone_again (run_in c.args.shared.now) (table_in c.args.shared.now) c.args.workers.now _ c.requires.workers (record {
    count = search rules;
    each = λ t d lt. (let e = c.for_each_mut.ensures t d lt in
        subst (λ (w : Worker). HasGone (run_in c.args.shared.now) (slice_index_or c.args.workers.now t d) w) e.1.left
        (subst (λ (w : Worker). HasGone (run_in c.args.shared.now) w e.1.after_call.now) e.1.argument_is e.1.call.1));
  }) (λ t d lt. (let e = c.for_each_mut.ensures t d lt in subst (λ (w : Worker). IsAt (run_in c.args.shared.now) (table_in c.args.shared.now) 0 w) e.1.left e.1.call.0));
  gone = record {
    count = search rules;
    each = λ t d lt. (let e = c.for_each_mut.ensures t d lt in
        subst (λ (w : Worker). HasGone (run_in c.args.shared.now) (slice_index_or c.args.workers.now t d) w) e.1.left
        (subst (λ (w : Worker). HasGone (run_in c.args.shared.now) w e.1.after_call.now) e.1.argument_is e.1.call.1));
  };
}
