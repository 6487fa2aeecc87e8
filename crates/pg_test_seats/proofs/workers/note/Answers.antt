use Rattle.std.proofs.Common.{◌∙◌, [], sym, ap}
use Rattle.pg_crew.specs.pg_seats.declared.run.View.TheVariants.{Note}
use Rattle.pg_crew.specs.pg_worker.declared.worker.Worker.{Worker}
use Rattle.pg_crew.specs.pg_worker.Standing.{noted_in, run_in, table_in}
use Rattle.pg_test_seats.proofs.WorkerSteps.{one_moved}
use Rattle.pg_test_seats.proofs.workers.note.Goals as goal

pub returns-clause-workers : goal.returns-clause-workers
returns-clause-workers c = one_moved (run_in c.args.shared.now) (table_in c.args.shared.now) c.args.workers.now c.args.from c.note.new.self _ c.requires.workers c.requires.within
    (ap (λ (w : Worker). w.thread) c.note.ensures.same) c.note.ensures.at

pub returns-clause-note : goal.returns-clause-note
returns-clause-note c = c.note.ensures.given.1 ∙ ap (λ n. (Note (run_in c.args.shared.now) n, [])) (sym (ap (λ m. noted_in m.0) c.note.ensures.given.1))
