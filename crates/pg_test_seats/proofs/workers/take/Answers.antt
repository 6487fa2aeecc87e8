use Rattle.std.proofs.Common.{ap}
use Rattle.pg_crew.specs.pg_worker.declared.worker.Worker.{Worker}
use Rattle.pg_crew.specs.pg_worker.Standing.{run_in, table_in}
use Rattle.pg_test_seats.proofs.WorkerSteps.{one_moved}
use Rattle.pg_test_seats.proofs.workers.take.Goals as goal

pub returns : goal.returns
returns c = record {
  workers = one_moved (run_in c.args.shared.now) (table_in c.args.shared.now) c.args.workers.now c.args.to c.take_note.new.self _ c.requires.workers c.requires.within
      (ap (λ (w : Worker). w.thread) c.take_note.ensures.same) c.take_note.ensures.at;
}
