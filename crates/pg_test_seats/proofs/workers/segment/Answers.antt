use Rattle.pg_crew.specs.pg_worker.Standing.{run_in, table_in}
use Rattle.pg_test_seats.proofs.WorkerSteps.{one_moved}
use Rattle.pg_test_seats.proofs.workers.segment.Goals as goal

pub returns : goal.returns
returns g c = record {
  workers = one_moved (run_in c.args.shared.now) (table_in c.args.shared.now) c.args.workers.now c.args.thread c.segment.new.self _ c.requires.workers c.requires.within
      c.segment.ensures.went.thread c.segment.ensures.at;
}
