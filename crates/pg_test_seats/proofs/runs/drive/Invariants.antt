use Rattle.pg_crew.specs.pg_worker.Standing.{run_in, table_in}
use Rattle.pg_crew.specs.Workers.{AreWorkers}
use Rattle.pg_test_seats.proofs.runs.drive.Given as goal

abbrev pub invariant-segments : goal.invariant-segments
invariant-segments g l = AreWorkers (run_in l.shared) (table_in l.shared) l.workers
