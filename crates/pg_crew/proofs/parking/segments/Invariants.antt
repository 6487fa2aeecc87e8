use Rattle.pg_worker.specs.Standing.{IsAt, run_in, table_in}
use Rattle.pg_crew.specs.Workers.{HasGone}
use Rattle.pg_crew.proofs.parking.segments.Given as goal

abbrev pub invariant-loop : goal.invariant-loop
invariant-loop g l = record {
  at : IsAt (run_in l.shared) (table_in l.shared) 0 l.worker;
  gone : HasGone (run_in l.shared) l.fn.worker l.worker;
}
