use Rattle.pg_worker.specs.Standing.{run_in, table_in}
use Rattle.pg_crew.proofs.WorkerLists.{Going}
use Rattle.pg_crew.proofs.one_by_one.in_turn.Given as goal

abbrev pub invariant-loop-i : goal.invariant-loop-i
invariant-loop-i g l = Going (run_in l.shared) (table_in l.shared) l.fn.workers l.workers l.i
