use Rattle.pg_test_go.specs.Serves.{Serves}
use Rattle.pg_test_go.proofs.stalls.a_worker_that_stalls_while_others_park_changes_nothing.Given as goal

abbrev pub invariant-calls : goal.invariant-calls
invariant-calls g l = Serves l.p l.entry
