use Rattle.pg_test_go.specs.Serves.{Serves}
use Rattle.pg_test_go.proofs.stalls.serve_each_stall.Given as goal

abbrev pub invariant-calls : goal.invariant-calls
invariant-calls g l = Serves l.p l.entry
