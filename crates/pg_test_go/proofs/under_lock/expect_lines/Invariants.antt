use Rattle.pg_test_go.specs.Serves.{Serves}
use Rattle.pg_test_go.proofs.under_lock.expect_lines.Given as goal

abbrev pub invariant-lines : goal.invariant-lines
invariant-lines g l = Serves l.p l.entry
