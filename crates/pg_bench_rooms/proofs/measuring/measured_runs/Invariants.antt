use Rattle.pg_test_go.specs.Serves.{Serves}
use Rattle.pg_bench_rooms.proofs.measuring.measured_runs.Given as goal

abbrev pub invariant-runs : goal.invariant-runs
invariant-runs g l = Serves l.p l.entry
