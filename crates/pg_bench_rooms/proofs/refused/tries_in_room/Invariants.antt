use Rattle.pg_test_go.specs.Serves.{Serves}
use Rattle.pg_bench_rooms.proofs.refused.tries_in_room.Given as goal

abbrev pub invariant-tries : goal.invariant-tries
invariant-tries g l = Serves l.p l.entry
