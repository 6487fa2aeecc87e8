use Rattle.std.proofs.Common.{◌≡◌}
use Rattle.pg_run_trace.specs.Races as races
use Rattle.pg_schedule.proofs.pairs.races_by_pairs.Given as goal

abbrev pub invariant-loop-id : goal.invariant-loop-id
invariant-loop-id l = l.races.items ≡ races.races_below (races.timed_by races.asked l.t.steps) l.id
