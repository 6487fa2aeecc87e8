use Rattle.std.proofs.Common.{◌≡◌}
use Rattle.pg_run_trace.specs.Races as defs
use Rattle.pg_schedule.proofs.fast.races_from.Given as goal

abbrev pub invariant-loop-id : goal.invariant-loop-id
invariant-loop-id l = l.races.items ≡ defs.races_below (defs.timed_by defs.asked l.t.steps) l.id
