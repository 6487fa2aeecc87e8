use Rattle.std.proofs.Common.{◌≡◌, None, take}
use Rattle.std.specs.List.{position_from}
use Rattle.pg_run_trace.specs.Races as races
use Rattle.pg_schedule.proofs.pairs.first_racing.Given as goal

abbrev pub invariant-loop-i : goal.invariant-loop-i
invariant-loop-i l = position_from (races.is_racing (races.timed_by races.asked l.t.steps) l.id.0) 0 (take l.i (races.timed_by races.asked l.t.steps)) ≡ None
