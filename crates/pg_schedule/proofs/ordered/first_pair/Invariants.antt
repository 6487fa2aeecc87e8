use Rattle.std.proofs.Common.{◌≡◌, drop, take}
use Rattle.pg_run_trace.specs.Races as races
use Rattle.pg_schedule.proofs.ordered.first_pair.Given as goal

abbrev pub invariant-loop-j : goal.invariant-loop-j
invariant-loop-j l = races.first_unordered l.t.steps ≡ races.unordered_in (take l.j (races.timed_by races.recorded l.t.steps)) l.j (drop l.j (races.timed_by races.recorded l.t.steps))
