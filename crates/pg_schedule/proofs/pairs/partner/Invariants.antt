use Rattle.std.proofs.Common.{◌≡◌, None, take}
use Rattle.std.specs.List.{position_from}
use Rattle.pg_schedule.specs.Unordered.{timed_of}
use Rattle.pg_run_trace.specs.Races as races
use Rattle.pg_schedule.proofs.pairs.partner.Given as goal

abbrev pub invariant-loop-j : goal.invariant-loop-j
invariant-loop-j l = position_from (races.is_unordered (timed_of l.x)) 0 (take l.j (races.timed_by races.asked l.t.steps)) ≡ None
