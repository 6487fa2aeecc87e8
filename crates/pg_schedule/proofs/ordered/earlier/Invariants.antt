use Rattle.std.proofs.Common.{◌≡◌, None, take}
use Rattle.std.specs.List.{position_from}
use Rattle.pg_schedule.specs.Unordered.{timed_of}
use Rattle.pg_run_trace.specs.Races as races
use Rattle.pg_schedule.proofs.ordered.earlier.Given as goal

abbrev pub invariant-loop-i : goal.invariant-loop-i
invariant-loop-i l = position_from (λ x. races.is_unordered x (timed_of l.y)) 0 (take l.i (races.timed_by races.recorded l.t.steps)) ≡ None
