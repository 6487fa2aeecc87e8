use Rattle.std.proofs.Common.{◌≡◌, map, take}
use Rattle.pg_run_trace.specs.Races.{with_gated}
use Rattle.pg_run_trace.specs.Steps.{events}
use Rattle.pg_schedule.proofs.schedule.turns.Given as goal

abbrev pub invariant-loop-i : goal.invariant-loop-i
invariant-loop-i l = l.turns.items ≡ events (map (with_gated l.gated) (take l.i l.t.steps))
