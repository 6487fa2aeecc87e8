use Rattle.std.proofs.Common.{◌≡◌, ◌≤◌, take}
use Rattle.pg_run_trace.specs.Steps.{event_count}
use Rattle.pg_run_trace.proofs.trace.Trace.event_count.Given as goal

abbrev pub invariant-loop-i : goal.invariant-loop-i
invariant-loop-i l = (l.count ≡ event_count (take l.i l.self.steps)) × (l.count ≤ l.i)
