use Rattle.std.proofs.Common.{◌-◌, length}
use Rattle.pg_schedule.specs.Intervals.{view_of}
use Rattle.pg_schedule.proofs.IntervalWalk.{Backward}
use Rattle.pg_schedule.proofs.interval.intervals.Given as goal

abbrev pub invariant-loop-k : goal.invariant-loop-k
invariant-loop-k l = Backward (view_of l.turns) l.t.steps (length l.t.steps - l.k) l.intervals.items l.due l.next
