use Rattle.pg_schedule.specs.Intervals.{view_of}
use Rattle.pg_schedule.proofs.IntervalWalk.{Forward}
use Rattle.pg_schedule.proofs.interval.lows.Given as goal

abbrev pub invariant-loop-i : goal.invariant-loop-i
invariant-loop-i l = Forward (view_of l.turns) l.t.steps l.i l.intervals.items l.done l.last
