use Rattle.pg_schedule.specs.Intervals.{view_of}
use Rattle.pg_schedule.proofs.StepPositions.{timed_get}
use Rattle.pg_schedule.proofs.unordered.timed.Goals as goal

pub returns : goal.returns
returns c turns e = timed_get (view_of turns) c.args.t.now.steps c.args.intervals.now c.args.i c.step.result (record { low = 0; high = 0 }) e c.step.ensures
