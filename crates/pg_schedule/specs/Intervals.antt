-- The intervals of a trace's steps, as a list beside it.
use Rattle.std.specs.Prelude.{ℕ, List, map, Bool, is_some}
use Rattle.pg_law_threads.specs.Steps.{View}
use Rattle.pg_law_threads.specs.Intervals.{Timed}
use Rattle.pg_run_trace.specs.declared.step.Step.{Step}
use Rattle.pg_run_trace.specs.Races.{is_asked, steps_by, timed_by}
use Rattle.pg_run_trace.specs.Steps.{happening_in}
use Rattle.pg_schedule.specs.declared.interval.Interval.{Interval}
use Rattle.pg_schedule.specs.declared.interval.Turns.{Turns}
use Rattle.pg_schedule.specs.declared.interval.Turns.TheVariants as kinds

abbrev pub is_turn : Turns → Step → Bool
is_turn kinds.Recorded x = is_some (happening_in x.kind)
is_turn kinds.Asked x = is_asked x.kind

-- how the steps are read where these count as turns
abbrev pub view_of : Turns → View Step
view_of turns = steps_by (is_turn turns)

abbrev pub interval_of : Timed Step → Interval
interval_of x = record { low = x.low; high = x.high }

-- the interval of each step
abbrev pub intervals_of : Turns → List Step → List Interval
intervals_of turns xs = map interval_of (timed_by (view_of turns) xs)

-- a step's last turn and no more
abbrev pub from_low : Timed Step → Interval
from_low x = record { low = x.low; high = 0 }
