-- A step beside its interval.
use Rattle.pg_law_threads.specs.Intervals.{Timed}
use Rattle.pg_run_trace.specs.declared.step.Step.{Step}
use Rattle.pg_schedule.specs.declared.unordered.TimedStep.{TimedStep}

abbrev pub timed_of : TimedStep → Timed Step
timed_of x = record { did = x.step; low = x.interval.low; high = x.interval.high }
