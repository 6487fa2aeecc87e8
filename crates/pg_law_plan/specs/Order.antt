-- The intervals of units, and ordered reference runs.
use Rattle.std.specs.Prelude.{ℕ}
use Rattle.pg_law_threads.specs.Intervals.{IsOrdered, Timed}
use Rattle.pg_run_trace.specs.Races.{recorded}
use Rattle.pg_run.specs.Runs.{IsRun}
use Rattle.pg_run.specs.State.{State, initial}
use Rattle.pg_law_runs.specs.Cuts.{CanRun}
use Rattle.pg_law_plan.specs.Units.{PlanUnit, ReferenceRun, turns_of}

pub record Interval : Type 0 where
  pub low : ℕ
  pub high : ℕ

abbrev pub interval_of : {A : Type 0} → Timed A → Interval
interval_of x = record { low = x.low; high = x.high }

-- that of its step in the reference run
abbrev pub interval_seen : PlanUnit → Interval
interval_seen u = interval_of u.seen.moment.did

-- ---- reference runs

-- a run of the machine that is ordered along its own turns
pub record IsOrderedRun (r : ReferenceRun) : Type 0 where
  pub can : CanRun r.program r.input
  pub last : State
  pub run : IsRun r.gated r.program r.input (initial r.program) r.steps last
  pub ordered : IsOrdered recorded (turns_of r) r.steps
