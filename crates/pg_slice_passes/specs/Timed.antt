-- The footprints of the first steps of a trace by the intervals of the steps alone.
use Rattle.std.specs.Prelude.{◌≡◌, ℕ, ◌≤◌, List, ◌++◌, Some, slice_get}
use Rattle.std.specs.List.{AllByRecursion}
use Rattle.pg_slice_conflicts.specs.declared.footprint.Footprint.{Footprint}
use Rattle.pg_slice_conflicts.specs.Meets.{InOrder}
use Rattle.pg_schedule.specs.declared.interval.Interval.{Interval}
use Rattle.pg_law_threads.specs.Intervals.{Timed}
use Rattle.pg_run_trace.specs.declared.step.Step.{Step}
use Rattle.pg_run_trace.specs.Races.{recorded, timed_by}
use Rattle.pg_slice_passes.specs.declared.footprints.Footprints.{Footprints}
use Rattle.pg_slice_passes.specs.Rows.{AreRows}

-- it is one of a step with this interval
pub record IsOf (x : Step) (i : Interval) (f : Footprint) : Type 0 where
  pub thread : f.thread.0 ≡ x.thread.0
  pub low : f.low ≡ i.low
  pub high : f.high ≡ i.high

-- footprints were added, and those that are kept of them are of such a step
pub record AddsOf (x : Step) (i : Interval) (old new : Footprints) : Type 0 where
  pub more : List Footprint
  pub kept : new.kept.items ≡ old.kept.items ++ more
  pub each : AllByRecursion (IsOf x i) more
  pub rows : AreRows new

-- the last turn of its step doesn't stand behind the next turn of a step from step n on
abbrev pub IsEarlier : List Step → ℕ → Footprint → Type 0
IsEarlier xs n f = (j : ℕ) (t : Timed Step) → n ≤ j → slice_get (timed_by recorded xs) j ≡ Some t → f.low ≤ t.high

-- footprints of the first n steps
pub record AreEarlier (xs : List Step) (n : ℕ) (p : Footprints) : Type 0 where
  pub order : InOrder p.kept.items
  pub each : AllByRecursion (IsEarlier xs n) p.kept.items
  pub rows : AreRows p
