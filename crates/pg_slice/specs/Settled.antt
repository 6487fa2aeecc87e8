-- Of which steps it is known that they are live, and what is owed by their bounds.
use Rattle.std.specs.Prelude.{◌≡◌, ◌==◌, ◌<◌, ℕ, ℤ, List, Bool, true, false, Some, length, slice_get, slice_index_or}
use Rattle.pg_ir.specs.declared.ids.InstrId.{InstrId}
use Rattle.pg_ir.specs.Program.{NumberedProgram}
use Rattle.pg_run_trace.specs.declared.step.Step.{Step}
use Rattle.pg_run_trace.specs.Races.{overlap}
use Rattle.pg_slice_rules.specs.Closed.{AreWithin, IsClosed}
use Rattle.pg_slice_rules.specs.Freeable.{Regions}
use Rattle.pg_slice_rules.specs.Known.{Taken, has}
use Rattle.pg_slice_rules.specs.declared.decision.Decision.{Decision}
use Rattle.pg_slice_rules.specs.Moments.{Moment, thread_in}
use Rattle.pg_slice_walk.specs.pg_law_least.Keeps.{ExtentsKeep}
use Rattle.pg_schedule.specs.declared.interval.Interval.{Interval}
use Rattle.pg_schedule.specs.declared.interval.Turns.TheVariants.{Recorded}
use Rattle.pg_schedule.specs.Intervals.{intervals_of}
use Rattle.pg_slice_walk.specs.pg_slice_replay.declared.run.ReferenceRun.{ReferenceRun}
use Rattle.pg_slice_walk.specs.pg_slice_replay.Kept.{step_count}
use Rattle.pg_slice_walk.specs.pg_slice_passes.Given.{HasLandmarks, reference_of}
use Rattle.pg_slice_walk.specs.Chains.{Holds}
use Rattle.pg_slice_walk.specs.Settled.{ArePinned}
use Rattle.pg_slice.specs.Rivals.{AreDisturbed, AreShared}

-- each step is live that is marked so
pub record AreLive (holders : List ℕ) (d : Taken) (live : List Bool) : Type 0 where
  pub by : (n : ℕ) → slice_index_or live n false ≡ true → ArePinned holders d (slice_index_or holders n 0)

-- step n of a replayed run with its intervals is live, and so are the steps that are marked
pub record IsAsked (r : ReferenceRun) (timed : List Interval) (holders : List ℕ) (xs : List Step) (d : Taken) (marks : List Bool) (n : ℕ) : Type 0 where
  pub count : step_count r ≡ length xs
  pub intervals : timed ≡ intervals_of Recorded xs
  pub number : n < length xs
  pub live : AreLive holders d marks
  pub here : ArePinned holders d (slice_index_or holders n 0)

-- the steps are of different threads, in overlapping intervals
pub record AreTogether (xs : List Step) (n y : ℕ) : Type 0 where
  pub by : (p : NumberedProgram) (regions : Regions) (gated : List InstrId) (input : List ℤ) → (m my : Moment) →
      slice_get (reference_of p regions gated input xs).moments n ≡ Some m → slice_get (reference_of p regions gated input xs).moments y ≡ Some my →
      ((thread_in m == thread_in my) ≡ false) × (overlap m.did my.did ≡ true)

-- the fourth rule asks that step n is pinned, where both it and step y are live
pub record Disturbs (r : ReferenceRun) (xs : List Step) (n y : ℕ) : Type 0 where
  pub by : (p : NumberedProgram) (regions : Regions) (gated : List InstrId) (input : List ℤ) → HasLandmarks (reference_of p regions gated input xs) r → (m my : Moment) →
      slice_get (reference_of p regions gated input xs).moments n ≡ Some m → slice_get (reference_of p regions gated input xs).moments y ≡ Some my →
      AreDisturbed (reference_of p regions gated input xs) m my

-- the fifth rule asks that step n is exact, where both it and step y are live
pub record Shares (xs : List Step) (n y : ℕ) : Type 0 where
  pub by : (p : NumberedProgram) (regions : Regions) (gated : List InstrId) (input : List ℤ) → (m my : Moment) →
      slice_get (reference_of p regions gated input xs).moments n ≡ Some m → slice_get (reference_of p regions gated input xs).moments y ≡ Some my → AreShared m my

-- the second decisions stay within each closed set that the first were within
pub record Widens (r : ReferenceRun) (holders : List ℕ) (xs : List Step) (old new : Taken) : Type 0 where
  pub by : (p : NumberedProgram) (regions : Regions) (gated : List InstrId) (input : List ℤ) → HasLandmarks (reference_of p regions gated input xs) r →
      ExtentsKeep (reference_of p regions gated input xs) → Holds (reference_of p regions gated input xs) r holders → (e : Taken) → IsClosed (reference_of p regions gated input xs) e →
      AreWithin old e → AreWithin new e

-- each closed set that contains these decisions has this one
pub record IsOwed (r : ReferenceRun) (holders : List ℕ) (xs : List Step) (d : Taken) (x : Decision) : Type 0 where
  pub by : (p : NumberedProgram) (regions : Regions) (gated : List InstrId) (input : List ℤ) → HasLandmarks (reference_of p regions gated input xs) r →
      ExtentsKeep (reference_of p regions gated input xs) → Holds (reference_of p regions gated input xs) r holders → (e : Taken) → IsClosed (reference_of p regions gated input xs) e →
      AreWithin d e → has e x ≡ true
