-- The steps of a trace as touches of bytes. Of two steps of different threads the later is unordered with the
-- earlier where its last turn doesn't stand behind the next turn of the earlier.
use Rattle.std.specs.Prelude.{ℕ, ◌+◌, ◌-◌, ◌≤◌, List, [], ◌∷◌, false, Option, Some, None, slice_get, ◌≡◌, length}
use Rattle.pg_num.specs.Pointers.{byte_place}
use Rattle.pg_ir.specs.declared.ids.ThreadNo.{ThreadNo}
use Rattle.pg_law_threads.specs.Intervals.{Timed}
use Rattle.pg_run_trace.specs.declared.step.Access.{Access}
use Rattle.pg_run_trace.specs.declared.step.Step.{Step}
use Rattle.pg_run_trace.specs.Steps.{access_of}
use Rattle.pg_schedule.specs.declared.interval.Interval.{Interval}
use Rattle.pg_schedule.specs.declared.touch.Touch.{Touch}
use Rattle.pg_schedule.specs.declared.touching.Pass.{Pass}
use Rattle.pg_schedule.specs.declared.touching.Pass.TheVariants.{Forward, Backward}

-- the bytes of an access, none where there is no access
abbrev pub touch_with : ThreadNo → ℕ → ℕ → Option Access → Touch
touch_with t rank need None = record { thread = t; start = 0; bytes = 0; writes = false; rank = rank; need = need }
touch_with t rank need (Some a) = record { thread = t; start = byte_place a.pointer; bytes = a.bytes; writes = a.writes; rank = rank; need = need }

abbrev pub touch_of : Step → ℕ → ℕ → Touch
touch_of x rank need = touch_with x.thread rank need (access_of x)

-- for a pass forward: one before answers one behind where its next turn is no less than the last turn of that
abbrev pub forward : Timed Step → Touch
forward x = touch_of x.did (x.high + 1) x.low

-- for a pass backward, where no interval passes n: one behind answers one before where its last turn is no
-- greater than the next turn of that
abbrev pub backward : ℕ → Timed Step → Touch
backward n x = touch_of x.did (n + 1 - x.low) (n - x.high)

-- for a pass either way
abbrev pub touch_for : Pass → ℕ → Timed Step → Touch
touch_for Forward n x = forward x
touch_for Backward n x = backward n x

-- steps beside intervals
abbrev pub beside : List Step → List Interval → List (Timed Step)
beside [] ns = []
beside (x ∷ xs) [] = []
beside (x ∷ xs) (n ∷ ns) = record { did = x; low = n.low; high = n.high } ∷ beside xs ns

-- no interval passes the number of intervals
pub record IsWithin (n : ℕ) (v : Interval) : Type 0 where
  pub low : v.low ≤ n
  pub high : v.high ≤ n

abbrev pub AreWithin : List Interval → Type 0
AreWithin ns = (i : ℕ) (v : Interval) → slice_get ns i ≡ Some v → IsWithin (length ns) v
