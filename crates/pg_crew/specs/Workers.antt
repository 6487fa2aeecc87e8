-- The workers of a run as a list, and what a round changes of them.
use Rattle.std.specs.Prelude.{◌≡◌, ℕ, zero, suc, ◌+◌, ◌-◌, ◌^◌, ◌<◌, ◌≤◌, min, List, length, Option, Some, None, slice_get, slice_index, slice_index_or}
use Rattle.atomic_table.specs.Seated.{TableId}
use Rattle.pg_worker.specs.pg_num.declared.limits.TheConstants.{THREAD_LIMIT}
use Rattle.pg_worker.specs.pg_law_course.Course.{course}
use Rattle.pg_worker.specs.pg_seats.declared.run.Run.{Run}
use Rattle.pg_worker.specs.pg_seats.Plan.{IsEnforced, turns_in}
use Rattle.pg_worker.specs.declared.worker.Paused.{Paused}
use Rattle.pg_worker.specs.declared.worker.Worker.{Worker}
use Rattle.pg_worker.specs.Standing.{HasPaused, IsAt, WentOn}

-- they are the workers of the run over this table: worker t of the list is that of thread t; main has one, and so has each thread that a
-- run may have and that owns a turn of the schedule
pub record AreWorkers (r : Run) (table : TableId) (ws : List Worker) : Type 0 where
  pub enforced : IsEnforced r
  pub main : 0 < length ws
  pub few : length ws ≤ THREAD_LIMIT
  pub thread : (t : ℕ) (d : Worker) → t < length ws → (slice_index_or ws t d).thread.0 ≡ t
  pub at : (t : ℕ) (d : Worker) → t < length ws → IsAt r table 0 (slice_index_or ws t d)
  pub owners : (g t : ℕ) → slice_get (turns_in r) g ≡ Some t → t < THREAD_LIMIT → t < length ws

-- b is a behind at least one segment: it has no turn left, or waits for its next turn, or is stopped
pub record HasGone (r : Run) (a b : Worker) : Type 0 where
  pub went : WentOn a b
  pub why : Paused
  pub paused : HasPaused r why a b

-- so are all of them
pub record HaveGone (r : Run) (before now : List Worker) : Type 0 where
  pub count : length now ≡ length before
  pub each : (t : ℕ) (d : Worker) → t < length before → HasGone r (slice_index_or before t d) (slice_index_or now t d)

-- ---- how many turns were done

abbrev pub done_by : Option Worker → ℕ
done_by None = 0
done_by (Some w) = w.done

-- by the first n of them
abbrev pub turns_of_first : ℕ → List Worker → List Worker → ℕ
turns_of_first zero before now = 0
turns_of_first (suc n) before now = turns_of_first n before now + (done_by (slice_get now n) - done_by (slice_get before n))

-- since each of them had done so many
abbrev pub turns_since : ℕ → List ℕ → List Worker → ℕ
turns_since zero counts now = 0
turns_since (suc n) counts now = turns_since n counts now + (done_by (slice_get now n) - slice_index counts n)

-- by all of them
abbrev pub turns_between : List Worker → List Worker → ℕ
turns_between before now = turns_of_first (length before) before now

-- a count, which stands still at the greatest number of 64 bits, behind so many turns more
abbrev pub counted : ℕ → ℕ → ℕ
counted count turns = min (count + turns) (2 ^ 64 - 1)

-- ---- the end

-- they have done all steps of their threads in the full guided run
abbrev pub HaveEnded : Run → TableId → List Worker → Type 0
HaveEnded r table ws = (t : ℕ) (d : Worker) → t < length ws → (at : IsAt r table 0 (slice_index_or ws t d)) × (at.taken ≡ length (course r.program r.input r.schedule t))
