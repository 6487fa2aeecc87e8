-- How far threads have come: what they may ask, and how many wait to be signalled.
use Rattle.std.specs.Prelude.{ℕ, ◌+◌, ◌≤◌, ◌||◌, not, List, [], ◌∷◌, length, Bool, true, false}
use Rattle.pg_ir.specs.pg_num.declared.limits.TheConstants.{THREAD_LIMIT}
use Rattle.pg_ir.specs.declared.request.Request.{Request}
use Rattle.pg_ir.specs.declared.request.Request.TheVariants.{Start, Wake, Leave}
use Rattle.pg_run_objects.specs.declared.status.Stage.{Stage}
use Rattle.pg_run_objects.specs.declared.status.Stage.TheVariants.{Made, Running, Waiting, Arrived, Ended}
use Rattle.pg_run_objects.specs.declared.status.Status.{Status}
use Rattle.pg_run_objects.specs.declared.status.Waiter.{Waiter}
use Rattle.pg_run_objects.specs.Sync.{one_if}

abbrev pub is_second_part : Request → Bool
is_second_part (Wake c m) = true
is_second_part (Leave o) = true
is_second_part r = false

abbrev pub is_start : Request → Bool
is_start Start = true
is_start r = false

abbrev pub is_wake : Request → Bool
is_wake (Wake c m) = true
is_wake r = false

abbrev pub is_leave : Request → Bool
is_leave (Leave o) = true
is_leave r = false

-- what a thread may ask: its start before all else, a wake exactly after a wait, a leave exactly after an
-- arrive, and nothing once it has ended
unfoldable pub may_ask : Stage → Request → Bool
may_ask Made r = is_start r
may_ask Running r = not (is_start r || is_second_part r)
may_ask (Waiting signalled) r = is_wake r
may_ask (Arrived barrier released last) r = is_leave r
may_ask Ended r = false

-- it waits on a condition and wasn't signalled
abbrev pub is_unsignalled : Stage → Bool
is_unsignalled (Waiting signalled) = not signalled
is_unsignalled s = false

abbrev pub unsignalled : Status → Bool
unsignalled s = is_unsignalled s.stage

-- how many threads wait for a signal
abbrev pub unsignalled_count : List Status → ℕ
unsignalled_count [] = 0
unsignalled_count (s ∷ ss) = one_if (unsignalled s) + unsignalled_count ss

-- there is room for all threads, and for all that wait
unfoldable pub FitsLimits : List Status → List Waiter → ℕ → ℕ → Type 0
FitsLimits threads waiters thread_room waiter_room =
    (length threads ≤ THREAD_LIMIT) × (THREAD_LIMIT ≤ thread_room) × (THREAD_LIMIT ≤ waiter_room)
    × (length waiters ≤ unsignalled_count threads)
