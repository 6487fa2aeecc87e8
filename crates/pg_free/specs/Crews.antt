-- Workers, each seen as its thread.
use Rattle.std.specs.Prelude.{◌≡◌, ◌<◌, ℕ, List, length, slice_index_or}
use Rattle.pg_num.specs.declared.limits.TheConstants.{THREAD_LIMIT}
use Rattle.pg_ir.specs.declared.ids.ThreadNo.{ThreadNo}

-- there is one worker for each thread that a run may have, worker i for thread i
pub record AreWorkers (ws : List ThreadNo) : Type 0 where
  pub count : length ws ≡ THREAD_LIMIT
  pub each : (i : ℕ) (d : ThreadNo) → i < THREAD_LIMIT → slice_index_or ws i d ≡ record { 0 = i }
