-- The limits of what a session keeps, within which a book may keep it.
use Rattle.std.specs.Prelude.{◌≤◌, ◌<◌, ◌+◌, ℕ, ℤ, All, List, [], ◌∷◌, length, Option, Some, None}
use Rattle.pg_go.specs.pg_num.declared.limits.TheConstants.{CACHE_LIMIT, NUMBERS_LIMIT, RECORDING_STEP_LIMIT, THREAD_LIMIT}
use Rattle.pg_go.specs.pg_ir.declared.ids.InstrId.{InstrId}
use Rattle.pg_go.specs.pg_run_trace.declared.turn.Turn.{Turn}
use Rattle.pg_law_reuse.specs.Entries.{EntryParts}

-- each of these numbers is greater than the one before it, and the first is at least this one
abbrev pub Ascend : ℕ → List InstrId → Type 0
Ascend least [] = Unit {0}
Ascend least (id ∷ ids) = (least ≤ id.0) × Ascend (id.0 + 1) ids

-- few numbers and few turns, each of a thread that a program may have, and loads and stores in order
pub record IsWithinLimits (e : EntryParts) : Type 0 where
  pub input : length e.input ≤ NUMBERS_LIMIT
  pub turns : length e.schedule.turns ≤ RECORDING_STEP_LIMIT
  pub threads : All (λ (t : Turn). t.thread.0 < THREAD_LIMIT) e.schedule.turns
  pub gated : Ascend 0 e.schedule.gated

-- few entries, each within its limits
pub record AreWithinLimits (es : List EntryParts) : Type 0 where
  pub few : length es ≤ CACHE_LIMIT
  pub each : All IsWithinLimits es

-- the line is no input, or one of few numbers
abbrev pub HasFewNumbers : Option (List ℤ) → Type 0
HasFewNumbers None = Unit {0}
HasFewNumbers (Some input) = length input ≤ NUMBERS_LIMIT
