-- The first racing step of each instruction.
use Rattle.std.specs.Prelude.{◌≡◌, ℕ, ◌<◌, ◌&&◌, List, [], drop, get_or, length, map, Bool, false, Option, Some, None}
use Rattle.std.specs.List.{list_any, position_from}
use Rattle.pg_law_threads.specs.Intervals.{Timed}
use Rattle.pg_run_trace.specs.declared.step.Step.{Step}
use Rattle.pg_run_trace.specs.Races.{is_access, is_racing, is_unordered}
use Rattle.pg_schedule.specs.Touches.{before_in, behind_in}
use Rattle.pg_schedule.specs.Touching.{backward, forward}

-- the step is a load or store, and races
abbrev pub is_raced : List (Timed Step) → Option (Timed Step) → Bool
is_raced xs None = false
is_raced xs (Some x) = is_access x.did.kind && list_any (is_unordered x) xs

-- of each step whether it is unordered with one before it
abbrev pub before_of : List (Timed Step) → List Bool
before_of xs = before_in [] (map forward xs)

-- of each step whether it is unordered with one behind it
abbrev pub behind_of : List (Timed Step) → List Bool
behind_of xs = behind_in (map (backward (length xs)) xs)

-- of each instruction the first racing step from step i on
abbrev pub AreFirst : List (Timed Step) → ℕ → List (Option ℕ) → Type 0
AreFirst xs i firsts = (id : ℕ) → id < length firsts → get_or firsts id None ≡ position_from (is_racing xs id) i (drop i xs)
