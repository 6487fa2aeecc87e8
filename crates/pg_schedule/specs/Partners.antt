-- The partner of a racing step.
use Rattle.std.specs.Prelude.{ℕ, List, Bool, false, Option, Some, None, take}
use Rattle.std.specs.List.{position_from}
use Rattle.pg_law_threads.specs.Intervals.{Timed}
use Rattle.pg_run_trace.specs.declared.step.Step.{Step}
use Rattle.pg_run_trace.specs.Races.{is_racing, is_unordered}

-- the first step that races with x
abbrev pub partner_of : List (Timed Step) → Option (Timed Step) → Option ℕ
partner_of xs None = None
partner_of xs (Some x) = position_from (is_unordered x) 0 xs

-- x is a load or store of this instruction that races
abbrev pub is_racing_at : List (Timed Step) → ℕ → Option (Timed Step) → Bool
is_racing_at xs id None = false
is_racing_at xs id (Some x) = is_racing xs id x

-- the first step before step j, which is y, that is unordered with it
abbrev pub earlier_of : List (Timed Step) → ℕ → Option (Timed Step) → Option ℕ
earlier_of xs j None = None
earlier_of xs j (Some y) = position_from (λ x. is_unordered x y) 0 (take j xs)
