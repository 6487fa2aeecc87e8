-- Touches: accesses of bytes in a list, each with a rank that it gives to others, and a rank that it needs of
-- them.
use Rattle.std.specs.Prelude.{ℕ, zero, suc, ◌+◌, ◌==◌, ◌&&◌, ◌||◌, not, max, nat_lt, List, [], ◌∷◌, ◌++◌, Bool, false, if◌then◌else◌}
use Rattle.std.specs.List.{list_any}
use Rattle.pg_num.specs.Places.{ByteRange}
use Rattle.pg_run_trace.specs.Races.{share}
use Rattle.pg_schedule.specs.declared.touch.Touch.{Touch}

abbrev pub range_of : Touch → ByteRange
range_of x = record { start = x.start; bytes = x.bytes }

-- x answers y: they are of different threads, their bytes meet, one writes, and the
-- rank of x is greater than y needs
abbrev pub answers : Touch → Touch → Bool
answers x y = (not (x.thread.0 == y.thread.0) && ((x.writes || y.writes) && share (range_of x) (range_of y))) && nat_lt y.need x.rank

-- of each touch of a list whether one before it answers it; xs stand before the list
abbrev pub before_in : List Touch → List Touch → List Bool
before_in xs [] = []
before_in xs (y ∷ ys) = list_any (λ x. answers x y) xs ∷ before_in (xs ++ y ∷ []) ys

-- of each touch of a list whether one behind it answers it
abbrev pub behind_in : List Touch → List Bool
behind_in [] = []
behind_in (y ∷ ys) = list_any (λ x. answers x y) ys ∷ behind_in ys

abbrev pub rank_if : Bool → ℕ → ℕ
rank_if b n = if b then n else 0

-- the greatest rank of those that pass a test, 0 where none does
abbrev pub greatest : (Touch → Bool) → List Touch → ℕ
greatest p [] = 0
greatest p (x ∷ xs) = max (rank_if (p x) x.rank) (greatest p xs)

-- one of the first n bytes from s on passes a test
abbrev pub any_byte : (ℕ → Bool) → ℕ → ℕ → Bool
any_byte test s zero = false
any_byte test s (suc n) = any_byte test s n || test (s + n)
