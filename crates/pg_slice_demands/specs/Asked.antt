-- What is asked of a register and of a byte.
use Rattle.std.specs.Prelude.{◌≡◌, ℕ, ◌&&◌, nat_lt, Bool, false, Option, None, is_some, if◌then◌else◌}
use Rattle.pg_slice_demands.specs.declared.demanded.Demanded.{Demanded}
use Rattle.pg_slice_demands.specs.CellLists.{cell_at}
use Rattle.pg_slice_demands.specs.Places.{register_place}

-- of a register of a call of a thread: all of its number, or the bounds of the pointer that it holds, or nothing
abbrev pub asked_of : Demanded → ℕ → ℕ → ℕ → Option Bool
asked_of m t k r = if nat_lt k 512 && nat_lt r 4096 then cell_at m.cells (register_place t k r) else None

abbrev pub asks_byte : Demanded → ℕ → Bool
asks_byte m b = if nat_lt b 67108864 then is_some (cell_at m.cells b) else false

-- the same is asked of each register and of each byte
abbrev pub IsAskedAlike : Demanded → Demanded → Type 0
IsAskedAlike m n = ((t k r : ℕ) → asked_of n t k r ≡ asked_of m t k r) × ((b : ℕ) → asks_byte n b ≡ asks_byte m b)
