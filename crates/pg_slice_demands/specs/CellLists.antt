-- Cells by their places, as the entries of a map.
use Rattle.std.specs.Prelude.{◌≡◌, ◌≤◌, ◌<◌, ℕ, List, Bool, Option, None}
use Rattle.std.specs.Ordering.{nat_cmp}
use Rattle.std.specs.BTreeMap.{is_at}
use Rattle.std.specs.Map.{lookup}

-- a place, and whether all of its cell has to be known, or its bounds alone
abbrev pub CellList : Type 0
CellList = List (ℕ × Bool)

-- what the cell at a place tells, if there is one
abbrev pub cell_at : CellList → ℕ → Option Bool
cell_at cells q = lookup (is_at (nat_cmp q)) cells

-- no cell is at a place from one on to before another
abbrev pub IsEmptyIn : CellList → ℕ → ℕ → Type 0
IsEmptyIn cells from to = (q : ℕ) → from ≤ q → q < to → cell_at cells q ≡ None
