-- A set of numbers, as a table.
use Rattle.std.specs.Prelude.{ℕ, List, Bool, false, slice_index_or}

abbrev pub in_table : List Bool → ℕ → Bool
in_table table i = slice_index_or table i false
