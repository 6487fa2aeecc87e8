-- The numbers of an input.
use Rattle.std.specs.Prelude.{ℕ, ℤ, pos, negsuc, List, Option, Some, None, slice_get}
use Rattle.pg_num.specs.declared.width.Width.TheVariants.{W64}
use Rattle.pg_num.specs.Numbers.{residue}

abbrev pub number_or_zero : Option ℤ → ℕ
number_or_zero None = 0
number_or_zero (Some n) = residue W64 n

-- the input's number at an index, 0 outside of the input
abbrev pub input_at : List ℤ → ℤ → ℕ
input_at input (pos i) = number_or_zero (slice_get input i)
input_at input (negsuc i) = 0
