-- Literals as numbers of a width.
use Rattle.std.specs.Prelude.{ℕ, ◌-◌, Option, List, pos, neg_ℤ}
use Rattle.std.specs.Option.{option_map}
use Rattle.pg_read_ast.specs.pg_num.Decimal.{decimal_between}
use Rattle.pg_read_ast.specs.pg_num.Numbers.{modulus, half, residue}
use Rattle.pg_read_ast.specs.pg_num.declared.width.Width.{Width}

-- the value that a literal is at a width of n bits: it lies between -2 ^ (n - 1) and 2 ^ n - 1
abbrev pub literal_in : Width → List ℕ → Option ℕ
literal_in w text = option_map (residue w) (decimal_between (neg_ℤ (pos (half w))) (pos (modulus w - 1)) text)
