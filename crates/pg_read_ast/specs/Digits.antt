-- Decimal digits without leading zeros, and numbers of one width.
use Rattle.std.specs.Prelude.{ℕ, ◌-◌, List, ◌++◌, length, replicate, ◌≡◌}
use Rattle.pg_read_lex.specs.pg_num.Decimal.{natural_of}
use Rattle.pg_read_ast.specs.Numbers.{digits_text}

-- digits without leading zeros, none for 0
pub record IsPlain (digits : List ℕ) : Type 0 where
  pub same : digits ≡ digits_text (natural_of digits)

-- with zeros before it, up to a width
abbrev pub padded : ℕ → List ℕ → List ℕ
padded width digits = replicate (width - length digits) 48 ++ digits
