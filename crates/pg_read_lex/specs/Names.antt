-- The bytes that a token stands for: a name without its mark, a string without its quotes and with its escapes read.
use Rattle.std.specs.Prelude.{ℕ, zero, suc, ◌+◌, ◌-◌, ◌*◌, Bool, ◌&&◌, ◌||◌, ◌==◌, nat_le, List, [], ◌∷◌, length, take, drop, if◌then◌else◌}
use Rattle.pg_read_lex.specs.declared.token.TokenKind.{TokenKind}
use Rattle.pg_read_lex.specs.declared.token.TokenKind.TheVariants.{Label, CStr, Str, Local, Global}
use Rattle.pg_num.specs.Decimal.{is_digit}
use Rattle.pg_read_lex.specs.Bytes.{is_quote, begins}

abbrev pub is_hexadecimal : ℕ → Bool
is_hexadecimal b = is_digit b || (nat_le 65 b && nat_le b 70) || (nat_le 97 b && nat_le b 102)

abbrev pub hexadecimal_value : ℕ → ℕ
hexadecimal_value b = if is_digit b then b - 48 else if nat_le b 70 then b - 55 else b - 87

-- a byte, and the number of bytes that it is written with
pub record Escape : Type 0 where
  pub byte : ℕ
  pub size : ℕ

-- \\ is a backslash, \hh the byte of two hexadecimal digits, and any other backslash itself
abbrev pub escape_of : ℕ → List ℕ → Escape
escape_of b [] = record { byte = b; size = 1 }
escape_of b (c ∷ []) = if b == 92 && c == 92 then record { byte = 92; size = 2 } else record { byte = b; size = 1 }
escape_of b (c ∷ d ∷ bs) =
    if b == 92 && c == 92 then record { byte = 92; size = 2 }
    else if b == 92 && is_hexadecimal c && is_hexadecimal d then record { byte = hexadecimal_value c * 16 + hexadecimal_value d; size = 3 }
    else record { byte = b; size = 1 }

abbrev pub escape_in : List ℕ → Escape
escape_in [] = record { byte = 0; size = 1 }
escape_in (b ∷ bs) = escape_of b bs

-- the bytes that are written, the first few of which belong to the escape before
unfoldable pub unescaped_from : ℕ → List ℕ → List ℕ
unescaped_from skip [] = []
unescaped_from (suc skip) (b ∷ bs) = unescaped_from skip bs
unescaped_from zero (b ∷ bs) = (escape_of b bs).byte ∷ unescaped_from ((escape_of b bs).size - 1) bs

abbrev pub unescaped : List ℕ → List ℕ
unescaped bs = unescaped_from 0 bs

-- between the quotes
abbrev pub inside_quotes : List ℕ → List ℕ
inside_quotes bs = take (length bs - 2) (drop 1 bs)

-- a run, or what a string stands for
abbrev pub name_of : List ℕ → List ℕ
name_of bs = if begins is_quote bs then unescaped (inside_quotes bs) else bs

-- what the text of a token stands for
abbrev pub token_name : TokenKind → List ℕ → List ℕ
token_name Label bs = name_of (take (length bs - 1) bs)
token_name Local bs = name_of (drop 1 bs)
token_name Global bs = name_of (drop 1 bs)
token_name CStr bs = name_of (drop 1 bs)
token_name Str bs = name_of bs
token_name _ bs = bs
