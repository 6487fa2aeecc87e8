-- The bytes of which tokens are made.
use Rattle.std.specs.Prelude.{ℕ, Bool, false, ◌||◌, ◌&&◌, ◌==◌, nat_le, List, [], ◌∷◌}
use Rattle.pg_num.specs.Decimal.{is_digit}

-- blank, tab, carriage return, line feed
abbrev pub is_blank : ℕ → Bool
is_blank b = b == 32 || b == 9 || b == 13 || b == 10

abbrev pub is_line_feed : ℕ → Bool
is_line_feed b = b == 10

-- "
abbrev pub is_quote : ℕ → Bool
is_quote b = b == 34

-- :
abbrev pub is_colon : ℕ → Bool
is_colon b = b == 58

-- +
abbrev pub is_plus : ℕ → Bool
is_plus b = b == 43

abbrev pub is_letter : ℕ → Bool
is_letter b = (nat_le 65 b && nat_le b 90) || (nat_le 97 b && nat_le b 122)

-- letters, digits, - $ . _
abbrev pub is_name_byte : ℕ → Bool
is_name_byte b = is_letter b || is_digit b || b == 45 || b == 36 || b == 46 || b == 95

abbrev pub is_run_byte : ℕ → Bool
is_run_byte b = is_name_byte b || is_plus b

-- the first byte passes
abbrev pub begins : (ℕ → Bool) → List ℕ → Bool
begins p [] = false
begins p (b ∷ bs) = p b
