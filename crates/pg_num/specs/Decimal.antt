-- Decimal text: one or more ASCII digits, and before them a minus sign or nothing. Leading zeros are digits.
use Rattle.std.specs.Prelude.{ℕ, ◌+◌, ◌-◌, ◌*◌, Bool, false, not, ◌==◌, ◌&&◌, nat_le, if◌then◌else◌, List, [], ◌∷◌, length, ℤ, pos, neg_ℤ, int_le}
use Rattle.std.specs.Prelude.{Option, Some, None}
use Rattle.std.specs.List.{list_all}

-- '0' to '9'
abbrev pub is_digit : ℕ → Bool
is_digit byte = nat_le 48 byte && nat_le byte 57

-- one or more digits, and nothing else
abbrev pub are_digits : List ℕ → Bool
are_digits text = not (length text == 0) && list_all is_digit text

-- the number that digits write when they follow those of n
abbrev pub digits_after : ℕ → List ℕ → ℕ
digits_after n [] = n
digits_after n (digit ∷ digits) = digits_after (n * 10 + (digit - 48)) digits

-- the number that digits write
abbrev pub natural_of : List ℕ → ℕ
natural_of digits = digits_after 0 digits

-- a minus sign stands first
abbrev pub is_negative : List ℕ → Bool
is_negative [] = false
is_negative (byte ∷ bytes) = byte == 45

-- the text without its minus sign
abbrev pub digits_of : List ℕ → List ℕ
digits_of [] = []
digits_of (byte ∷ bytes) = if byte == 45 then bytes else byte ∷ bytes

abbrev pub is_decimal : List ℕ → Bool
is_decimal text = are_digits (digits_of text)

-- the integer that decimal text writes
abbrev pub integer_of : List ℕ → ℤ
integer_of text =
    if is_negative text then neg_ℤ (pos (natural_of (digits_of text))) else pos (natural_of (digits_of text))

abbrev pub is_between : ℤ → ℤ → ℤ → Bool
is_between low high n = int_le low n && int_le n high

-- the integer that a text writes, if it is decimal text and its integer lies in a range
abbrev pub decimal_between : ℤ → ℤ → List ℕ → Option ℤ
decimal_between low high text =
    if is_decimal text && is_between low high (integer_of text) then Some (integer_of text) else None

-- the number that a text writes, if it is digits alone and their number is at most this
abbrev pub digits_up_to : ℕ → List ℕ → Option ℕ
digits_up_to high text = if are_digits text && nat_le (natural_of text) high then Some (natural_of text) else None
