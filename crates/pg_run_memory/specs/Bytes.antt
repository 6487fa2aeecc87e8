-- Numbers as bytes, the low byte first (little-endian).
use Rattle.std.specs.Prelude.{ℕ, zero, suc, ◌+◌, ◌-◌, ◌*◌, ◌/◌, ◌%◌, ◌^◌, nat_le, nat_lt, ◌&&◌, if◌then◌else◌}
use Rattle.pg_ir.specs.pg_num.Places.{ByteRange}

-- byte k of a number
abbrev pub byte_of : ℕ → ℕ → ℕ
byte_of number k = number / 2 ^ (8 * k) % 2 ^ 8

-- the number that the bytes of f make in the n places from a place on
unfoldable pub number_of : (ℕ → ℕ) → ℕ → ℕ → ℕ
number_of f at zero = 0
number_of f at (suc n) = number_of f (suc at) n * 2 ^ 8 + f at

-- the bytes of f, with those of a number in a range
abbrev pub with_bytes : (ℕ → ℕ) → ByteRange → ℕ → ℕ → ℕ
with_bytes f r number at =
    if nat_le r.start at && nat_lt at (r.start + r.bytes) then byte_of number (at - r.start) else f at
