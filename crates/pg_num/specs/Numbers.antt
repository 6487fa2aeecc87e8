-- Whole numbers of a fixed width in bits, and the operations on them, as the LLVM Language Reference names them.
-- A value of width w is a whole number below 2 ^ w. Where LLVM has poison or undefined behaviour, the choice is said.
use Rattle.std.specs.Prelude.{ℕ, ◌+◌, ◌-◌, ◌*◌, ◌/◌, ◌%◌, ◌^◌, Bool, false, not, ◌==◌, ◌&&◌, nat_lt, nat_le, if◌then◌else◌, ℤ, pos, negsuc}
use Rattle.std.specs.Prelude.{◌-ℤ◌, int_lt, int_le, int_div, int_rem, bit_and, bit_or, bit_xor, Result, Ok, Err}
use Rattle.pg_num.specs.declared.width.Width.{Width}
use Rattle.pg_num.specs.declared.width.Width.TheVariants.{W1, W8, W16, W32, W64}
use Rattle.pg_num.specs.declared.operations.Division.{Division}
use Rattle.pg_num.specs.declared.operations.Division.TheVariants.{Udiv, Sdiv, Urem, Srem}
use Rattle.pg_num.specs.declared.operations.DivideFault.{DivideFault}
use Rattle.pg_num.specs.declared.operations.DivideFault.TheVariants.{Zero, Overflow}
use Rattle.pg_num.specs.declared.operations.Shift.{Shift}
use Rattle.pg_num.specs.declared.operations.Shift.TheVariants.{Shl, Lshr, Ashr}
use Rattle.pg_num.specs.declared.operations.Bits.{Bits}
use Rattle.pg_num.specs.declared.operations.Bits.TheVariants.{And, Or, Xor}
use Rattle.pg_num.specs.declared.operations.Compare.{Compare}
use Rattle.pg_num.specs.declared.operations.Compare.TheVariants.{Eq, Ne, Ugt, Uge, Ult, Ule, Sgt, Sge, Slt, Sle}

-- ---- widths

-- how many bits a width has
abbrev pub width_bits : Width → ℕ
width_bits W1 = 1
width_bits W8 = 8
width_bits W16 = 16
width_bits W32 = 32
width_bits W64 = 64

-- how many bytes a value of a width takes in memory: an i1 takes one
abbrev pub bytes_of : Width → ℕ
bytes_of W1 = 1
bytes_of W8 = 1
bytes_of W16 = 2
bytes_of W32 = 4
bytes_of W64 = 8

-- the modulus of a width: the first number above its values
abbrev pub modulus : Width → ℕ
modulus w = 2 ^ width_bits w

-- half of the modulus: the first value that is read as negative
abbrev pub half : Width → ℕ
half w = 2 ^ (width_bits w - 1)

-- the signed reading of a value (two's complement)
abbrev pub signed : Width → ℕ → ℤ
signed w n = if nat_lt n (half w) then pos n else pos n -ℤ pos (modulus w)

-- the value of a width that an integer is, modulo 2 ^ w; negsuc n is -(n + 1)
abbrev pub residue : Width → ℤ → ℕ
residue w (pos n) = n % modulus w
residue w (negsuc n) = modulus w - 1 - n % modulus w

-- ---- sums, differences, products

abbrev pub sum_of : Width → ℕ → ℕ → ℕ
sum_of w a b = (a + b) % modulus w

abbrev pub difference_of : Width → ℕ → ℕ → ℕ
difference_of w a b = residue w (pos a -ℤ pos b)

abbrev pub product_of : Width → ℕ → ℕ → ℕ
product_of w a b = a * b % modulus w

-- ---- quotients and remainders

-- the value whose signed reading is the least of the width
abbrev pub least : Width → ℕ
least w = half w

-- the value whose signed reading is -1
abbrev pub minus_one : Width → ℕ
minus_one w = modulus w - 1

-- a signed quotient or remainder of the least number by -1
abbrev pub overflows : Division → Width → ℕ → ℕ → Bool
overflows Sdiv w a b = a == least w && b == minus_one w
overflows Srem w a b = a == least w && b == minus_one w
overflows Udiv w a b = false
overflows Urem w a b = false

-- the quotient or remainder by a divisor other than 0; int_div cuts toward zero, int_rem has the dividend's sign
abbrev pub quotient_of : Division → Width → ℕ → ℕ → ℕ
quotient_of Udiv w a b = a / b
quotient_of Urem w a b = a % b
quotient_of Sdiv w a b = residue w (int_div (signed w a) (signed w b))
quotient_of Srem w a b = residue w (int_rem (signed w a) (signed w b))

-- the result of a division, or why there is none
abbrev pub divided : Division → Width → ℕ → ℕ → Result ℕ DivideFault
divided op w a b =
    if b == 0 then Err Zero
    else if overflows op w a b then Err Overflow
    else Ok (quotient_of op w a b)

-- ---- shifts

-- the quotient by a positive number, rounded down; negsuc n is -(n + 1)
abbrev pub floor_of : ℤ → ℕ → ℤ
floor_of (pos n) d = pos (n / d)
floor_of (negsuc n) d = negsuc (n / d)

-- a value whose bits all are the sign bit of a
abbrev pub sign_fill : Width → ℕ → ℕ
sign_fill w a = if nat_lt a (half w) then 0 else minus_one w

-- a shift by fewer places than the width
abbrev pub shifted_within : Shift → Width → ℕ → ℕ → ℕ
shifted_within Shl w a n = a * 2 ^ n % modulus w
shifted_within Lshr w a n = a / 2 ^ n
shifted_within Ashr w a n = residue w (floor_of (signed w a) (2 ^ n))

-- a shift by the width or more (poison in LLVM): 0, and for ashr the sign in every bit
abbrev pub shifted_out : Shift → Width → ℕ → ℕ
shifted_out Shl w a = 0
shifted_out Lshr w a = 0
shifted_out Ashr w a = sign_fill w a

abbrev pub shifted : Shift → Width → ℕ → ℕ → ℕ
shifted op w a n = if nat_lt n (width_bits w) then shifted_within op w a n else shifted_out op w a

-- ---- bits

abbrev pub bits_of : Bits → ℕ → ℕ → ℕ
bits_of And a b = bit_and a b
bits_of Or a b = bit_or a b
bits_of Xor a b = bit_xor a b

-- ---- comparisons

abbrev pub compared : Compare → Width → ℕ → ℕ → Bool
compared Eq w a b = a == b
compared Ne w a b = not (a == b)
compared Ugt w a b = nat_lt b a
compared Uge w a b = nat_le b a
compared Ult w a b = nat_lt a b
compared Ule w a b = nat_le a b
compared Sgt w a b = int_lt (signed w b) (signed w a)
compared Sge w a b = int_le (signed w b) (signed w a)
compared Slt w a b = int_lt (signed w a) (signed w b)
compared Sle w a b = int_le (signed w a) (signed w b)

-- ---- casts

abbrev pub truncated : Width → ℕ → ℕ
truncated to a = a % modulus to

abbrev pub sign_extended : Width → Width → ℕ → ℕ
sign_extended from to a = residue to (signed from a)
