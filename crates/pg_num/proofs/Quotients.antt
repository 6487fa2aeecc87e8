-- Signed quotients of numbers that are small fit the machine's widest type.
use Rattle.std.proofs.Common.{◌≡◌, ℕ, zero, suc, ◌+◌, ◌/◌, ◌^◌, ◌≤◌, ℤ, pos, negsuc, ◌≤ℤ◌, ◌<ℤ◌, neg_ℤ, FitsSigned, int_div, refl, arith}
use Rattle.std.proofs.Math.Nat.{div-le_self}
use Rattle.std.specs.Int.{w128}
use Rattle.std.proofs.lemmas.Int.{ints, fits_signed_from_abs}
use Rattle.std.specs.Prelude.{unsigned_abs}

abs_of_negated : (n : ℕ) → unsigned_abs (neg_ℤ (pos n)) ≡ n
abs_of_negated zero = refl
abs_of_negated (suc n) = refl

-- a quotient is no further from 0 than the dividend
quotient_abs : (a d : ℤ) → unsigned_abs (int_div a d) ≤ unsigned_abs a
quotient_abs (pos a) (pos b) = div-le_self a b
quotient_abs (pos a) (negsuc b) = rw (abs_of_negated (a / suc b)) (div-le_self a (suc b))
quotient_abs (negsuc a) (pos b) = rw (abs_of_negated (suc a / b)) (div-le_self (suc a) b)
quotient_abs (negsuc a) (negsuc b) = div-le_self (suc a) (suc b)

abs_small : (a : ℤ) → negsuc (2 ^ 63) ≤ℤ a → a <ℤ pos (2 ^ 63) → unsigned_abs a ≤ 2 ^ 63 + 1
abs_small (pos a) l h = omega (arith, ints)
abs_small (negsuc a) l h = omega (arith, ints)

pub quotient_fits : (a d : ℤ) → negsuc (2 ^ 63) ≤ℤ a → a <ℤ pos (2 ^ 63) → FitsSigned w128 (int_div a d)
quotient_fits a d l h =
    let s : unsigned_abs a ≤ 2 ^ 63 + 1 = abs_small a l h in
    let q : unsigned_abs (int_div a d) ≤ unsigned_abs a = quotient_abs a d in
    fits_signed_from_abs w128 (int_div a d) (omega arith)
