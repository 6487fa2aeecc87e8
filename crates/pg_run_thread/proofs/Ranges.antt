-- The number that an operation gives is one of its register's type.
use Rattle.std.proofs.Common.{◌≡◌, ℕ, zero, suc, ◌+◌, ◌-◌, ◌*◌, ◌/◌, ◌%◌, ◌<◌, ◌≤◌, ◌^◌, List, [], ◌∷◌, Bool, true, false, Option, Some, None}
use Rattle.std.proofs.Common.{IsTrue, Ok, Err, ℤ, pos, negsuc, arith, lit<, refl, subst}
use Rattle.std.specs.Prelude.{◌==◌, nat_lt, if◌then◌else◌}
use Rattle.std.proofs.Math.Nat.{div-le_self}
use Rattle.std.proofs.lemmas.Bool.Decides.{nat_tests}
use Rattle.std.specs.Int.Bits.{and_lt}
use Rattle.std.proofs.lemmas.Nat.{or_lt, xor_lt}
use Rattle.pg_ir.specs.pg_num.Numbers.{modulus, width_bits, residue, half, divided, quotient_of, overflows, shifted, shifted_within, shifted_out, bits_of}
use Rattle.pg_ir.specs.pg_num.Pointers.{moved_by, offset_of, word_of}
use Rattle.pg_ir.specs.pg_num.declared.layout.TheConstants.{THREAD_GRANULES}
use Rattle.pg_ir.specs.pg_num.declared.limits.TheConstants.{THREAD_LIMIT}
use Rattle.pg_ir.specs.pg_num.declared.operations.Division.{Division}
use Rattle.pg_ir.specs.pg_num.declared.operations.Division.TheVariants.{Udiv, Sdiv, Urem, Srem}
use Rattle.pg_ir.specs.pg_num.declared.operations.DivideFault.TheVariants.{Zero, Overflow}
use Rattle.pg_ir.specs.pg_num.declared.operations.Shift.{Shift}
use Rattle.pg_ir.specs.pg_num.declared.operations.Shift.TheVariants.{Shl, Lshr, Ashr}
use Rattle.pg_ir.specs.pg_num.declared.operations.Bits.{Bits}
use Rattle.pg_ir.specs.pg_num.declared.operations.Bits.TheVariants.{And, Or, Xor}
use Rattle.pg_ir.specs.pg_num.declared.width.Width.{Width}
use Rattle.pg_ir.specs.pg_num.declared.width.Width.TheVariants.{W1}
use Rattle.pg_ir.specs.declared.library_call.LibraryCall.{LibraryCall}
use Rattle.pg_ir.specs.declared.library_call.LibraryCall.TheVariants as known
use Rattle.pg_ir.specs.declared.value.Index.{Index}
use Rattle.pg_ir.specs.declared.value.Scalar.{Scalar}
use Rattle.pg_ir.specs.declared.value.Scalar.TheVariants.{Ptr}
use Rattle.pg_ir.specs.WellFormed.{width_of, granules_for}
use Rattle.pg_ir.specs.Signatures.{returned_by}
use Rattle.pg_run_thread.specs.declared.thread_memory.ThreadMemory.{ThreadMemory}
use Rattle.pg_run_thread.specs.Compute.{quotient_or_zero, number_of_bool, chosen, moved_along, index_bytes}
use Rattle.pg_run_thread.specs.Step.{has_room, pushed, allocated, cut_to, library_number}
use Rattle.pg_run_thread.proofs.Typed.{some_values}

pub remainder_small : (w : Width) (n : ℕ) → n % modulus w < modulus w
remainder_small w n = omega (arith, some_values w)

pub residue_small : (w : Width) (z : ℤ) → residue w z < modulus w
residue_small w (pos n) = remainder_small w n
residue_small w (negsuc n) = omega (arith, some_values w)

remainder_most : (a b : ℕ) → a % b ≤ a
remainder_most a zero = omega arith
remainder_most a (suc b) = omega (arith)

quotient_small : (d : Division) (w : Width) (a b : ℕ) → a < modulus w → quotient_of d w a b < modulus w
quotient_small Udiv w a b h = let k : a / b ≤ a = div-le_self a b in omega (arith, k)
quotient_small Urem w a b h = let k : a % b ≤ a = remainder_most a b in omega (arith, k)
quotient_small Sdiv w a b h = residue_small w _
quotient_small Srem w a b h = residue_small w _

pub divided_small : (d : Division) (w : Width) (a b : ℕ) → a < modulus w → quotient_or_zero (divided d w a b) < modulus w
divided_small d w a b h = go (b == 0) (overflows d w a b)
  where
    go : (s t : Bool) → quotient_or_zero (if s then Err Zero else if t then Err Overflow else Ok (quotient_of d w a b)) < modulus w
    go true t = some_values w
    go false true = some_values w
    go false false = quotient_small d w a b h

within_small : (s : Shift) (w : Width) (a n : ℕ) → a < modulus w → shifted_within s w a n < modulus w
within_small Shl w a n h = remainder_small w _
within_small Lshr w a n h = let k : a / 2 ^ n ≤ a = div-le_self a (2 ^ n) in omega (arith, k)
within_small Ashr w a n h = residue_small w _

fill_small : (w : Width) (t : Bool) → (if t then 0 else modulus w - 1) < modulus w
fill_small w true = some_values w
fill_small w false = omega (arith, some_values w)

out_small : (s : Shift) (w : Width) (a : ℕ) → shifted_out s w a < modulus w
out_small Shl w a = some_values w
out_small Lshr w a = some_values w
out_small Ashr w a = fill_small w (nat_lt a (half w))

pub shifted_small : (s : Shift) (w : Width) (a n : ℕ) → a < modulus w → shifted s w a n < modulus w
shifted_small s w a n h = go (nat_lt n (width_bits w))
  where
    go : (t : Bool) → (if t then shifted_within s w a n else shifted_out s w a) < modulus w
    go true = within_small s w a n h
    go false = out_small s w a

pub bits_small : (o : Bits) (w : Width) (a b : ℕ) → a < modulus w → b < modulus w → bits_of o a b < modulus w
bits_small And w a b h k = and_lt (width_bits w) a b h k
bits_small Or w a b h k = or_lt (width_bits w) a b h k
bits_small Xor w a b h k = xor_lt (width_bits w) a b h k

pub bool_small : (t : Bool) → number_of_bool t < modulus W1
bool_small true = lit< tt
bool_small false = lit< tt

pub chosen_small : (w : Width) (c a b : ℕ) → a < modulus w → b < modulus w → chosen c a b < modulus w
chosen_small w c a b h k = go (c == 0)
  where
    go : (t : Bool) → (if t then b else a) < modulus w
    go true = k
    go false = h

-- ---- pointers

offset_small : (z : ℤ) → offset_of z < 2 ^ 21
offset_small (pos n) = omega arith
offset_small (negsuc n) = omega arith

moved_small : (word : ℕ) (z : ℤ) → word < 2 ^ 64 → word_of (record { start = word / 2 ^ 42; length = word / 2 ^ 21 % 2 ^ 21; offset = offset_of z }) < 2 ^ 64
moved_small word z h = omega (arith, offset_small z)

pub along_small : (word : ℕ) (is : List Index) (n : ℕ → ℕ) (k : ℕ) → word < 2 ^ 64 → moved_along word is n k < 2 ^ 64
along_small word [] n k h = h
along_small word (i ∷ is) n k h = along_small (moved_by word (index_bytes i i.scale (n k))) is n (k + 1) (moved_small word _ h)

pub room_is : (r : ThreadMemory) (g : ℕ) → IsTrue (has_room r g) → r.stack + g + r.heap ≤ THREAD_GRANULES
room_is r g h = grind (arith, nat_tests)

pub pushed_small : (r : ThreadMemory) (bytes : ℕ) → r.thread < THREAD_LIMIT → IsTrue (has_room r (granules_for bytes)) → pushed r bytes < 2 ^ 64
pushed_small r bytes t h = omega (arith, room_is r (granules_for bytes) h)

pub allocated_small : (r : ThreadMemory) (bytes : ℕ) → r.thread < THREAD_LIMIT → allocated r bytes < 2 ^ 64
allocated_small r bytes t = go (has_room r (granules_for bytes)) refl
  where
    go : (b : Bool) → has_room r (granules_for bytes) ≡ b
        → (if b then word_of (record { start = 2 ^ 21 + r.thread * 2 ^ 15 + (THREAD_GRANULES - r.heap - granules_for bytes); length = bytes; offset = 0 }) else 0) < 2 ^ 64
    go false e = lit< tt
    go true e = omega (arith, room_is r (granules_for bytes) e)

-- ---- answers

pub cut_small : (o : Option Scalar) (s : Scalar) (n : ℕ) → o ≡ Some s → cut_to o n < modulus (width_of s)
cut_small None s n e = absurd cc
cut_small (Some t) s n e = let same : t ≡ s = cc in subst (λ (q : Scalar). n % modulus (width_of t) < modulus (width_of q)) same (remainder_small (width_of t) n)

pub known_small : (r : ThreadMemory) (k : LibraryCall) (n answer : ℕ) (s : Scalar) → r.thread < THREAD_LIMIT → returned_by k ≡ Some s → library_number r k n answer < modulus (width_of s)
known_small r known.Malloc n answer s t e = let same : Ptr ≡ s = cc in subst (λ (q : Scalar). allocated r n < modulus (width_of q)) same (allocated_small r n t)
known_small r k n answer s t e = cut_small (returned_by k) s answer e
