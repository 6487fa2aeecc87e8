-- The result of an instruction that neither reads memory nor asks anything outside of its operands
-- (LLVM Language Reference). The same function gives the values along a slice.
use Rattle.std.specs.Prelude.{ℕ, ◌+◌, ◌==◌, ℤ, pos, ◌*ℤ◌, List, [], ◌∷◌, Bool, true, false, Option, Some, None, Result, Ok, Err, if◌then◌else◌}
use Rattle.pg_ir.specs.pg_num.Numbers.{signed, sum_of, difference_of, product_of, divided, shifted, bits_of, compared, truncated, sign_extended}
use Rattle.pg_ir.specs.pg_num.Pointers.{moved_by}
use Rattle.pg_ir.specs.pg_num.declared.operations.DivideFault.{DivideFault}
use Rattle.pg_ir.specs.declared.value.Index.{Index}
use Rattle.pg_ir.specs.declared.value.Scale.{Scale}
use Rattle.pg_ir.specs.declared.value.Scale.TheVariants.{Times, Field}
use Rattle.pg_ir.specs.declared.instr.Op.{Op}
use Rattle.pg_ir.specs.declared.instr.Op.TheVariants as op

abbrev pub quotient_or_zero : Result ℕ DivideFault → ℕ
quotient_or_zero (Ok n) = n
quotient_or_zero (Err e) = 0

abbrev pub number_of_bool : Bool → ℕ
number_of_bool true = 1
number_of_bool false = 0

-- the first where the condition isn't 0, else the second
abbrev pub chosen : ℕ → ℕ → ℕ → ℕ
chosen c a b = if c == 0 then b else a

-- by how many bytes an index moves a pointer: by the index, read as a signed number, times its scale,
-- or to a field
abbrev pub index_bytes : Index → Scale → ℕ → ℤ
index_bytes i (Times bytes) n = signed i.width n *ℤ pos bytes
index_bytes i (Field bytes) n = pos bytes

-- a pointer moved along the indices, whose numbers are those from k on
abbrev pub moved_along : ℕ → List Index → (ℕ → ℕ) → ℕ → ℕ
moved_along word [] n k = word
moved_along word (i ∷ is) n k = moved_along (moved_by word (index_bytes i i.scale (n k))) is n (k + 1)

-- the result, by the number of each operand; 0 for an instruction of another kind
abbrev pub computed : Op → (ℕ → ℕ) → ℕ
computed (op.Add w a b) n = sum_of w (n 0) (n 1)
computed (op.Sub w a b) n = difference_of w (n 0) (n 1)
computed (op.Mul w a b) n = product_of w (n 0) (n 1)
computed (op.Divide d w a b) n = quotient_or_zero (divided d w (n 0) (n 1))
computed (op.Shift s w a b) n = shifted s w (n 0) (n 1)
computed (op.Bits o w a b) n = bits_of o (n 0) (n 1)
computed (op.Compare c w a b) n = number_of_bool (compared c w (n 0) (n 1))
computed (op.Trunc from to v) n = truncated to (n 0)
computed (op.Zext from to v) n = n 0
computed (op.Sext from to v) n = sign_extended from to (n 0)
computed (op.PtrToInt from to v) n = truncated to (n 0)
computed (op.IntToPtr from to v) n = n 0
computed (op.Select c a b) n = chosen (n 0) (n 1) (n 2)
computed (op.Gep base indices) n = moved_along (n 0) indices n 1
computed _ n = 0

-- ---- the same where an operand may have no value

abbrev pub quotient_of : Result ℕ DivideFault → Option ℕ
quotient_of (Ok n) = Some n
quotient_of (Err e) = None

abbrev pub with_value : Option ℕ → (ℕ → Option ℕ) → Option ℕ
with_value None f = None
with_value (Some n) f = f n

abbrev pub with_values : Option ℕ → Option ℕ → (ℕ → ℕ → Option ℕ) → Option ℕ
with_values u v f = with_value u (λ m. with_value v (λ n. f m n))

-- none where an index has no value
abbrev pub moved_if : ℕ → List Index → (ℕ → Option ℕ) → ℕ → Option ℕ
moved_if word [] v k = Some word
moved_if word (i ∷ is) v k = with_value (v k) (λ n. moved_if (moved_by word (index_bytes i i.scale n)) is v (k + 1))

-- the result, by the value of each operand: none where one that is read has none, where a division has none,
-- or for an instruction of another kind
abbrev pub computed_if : Op → (ℕ → Option ℕ) → Option ℕ
computed_if (op.Add w a b) v = with_values (v 0) (v 1) (λ m n. Some (sum_of w m n))
computed_if (op.Sub w a b) v = with_values (v 0) (v 1) (λ m n. Some (difference_of w m n))
computed_if (op.Mul w a b) v = with_values (v 0) (v 1) (λ m n. Some (product_of w m n))
computed_if (op.Divide d w a b) v = with_values (v 0) (v 1) (λ m n. quotient_of (divided d w m n))
computed_if (op.Shift s w a b) v = with_values (v 0) (v 1) (λ m n. Some (shifted s w m n))
computed_if (op.Bits o w a b) v = with_values (v 0) (v 1) (λ m n. Some (bits_of o m n))
computed_if (op.Compare c w a b) v = with_values (v 0) (v 1) (λ m n. Some (number_of_bool (compared c w m n)))
computed_if (op.Trunc from to w) v = with_value (v 0) (λ n. Some (truncated to n))
computed_if (op.Zext from to w) v = with_value (v 0) (λ n. Some n)
computed_if (op.Sext from to w) v = with_value (v 0) (λ n. Some (sign_extended from to n))
computed_if (op.PtrToInt from to w) v = with_value (v 0) (λ n. Some (truncated to n))
computed_if (op.IntToPtr from to w) v = with_value (v 0) (λ n. Some n)
computed_if (op.Select c a b) v = with_value (v 0) (λ k. with_values (v 1) (v 2) (λ m n. Some (chosen k m n)))
computed_if (op.Gep base indices) v = with_value (v 0) (λ word. moved_if word indices v 1)
computed_if _ v = None

-- instructions that only compute with their operands
abbrev pub computes : Op → Bool
computes (op.Add w a b) = true
computes (op.Sub w a b) = true
computes (op.Mul w a b) = true
computes (op.Divide d w a b) = true
computes (op.Shift s w a b) = true
computes (op.Bits o w a b) = true
computes (op.Compare c w a b) = true
computes (op.Trunc from to v) = true
computes (op.Zext from to v) = true
computes (op.Sext from to v) = true
computes (op.PtrToInt from to v) = true
computes (op.IntToPtr from to v) = true
computes (op.Select c a b) = true
computes (op.Gep base indices) = true
computes _ = false
