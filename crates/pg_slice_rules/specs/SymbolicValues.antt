-- What is known of a value under some decisions: its number as a function of the input, or the decision that is missing.
use Rattle.std.specs.Prelude.{ℕ, zero, suc, ◌+◌, ◌-◌, ◌*◌, ◌%◌, ◌^◌, ◌==◌, ◌&&◌, nat_le, nat_lt, ℤ, List, [], ◌∷◌, Bool, true, false, Option, Some}
use Rattle.std.specs.Prelude.{None, slice_get, slice_index_or, if◌then◌else◌}
use Rattle.std.specs.List.{list_all}
use Rattle.pg_precondition.specs.pg_num.Numbers.{divided, truncated}
use Rattle.pg_precondition.specs.pg_num.Places.{ByteRange}
use Rattle.pg_region_paths.specs.pg_ir.declared.value.Index.{Index}
use Rattle.pg_region_paths.specs.pg_ir.declared.value.Value.{Value}
use Rattle.pg_region_paths.specs.pg_ir.declared.value.Value.TheVariants as value
use Rattle.pg_region_paths.specs.pg_ir.declared.instr.Op.{Op}
use Rattle.pg_region_paths.specs.pg_ir.declared.instr.Op.TheVariants as op
use Rattle.pg_region_paths.specs.pg_ir.Program.{NumberedProgram}
use Rattle.pg_run.specs.pg_run_memory.Bytes.{byte_of}
use Rattle.pg_precondition.specs.Values.{if_divided, number_of, with_both, with_one}
use Rattle.pg_run.specs.pg_run_thread.Compute.{computed}
use Rattle.pg_run.specs.pg_run_thread.EdgeStep.{is_set}
use Rattle.pg_run.specs.pg_run_thread.Operands as operands
use Rattle.pg_slice_rules.specs.declared.decision.Decision.{Decision}

-- a number on each input; none where it rests on a division without a value
abbrev pub OnInput : Type 0
OnInput = List ℤ → Option ℕ

-- a known value, and a word whose bounds it has; a pointer of which only the bounds are known, those of this word; or nothing. The
-- decision is the one that is blamed for what isn't known
pub data Symbolic : Type 0 where
  Known : OnInput → OnInput → Symbolic
  Bounded : OnInput → Decision → Symbolic
  Unknown : Decision → Symbolic

-- a known value that has its own bounds, as all have but pointers that a getelementptr moved
abbrev pub valued : OnInput → Symbolic
valued f = Known f f

-- of a register that was never set
abbrev pub unset : Symbolic
unset = valued (λ input. None)

abbrev pub always : ℕ → Symbolic
always n = valued (λ input. Some n)

-- a word whose bounds a pointer has, where its bounds are known
abbrev pub bounds_word : Symbolic → Option OnInput
bounds_word (Known f g) = Some g
bounds_word (Bounded f x) = Some f
bounds_word (Unknown x) = None

abbrev pub is_known : Symbolic → Bool
is_known (Known f g) = true
is_known s = false

-- the decision that is blamed where the value isn't known
abbrev pub blames : Symbolic → List Decision
blames (Known f g) = []
blames (Bounded f x) = x ∷ []
blames (Unknown x) = x ∷ []

-- and where the bounds aren't
abbrev pub bounds_blames : Symbolic → List Decision
bounds_blames (Unknown x) = x ∷ []
bounds_blames s = []

-- ---- the results of operations

-- what is made of values that are all known; else the first that isn't has the blame
abbrev pub from_all : List Symbolic → ((List ℤ → List (Option ℕ)) → Symbolic) → Symbolic
from_all [] f = f (λ input. [])
from_all (Known g h ∷ ss) f = from_all ss (λ gs. f (λ input. g input ∷ gs input))
from_all (Bounded g x ∷ ss) f = Unknown x
from_all (Unknown x ∷ ss) f = Unknown x

abbrev pub index_narrowed : Option Index → ℕ → ℕ
index_narrowed None n = n
index_narrowed (Some i) n = truncated i.width n

-- the number of an operand as the operation reads it: modulo two to the operand's width. A register of a width holds numbers
-- of it alone, so in a run this changes none
abbrev pub narrowed : Op → ℕ → ℕ → ℕ
narrowed (op.Add w a b) k n = truncated w n
narrowed (op.Sub w a b) k n = truncated w n
narrowed (op.Mul w a b) k n = truncated w n
narrowed (op.Divide d w a b) k n = truncated w n
narrowed (op.Shift s w a b) k n = truncated w n
narrowed (op.Bits o w a b) k n = truncated w n
narrowed (op.Compare c w a b) k n = truncated w n
narrowed (op.Trunc from to v) k n = truncated from n
narrowed (op.Zext from to v) k n = truncated from n
narrowed (op.Sext from to v) k n = truncated from n
narrowed (op.PtrToInt from to v) k n = truncated from n
narrowed (op.IntToPtr from to v) k n = truncated from n
narrowed (op.Gep base indices) (suc k) n = index_narrowed (slice_get indices k) n
narrowed o k n = n

-- the result by the numbers of the operands: none where one that counts has none, and where a division has none
abbrev pub applied : Op → List (Option ℕ) → Option ℕ
applied (op.Select c a b) ns = with_one (number_of ns 0) (λ n. if n % 2 == 0 then number_of ns 2 else number_of ns 1)
applied (op.Divide d w a b) ns = with_both (number_of ns 0) (number_of ns 1) (λ m n. if_divided (divided d w (truncated w m) (truncated w n)))
applied o ns = if list_all is_set ns then Some (computed o (λ k. narrowed o k (operands.given (number_of ns k)))) else None

abbrev pub result_of : Op → List Symbolic → Symbolic
result_of o ss = from_all ss (λ gs. valued (λ input. applied o (gs input)))

-- a pointer that is moved has the bounds of its base, whether it is known where it points or not
abbrev pub with_bounds : Option OnInput → Symbolic → Symbolic
with_bounds (Some h) (Known f g) = Known f h
with_bounds (Some h) (Unknown x) = Bounded h x
with_bounds _ s = s

abbrev pub moved : Symbolic → Symbolic → Symbolic
moved base s = with_bounds (bounds_word base) s

-- a number that is cut
abbrev pub cut : (ℕ → ℕ) → Symbolic → Symbolic
cut f (Known g h) = valued (λ input. with_one (g input) (λ n. Some (f n)))
cut f (Bounded g x) = Unknown x
cut f (Unknown x) = Unknown x

-- ---- bytes

-- byte k of a value
abbrev pub byte_in : ℕ → Symbolic → Symbolic
byte_in k s = cut (λ n. byte_of n k) s

abbrev pub joined : Symbolic → Symbolic → Symbolic
joined low high = from_all (low ∷ high ∷ []) (λ gs. valued (λ input. with_both (number_of (gs input) 0) (number_of (gs input) 1) (λ b n. Some (n * 2 ^ 8 + b))))

-- the value of n bytes from a place on; the lowest that isn't known has the blame
abbrev pub loaded : (ℕ → Symbolic) → ℕ → ℕ → Symbolic
loaded bytes at zero = always 0
loaded bytes at (suc n) = joined (bytes at) (loaded bytes (at + 1) n)

abbrev pub is_within : ByteRange → ℕ → Bool
is_within r b = nat_le r.start b && nat_lt b (r.start + r.bytes)

-- bytes after a store to a range
abbrev pub stored : ByteRange → Symbolic → (ℕ → Symbolic) → ℕ → Symbolic
stored r s bytes b = if is_within r b then byte_in (b - r.start) s else bytes b

-- bytes after something may have been written anywhere in a range
abbrev pub spoiled : ByteRange → Decision → (ℕ → Symbolic) → ℕ → Symbolic
spoiled r x bytes b = if is_within r b then Unknown x else bytes b

-- ---- operands

-- what is known of an operand, by the registers of its frame
abbrev pub symbolic_of : NumberedProgram → List Symbolic → Value → Symbolic
symbolic_of p rs (value.Register r) = slice_index_or rs r unset
symbolic_of p rs v = valued (λ input. operands.operand p [] v)
