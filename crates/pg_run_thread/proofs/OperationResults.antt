-- The number that an operation gives is one of its register's type.
use Rattle.std.proofs.Common.{◌≡◌, ℕ, ◌<◌, ◌≤◌, ◌^◌, ◌%◌, List, Option, Some, None, IsTrue, arith, lit<, sym, ◌∙◌, ap, subst}
use Rattle.std.specs.Prelude.{IsSomeAnd}
use Rattle.std.proofs.Math.Nat.{pow-le-pow_right}
use Rattle.pg_ir.specs.pg_num.Numbers.{modulus, width_bits}
use Rattle.pg_ir.specs.pg_num.declared.limits.TheConstants.{THREAD_LIMIT}
use Rattle.pg_ir.specs.pg_num.declared.width.Width.{Width}
use Rattle.pg_ir.specs.pg_num.declared.width.Width.TheVariants.{W1, W8, W16, W32, W64}
use Rattle.pg_ir.specs.declared.value.Scalar.{Scalar}
use Rattle.pg_ir.specs.declared.value.Scalar.TheVariants.{Int, Ptr}
use Rattle.pg_ir.specs.declared.value.Value.{Value}
use Rattle.pg_ir.specs.declared.instr.Op.{Op}
use Rattle.pg_ir.specs.declared.instr.Op.TheVariants as op
use Rattle.pg_ir.specs.Program.{NumberedProgram}
use Rattle.pg_ir.specs.WellFormed.{IsProgram, FitsOp, BothHaveType, HasWidth, width_of, granules_for}
use Rattle.pg_run_thread.specs.declared.thread_memory.ThreadMemory.{ThreadMemory}
use Rattle.pg_run_thread.specs.Operands.{number_at, operands_of}
use Rattle.pg_run_thread.specs.Step.{has_room, result_of_op}
use Rattle.pg_run_thread.specs.States.{AreValuesOf}
use Rattle.pg_run_thread.proofs.Typed.{some_values, typed_number}
use Rattle.pg_run_thread.proofs.Ranges.{remainder_small, residue_small, divided_small, shifted_small, bits_small, bool_small, chosen_small, along_small, pushed_small, known_small}

-- what an operation needs so that its number is one of its type
abbrev pub HasNumber : ThreadMemory → Op → Type 0
HasNumber r (op.Alloca bytes) = IsTrue (has_room r (granules_for bytes))
HasNumber r (op.Call g args) = ⊥
HasNumber r o = Unit {0}

-- the type of the result is this one
at_type : (result : Option Scalar) (s t : Scalar) (n : ℕ) → result ≡ Some t → result ≡ Some s → n < modulus (width_of t) → n < modulus (width_of s)
at_type result s t n e k h = let same : t ≡ s = cc in subst (λ (q : Scalar). n < modulus (width_of q)) same h

no_type : (result : Option Scalar) (s : Scalar) (n : ℕ) → result ≡ None → result ≡ Some s → n < modulus (width_of s)
no_type result s n e k = absurd cc

wider : (a b : Width) (n : ℕ) → width_bits a < width_bits b → n < modulus a → n < modulus b
wider a b n l h = let k : 2 ^ width_bits a ≤ 2 ^ width_bits b = pow-le-pow_right (lit< tt) (omega arith) in omega (arith, k, h)

as_pointer : (w : Width) (n : ℕ) → n < modulus w → n < 2 ^ 64
as_pointer W1 n h = omega arith
as_pointer W8 n h = omega arith
as_pointer W16 n h = omega arith
as_pointer W32 n h = omega arith
as_pointer W64 n h = h

chosen_type : (p : NumberedProgram) (types : List Scalar) (rs : List (Option ℕ)) (result : Option Scalar) (c a b : Value) (s : Scalar) → IsProgram p → AreValuesOf types rs
    → IsSomeAnd result (λ q. BothHaveType p types q a b) → result ≡ Some s → BothHaveType p types s a b
chosen_type p types rs None c a b s program h t e = absurd t
chosen_type p types rs (Some q) c a b s program h t e = let same : q ≡ s = cc in subst (λ (u : Scalar). BothHaveType p types u a b) same t

loaded_small : (result : Option Scalar) (s : Scalar) (w : Width) (n : ℕ) → HasWidth w result → result ≡ Some s → n % modulus w < modulus (width_of s)
loaded_small None s w n h e = absurd h
loaded_small (Some q) s w n h e = let same : q ≡ s = cc in subst (λ (v : Width). n % modulus w < modulus v) (sym h ∙ ap width_of same) (remainder_small w n)

pub number_small : (p : NumberedProgram) (types : List Scalar) (rs : List (Option ℕ)) (returns result : Option Scalar) (r : ThreadMemory) (o : Op) (answer : ℕ) (s : Scalar) → IsProgram p
    → AreValuesOf types rs → FitsOp p types returns result o → r.thread < THREAD_LIMIT → HasNumber r o → result ≡ Some s
    → result_of_op r o (number_at p rs (operands_of o)) answer < modulus (width_of s)
number_small p types rs returns result r (op.Add w a b) answer s program h t l n e = at_type result s (Int w) _ t.0 e (remainder_small w _)
number_small p types rs returns result r (op.Sub w a b) answer s program h t l n e = at_type result s (Int w) _ t.0 e (residue_small w _)
number_small p types rs returns result r (op.Mul w a b) answer s program h t l n e = at_type result s (Int w) _ t.0 e (remainder_small w _)
number_small p types rs returns result r (op.Divide d w a b) answer s program h t l n e = at_type result s (Int w) _ t.0 e (divided_small d w _ _ (typed_number p types rs (Int w) a program h t.1.0))
number_small p types rs returns result r (op.Shift d w a b) answer s program h t l n e = at_type result s (Int w) _ t.0 e (shifted_small d w _ _ (typed_number p types rs (Int w) a program h t.1.0))
number_small p types rs returns result r (op.Bits d w a b) answer s program h t l n e =
    at_type result s (Int w) _ t.0 e (bits_small d w _ _ (typed_number p types rs (Int w) a program h t.1.0) (typed_number p types rs (Int w) b program h t.1.1))
number_small p types rs returns result r (op.Compare c w a b) answer s program h t l n e = at_type result s (Int W1) _ t.0 e (bool_small _)
number_small p types rs returns result r (op.Trunc from to v) answer s program h t l n e = at_type result s (Int to) _ t.0 e (remainder_small to _)
number_small p types rs returns result r (op.Zext from to v) answer s program h t l n e = at_type result s (Int to) _ t.0 e (wider from to _ t.1 (typed_number p types rs (Int from) v program h t.2))
number_small p types rs returns result r (op.Sext from to v) answer s program h t l n e = at_type result s (Int to) _ t.0 e (residue_small to _)
number_small p types rs returns result r (op.PtrToInt from to v) answer s program h t l n e = at_type result s (Int to) _ t.0 e (remainder_small to _)
number_small p types rs returns result r (op.IntToPtr from to v) answer s program h t l n e = at_type result s Ptr _ t.0 e (as_pointer from _ (typed_number p types rs (Int from) v program h t.2))
number_small p types rs returns result r (op.Select c a b) answer s program h t l n e =
    let both = chosen_type p types rs result c a b s program h t.1 e in
    chosen_small (width_of s) _ _ _ (typed_number p types rs s a program h both.0) (typed_number p types rs s b program h both.1)
number_small p types rs returns result r (op.Phi from) answer s program h t l n e = some_values (width_of s)
number_small p types rs returns result r (op.Br to) answer s program h t l n e = some_values (width_of s)
number_small p types rs returns result r (op.CondBr c a b) answer s program h t l n e = some_values (width_of s)
number_small p types rs returns result r (op.Switch w on other cases) answer s program h t l n e = some_values (width_of s)
number_small p types rs returns result r (op.Call g args) answer s program h t l n e = absurd n
number_small p types rs returns result r (op.Ret v) answer s program h t l n e = some_values (width_of s)
number_small p types rs returns result r op.Unreachable answer s program h t l n e = some_values (width_of s)
number_small p types rs returns result r (op.Alloca bytes) answer s program h t l n e = at_type result s Ptr _ t e (pushed_small r bytes l n)
number_small p types rs returns result r (op.Load w from) answer s program h t l n e = loaded_small result s w answer t.0 e
number_small p types rs returns result r (op.Store w v at) answer s program h t l n e = some_values (width_of s)
number_small p types rs returns result r (op.Gep base indices) answer s program h t l n e = at_type result s Ptr _ t.0 e (along_small _ indices _ 1 (typed_number p types rs Ptr base program h t.1))
number_small p types rs returns result r (op.CallLibrary k args) answer s program h t l n e = known_small r k _ answer s l (sym t.0 ∙ e)
