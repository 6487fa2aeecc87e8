-- The number that a computing instruction gives is the operation's on the numbers of its operands, whose width they have.
use Rattle.std.proofs.Common.{◌≡◌, ℕ, zero, suc, ◌%◌, ◌<◌, Bool, true, false, List, [], ◌∷◌, map, Option, Some, None, Result, Ok, Err, refl, sym, ap, ◌∙◌, subst}
use Rattle.std.proofs.Common.{arith, inl, inr}
use Rattle.std.specs.Prelude.{◌==◌, ◌&&◌, slice_get, if◌then◌else◌}
use Rattle.std.specs.List.{AllByRecursion, list_all}
use Rattle.std.proofs.lemmas.Bool.{true≢false}
use mathlib.Core.Path.{fun_ext}
use Rattle.pg_num.specs.Numbers.{divided, modulus, truncated}
use Rattle.pg_num.specs.declared.operations.DivideFault.{DivideFault}
use Rattle.pg_num.specs.declared.operations.DivideFault.TheVariants as divide
use Rattle.pg_num.specs.declared.width.Width.{Width}
use Rattle.pg_num.specs.declared.width.Width.TheVariants.{W1, W8, W16, W32, W64}
use Rattle.pg_ir.specs.declared.instr.Op.{Op}
use Rattle.pg_ir.specs.declared.instr.Op.TheVariants as op
use Rattle.pg_ir.specs.declared.request.TrapName.TheVariants as traps
use Rattle.pg_ir.specs.declared.value.Index.{Index}
use Rattle.pg_ir.specs.declared.value.Scalar.{Scalar}
use Rattle.pg_ir.specs.declared.value.Scalar.TheVariants.{Int, Ptr}
use Rattle.pg_ir.specs.declared.value.Value.{Value}
use Rattle.pg_ir.specs.Program.{NumberedProgram}
use Rattle.pg_ir.specs.WellFormed.{BothHaveType, FitsCompare, FitsIndex, FitsOp, HasType, IsProgram, width_of}
use Rattle.pg_precondition.specs.Values.{if_divided, number_of, with_both, with_one}
use Rattle.pg_run_thread.specs.declared.action.Action.{Action}
use Rattle.pg_run_thread.specs.declared.action.Action.TheVariants as actions
use Rattle.pg_run_thread.specs.declared.thread_memory.ThreadMemory.{ThreadMemory}
use Rattle.pg_run_thread.specs.Compute.{chosen, computed, computes, quotient_or_zero}
use Rattle.pg_run_thread.specs.EdgeStep.{is_set}
use Rattle.pg_run_thread.specs.Operands.{given, number_at, operand, operands_of}
use Rattle.pg_run_thread.specs.States.{AreValuesOf, CanStep}
use Rattle.pg_run_thread.specs.Step.{are_set, divided_action, on_value, op_action}
use Rattle.pg_run_thread.proofs.Typed.{some_values, typed_number}
use Rattle.pg_slice_rules.specs.SymbolicValues.{applied, index_narrowed, narrowed}

pub truncated_small : (w : Width) (n : ℕ) → n < modulus w → truncated w n ≡ n
truncated_small W1 n h = omega arith
truncated_small W8 n h = omega arith
truncated_small W16 n h = omega arith
truncated_small W32 n h = omega arith
truncated_small W64 n h = omega arith

given_at : (p : NumberedProgram) (rs : List (Option ℕ)) (vs : List Value) (k : ℕ) → given (number_of (map (operand p rs) vs) k) ≡ number_at p rs vs k
given_at p rs [] k = refl
given_at p rs (v ∷ vs) zero = refl
given_at p rs (v ∷ vs) (suc k) = given_at p rs vs k

all_set : (p : NumberedProgram) (rs : List (Option ℕ)) (vs : List Value) → list_all is_set (map (operand p rs) vs) ≡ are_set p rs vs
all_set p rs [] = refl
all_set p rs (v ∷ vs) = ap (λ (b : Bool). is_set (operand p rs v) && b) (all_set p rs vs)

-- ---- actions that can be done

pub if_done : (b : Bool) → CanStep (if b then actions.Local else actions.Trap traps.Unset) → b ≡ true
if_done true h = refl
if_done false h = absurd h

pub value_done : (o : Option ℕ) (act : ℕ → Action) → CanStep (on_value o act) → (n : ℕ) × (o ≡ Some n) × CanStep (act n)
value_done None act h = absurd h
value_done (Some n) act h = (n, refl, h)

pub on_some : (o : Option ℕ) (n : ℕ) (act : ℕ → Action) → o ≡ Some n → on_value o act ≡ act n
on_some o n act e = rw e refl

pub divided_done : (r : Result ℕ DivideFault) → CanStep (divided_action r) → (n : ℕ) × (r ≡ Ok n)
divided_done (Ok n) h = (n, refl)
divided_done (Err divide.Zero) h = absurd h
divided_done (Err divide.Overflow) h = absurd h

pub divide_local : (d : ℕ → ℕ → Result ℕ DivideFault) (u v : Option ℕ) (m n q : ℕ) → u ≡ Some m → v ≡ Some n → d m n ≡ Ok q
    → on_value u (λ m. on_value v (λ n. divided_action (d m n))) ≡ actions.Local
divide_local d u v m n q e f h = rw (e, f) (ap divided_action h)

-- ---- operands have the widths that the operation takes

module _ (p : NumberedProgram) (program : IsProgram p) (types : List Scalar) (rs : List (Option ℕ)) (typed : AreValuesOf types rs) where
  one_small : (s : Scalar) (v : Value) → HasType p types s v → (k : ℕ) → number_at p rs (v ∷ []) k < modulus (width_of s)
  one_small s v h zero = typed_number p types rs s v program typed h
  one_small s v h (suc k) = some_values (width_of s)

  two_small : (s : Scalar) (a b : Value) → BothHaveType p types s a b → (k : ℕ) → number_at p rs (a ∷ b ∷ []) k < modulus (width_of s)
  two_small s a b h zero = typed_number p types rs s a program typed h.0
  two_small s a b h (suc zero) = typed_number p types rs s b program typed h.1
  two_small s a b h (suc (suc k)) = some_values (width_of s)

  compared_small : (w : Width) (a b : Value) → FitsCompare p types w a b → (k : ℕ) → number_at p rs (a ∷ b ∷ []) k < modulus w
  compared_small w a b (inl h) k = two_small (Int w) a b h k
  compared_small w a b (inr h) k = subst (λ (v : Width). number_at p rs (a ∷ b ∷ []) k < modulus v) (sym h.0) (two_small Ptr a b h.1 k)

  index_small : (is : List Index) → AllByRecursion (FitsIndex p types) is → (k : ℕ)
      → index_narrowed (slice_get is k) (number_at p rs (map (λ (i : Index). i.value) is) k) ≡ number_at p rs (map (λ (i : Index). i.value) is) k
  index_small [] h k = refl
  index_small (i ∷ is) h zero = truncated_small i.width (given (operand p rs i.value)) (typed_number p types rs (Int i.width) i.value program typed h.0)
  index_small (i ∷ is) h (suc k) = index_small is h.1 k

  module _ (returns result : Option Scalar) where
    narrows_none : (o : Op) → FitsOp p types returns result o → computes o ≡ true → (k : ℕ) → narrowed o k (number_at p rs (operands_of o) k) ≡ number_at p rs (operands_of o) k
    narrows_none (op.Add w a b) h c k = truncated_small w _ (two_small (Int w) a b h.1 k)
    narrows_none (op.Sub w a b) h c k = truncated_small w _ (two_small (Int w) a b h.1 k)
    narrows_none (op.Mul w a b) h c k = truncated_small w _ (two_small (Int w) a b h.1 k)
    narrows_none (op.Divide d w a b) h c k = truncated_small w _ (two_small (Int w) a b h.1 k)
    narrows_none (op.Shift s w a b) h c k = truncated_small w _ (two_small (Int w) a b h.1 k)
    narrows_none (op.Bits q w a b) h c k = truncated_small w _ (two_small (Int w) a b h.1 k)
    narrows_none (op.Compare q w a b) h c k = truncated_small w _ (compared_small w a b h.1 k)
    narrows_none (op.Trunc from to v) h c k = truncated_small from _ (one_small (Int from) v h.2 k)
    narrows_none (op.Zext from to v) h c k = truncated_small from _ (one_small (Int from) v h.2 k)
    narrows_none (op.Sext from to v) h c k = truncated_small from _ (one_small (Int from) v h.2 k)
    narrows_none (op.PtrToInt from to v) h c k = truncated_small from _ (subst (λ (w : Width). number_at p rs (v ∷ []) k < modulus w) (sym h.1) (one_small Ptr v h.2 k))
    narrows_none (op.IntToPtr from to v) h c k = truncated_small from _ (one_small (Int from) v h.2 k)
    narrows_none (op.Select q a b) h c k = refl
    narrows_none (op.Gep base indices) h c zero = refl
    narrows_none (op.Gep base indices) h c (suc k) = index_small indices h.2 k
    narrows_none o h c k = absurd cc

    -- ---- the result

    abbrev Computes : Op → Type 0
    Computes o = applied o (map (operand p rs) (operands_of o)) ≡ Some (computed o (number_at p rs (operands_of o)))

    abbrev by_all : Op → Option ℕ
    by_all o = if list_all is_set (map (operand p rs) (operands_of o)) then Some (computed o (λ k. narrowed o k (given (number_of (map (operand p rs) (operands_of o)) k)))) else None

    plain : (o : Op) → FitsOp p types returns result o → computes o ≡ true → are_set p rs (operands_of o) ≡ true → by_all o ≡ Some (computed o (number_at p rs (operands_of o)))
    plain o h c e =
        let same : (λ (k : ℕ). narrowed o k (given (number_of (map (operand p rs) (operands_of o)) k))) ≡ number_at p rs (operands_of o) =
        fun_ext (λ k. ap (narrowed o k) (given_at p rs (operands_of o) k) ∙ narrows_none o h c k) in
        ap (λ (b : Bool). if b then Some (computed o (λ k. narrowed o k (given (number_of (map (operand p rs) (operands_of o)) k)))) else None) (all_set p rs (operands_of o) ∙ e)
        ∙ ap (λ (f : ℕ → ℕ). Some (computed o f)) same

    selected : (c a b : Option ℕ) → given c < 2 → (is_set c && (is_set a && (is_set b && true))) ≡ true
        → with_one c (λ n. if n % 2 == 0 then b else a) ≡ Some (chosen (given c) (given a) (given b))
    selected (Some c) (Some a) (Some b) l h = let e : c % 2 ≡ c = omega (arith, l) in rw e (pick (c == 0))
      where
        pick : (t : Bool) → (if t then Some b else Some a) ≡ Some (if t then b else a)
        pick true = refl
        pick false = refl
    selected None a b l h = absurd (true≢false (sym h))
    selected (Some c) None b l h = absurd (true≢false (sym h))
    selected (Some c) (Some a) None l h = absurd (true≢false (sym h))

    quotient : (d : Result ℕ DivideFault) (n : ℕ) → d ≡ Ok n → if_divided d ≡ Some (quotient_or_zero d)
    quotient d n e = rw e refl

    divides : (d : ℕ → ℕ → Result ℕ DivideFault) (w : Width) (u v : Option ℕ) (m n q : ℕ) → u ≡ Some m → v ≡ Some n → m < modulus w → n < modulus w → d m n ≡ Ok q
        → with_both u v (λ m n. if_divided (d (truncated w m) (truncated w n))) ≡ Some (quotient_or_zero (d (given u) (given v)))
    divides d w u v m n q e f i j h = rw (e, f) (ap (λ (k : ℕ). if_divided (d k (truncated w n))) (truncated_small w m i) ∙ ap (λ (k : ℕ). if_divided (d m k)) (truncated_small w n j)
        ∙ quotient (d m n) q h)

    pub computes_number : (r : ThreadMemory) (halfway : Bool) (depth used block : ℕ) (o : Op) → FitsOp p types returns result o → computes o ≡ true
        → CanStep (op_action p r halfway rs depth used block o) → (op_action p r halfway rs depth used block o ≡ actions.Local) × Computes o
    computes_number r halfway depth used block (op.Add w a b) h c k = let e = if_done (are_set p rs (a ∷ b ∷ [])) k in (rw e refl, plain (op.Add w a b) h c e)
    computes_number r halfway depth used block (op.Sub w a b) h c k = let e = if_done (are_set p rs (a ∷ b ∷ [])) k in (rw e refl, plain (op.Sub w a b) h c e)
    computes_number r halfway depth used block (op.Mul w a b) h c k = let e = if_done (are_set p rs (a ∷ b ∷ [])) k in (rw e refl, plain (op.Mul w a b) h c e)
    computes_number r halfway depth used block (op.Divide d w a b) h c k =
        let m = value_done (operand p rs a) _ k in
        let n = value_done (operand p rs b) _ m.2 in
        let q = divided_done (divided d w m.0 n.0) n.2 in
        let i = typed_number p types rs (Int w) a program typed h.1.0 in
        let j = typed_number p types rs (Int w) b program typed h.1.1 in (
          divide_local (divided d w) (operand p rs a) (operand p rs b) m.0 n.0 q.0 m.1 n.1 q.1,
          divides (divided d w) w (operand p rs a) (operand p rs b) m.0 n.0 q.0 m.1 n.1 (rw m.1 at i) (rw n.1 at j) q.1,
        )
    computes_number r halfway depth used block (op.Shift s w a b) h c k = let e = if_done (are_set p rs (a ∷ b ∷ [])) k in (rw e refl, plain (op.Shift s w a b) h c e)
    computes_number r halfway depth used block (op.Bits q w a b) h c k = let e = if_done (are_set p rs (a ∷ b ∷ [])) k in (rw e refl, plain (op.Bits q w a b) h c e)
    computes_number r halfway depth used block (op.Compare q w a b) h c k = let e = if_done (are_set p rs (a ∷ b ∷ [])) k in (rw e refl, plain (op.Compare q w a b) h c e)
    computes_number r halfway depth used block (op.Trunc from to v) h c k = let e = if_done (are_set p rs (v ∷ [])) k in (rw e refl, plain (op.Trunc from to v) h c e)
    computes_number r halfway depth used block (op.Zext from to v) h c k = let e = if_done (are_set p rs (v ∷ [])) k in (rw e refl, plain (op.Zext from to v) h c e)
    computes_number r halfway depth used block (op.Sext from to v) h c k = let e = if_done (are_set p rs (v ∷ [])) k in (rw e refl, plain (op.Sext from to v) h c e)
    computes_number r halfway depth used block (op.PtrToInt from to v) h c k = let e = if_done (are_set p rs (v ∷ [])) k in (rw e refl, plain (op.PtrToInt from to v) h c e)
    computes_number r halfway depth used block (op.IntToPtr from to v) h c k = let e = if_done (are_set p rs (v ∷ [])) k in (rw e refl, plain (op.IntToPtr from to v) h c e)
    computes_number r halfway depth used block (op.Select q a b) h c k =
        let e = if_done (are_set p rs (q ∷ a ∷ b ∷ [])) k in
        (rw e refl, selected (operand p rs q) (operand p rs a) (operand p rs b) (typed_number p types rs (Int W1) q program typed h.0) e)
    computes_number r halfway depth used block (op.Gep base indices) h c k = let e = if_done (are_set p rs (operands_of (op.Gep base indices))) k in (rw e refl, plain (op.Gep base indices) h c e)
    computes_number r halfway depth used block o h c k = absurd cc
