-- Registers and operands hold values of their types.
use Rattle.std.proofs.Common.{◌≡◌, ℕ, ◌<◌, ◌^◌, List, [], ◌∷◌, length, zero, suc, Option, Some, None, arith, lit<, refl, sym, ap, subst, inl, inr}
use Rattle.std.specs.Prelude.{slice_get, slice_set}
use Rattle.std.specs.List.{AllByRecursion}
use Rattle.std.proofs.lemmas.Option.{slice_get_within}
use Rattle.pg_ir.specs.pg_num.Numbers.{modulus}
use Rattle.pg_ir.specs.pg_num.declared.width.Width.{Width}
use Rattle.pg_ir.specs.pg_num.declared.width.Width.TheVariants.{W1, W8, W16, W32, W64}
use Rattle.pg_ir.specs.declared.function.Function.{Function}
use Rattle.pg_ir.specs.declared.function.GlobalInfo.{GlobalInfo}
use Rattle.pg_ir.specs.declared.library_call.LibraryCall.{LibraryCall}
use Rattle.pg_ir.specs.declared.library_call.LibraryCall.TheVariants as known
use Rattle.pg_ir.specs.declared.value.Index.{Index}
use Rattle.pg_ir.specs.declared.value.Scalar.{Scalar}
use Rattle.pg_ir.specs.declared.value.Scalar.TheVariants.{Int, Ptr}
use Rattle.pg_ir.specs.declared.value.Value.{Value}
use Rattle.pg_ir.specs.declared.value.Value.TheVariants as value
use Rattle.pg_ir.specs.declared.instr.Op.{Op}
use Rattle.pg_ir.specs.declared.instr.Op.TheVariants as op
use Rattle.pg_ir.specs.Program.{NumberedProgram}
use Rattle.pg_ir.specs.WellFormed.{HasType, HaveTypes, FitsOp, FitsCompare, FitsIndex, FitCreate, FitLibraryCall, StartsThread, BeginsThread, IsProgram, BothHaveType, width_of}
use Rattle.pg_ir.proofs.Globals.{global_fits}
use Rattle.pg_run_thread.specs.Operands.{operand, given, number_at, flat, pointer_to}
use Rattle.pg_run_thread.specs.States.{IsValueOf, AreValuesOf}
use Rattle.pg_run_thread.specs.Needs.{OperandsFit, KnownWidths, HasWidth}

-- ---- registers

pub length_values : (ss : List Scalar) (vs : List (Option ℕ)) → AreValuesOf ss vs → length vs ≡ length ss
length_values [] [] h = refl
length_values [] (v ∷ vs) h = absurd h
length_values (s ∷ ss) [] h = absurd h
length_values (s ∷ ss) (v ∷ vs) h = ap suc (length_values ss vs h.1)

pub value_at : (ss : List Scalar) (vs : List (Option ℕ)) (r : ℕ) (s : Scalar) → AreValuesOf ss vs → slice_get ss r ≡ Some s → IsValueOf s (flat (slice_get vs r))
value_at [] vs r s h e = absurd cc
value_at (t ∷ ss) [] r s h e = absurd h
value_at (t ∷ ss) (v ∷ vs) zero s h e = let same : t ≡ s = cc in subst (λ (q : Scalar). IsValueOf q v) same h.0
value_at (t ∷ ss) (v ∷ vs) (suc r) s h e = value_at ss vs r s h.1 e

pub set_value : (ss : List Scalar) (vs : List (Option ℕ)) (r : ℕ) (s : Scalar) (n : Option ℕ) → AreValuesOf ss vs → slice_get ss r ≡ Some s → IsValueOf s n
    → AreValuesOf ss (slice_set vs r n)
set_value [] vs r s n h e k = absurd cc
set_value (t ∷ ss) [] r s n h e k = absurd h
set_value (t ∷ ss) (v ∷ vs) zero s n h e k = let same : s ≡ t = cc in (subst (λ (q : Scalar). IsValueOf q n) same k, h.1)
set_value (t ∷ ss) (v ∷ vs) (suc r) s n h e k = (h.0, set_value ss vs r s n h.1 e k)

-- ---- operands

pointer_small : (p : NumberedProgram) (g : ℕ) (o : Option GlobalInfo) → IsProgram p → slice_get p.globals g ≡ o → IsValueOf Ptr (pointer_to o)
pointer_small p g None program e = tt
pointer_small p g (Some x) program e = let fits = global_fits 1 p.globals g x program.globals e in omega (arith, fits.below, fits.size)

pub typed_operand : (p : NumberedProgram) (types : List Scalar) (rs : List (Option ℕ)) (s : Scalar) (v : Value) → IsProgram p → AreValuesOf types rs → HasType p types s v
    → IsValueOf s (operand p rs v)
typed_operand p types rs s (value.Register r) program h t = value_at types rs r s h t
typed_operand p types rs s (value.Const n) program h t = t
typed_operand p types rs s (value.Global g) program h t = subst (λ (q : Scalar). IsValueOf q (pointer_to (slice_get p.globals g))) (sym t.0) (pointer_small p g (slice_get p.globals g) program refl)
typed_operand p types rs s (value.Function f) program h t = absurd t

pub some_values : (w : Width) → 0 < modulus w
some_values W1 = lit< tt
some_values W8 = lit< tt
some_values W16 = lit< tt
some_values W32 = lit< tt
some_values W64 = lit< tt

pub given_small : (s : Scalar) (o : Option ℕ) → IsValueOf s o → given o < modulus (width_of s)
given_small s None h = some_values (width_of s)
given_small s (Some n) h = h

pub typed_number : (p : NumberedProgram) (types : List Scalar) (rs : List (Option ℕ)) (s : Scalar) (v : Value) → IsProgram p → AreValuesOf types rs → HasType p types s v
    → given (operand p rs v) < modulus (width_of s)
typed_number p types rs s v program h t = given_small s (operand p rs v) (typed_operand p types rs s v program h t)

-- ---- the operands of an operation fit

typed_pair : (p : NumberedProgram) (types : List Scalar) (rs : List (Option ℕ)) (s : Scalar) (a b : Value) → IsProgram p → AreValuesOf types rs → BothHaveType p types s a b
    → HasWidth p rs (width_of s) a × HasWidth p rs (width_of s) b
typed_pair p types rs s a b program h t = (typed_number p types rs s a program h t.0, typed_number p types rs s b program h t.1)

typed_compared : (p : NumberedProgram) (types : List Scalar) (rs : List (Option ℕ)) (w : Width) (a b : Value) → IsProgram p → AreValuesOf types rs → FitsCompare p types w a b
    → HasWidth p rs w a × HasWidth p rs w b
typed_compared p types rs w a b program h (inl t) = typed_pair p types rs (Int w) a b program h t
typed_compared p types rs w a b program h (inr t) = subst (λ (v : Width). HasWidth p rs v a × HasWidth p rs v b) (sym t.0) (typed_pair p types rs Ptr a b program h t.1)

typed_indices : (p : NumberedProgram) (types : List Scalar) (rs : List (Option ℕ)) (is : List Index) → IsProgram p → AreValuesOf types rs → AllByRecursion (FitsIndex p types) is
    → AllByRecursion (λ (i : Index). HasWidth p rs i.width i.value) is
typed_indices p types rs [] program h t = tt
typed_indices p types rs (i ∷ is) program h t = (typed_number p types rs (Int i.width) i.value program h t.0, typed_indices p types rs is program h t.1)

starting_number : (p : NumberedProgram) (rs : List (Option ℕ)) (f : ℕ) (o : Option Function) → IsProgram p → slice_get p.functions f ≡ o → BeginsThread o → f < 2 ^ 32
starting_number p rs f None program e h = absurd h
starting_number p rs f (Some x) program e h = let k : f < length p.functions = slice_get_within p.functions f x e in omega (arith, k, program.few_functions)

function_small : (p : NumberedProgram) (rs : List (Option ℕ)) (v : Value) → IsProgram p → StartsThread p v → given (operand p rs v) < 2 ^ 32
function_small p rs (value.Function f) program h = starting_number p rs f (slice_get p.functions f) program refl h
function_small p rs (value.Register r) program h = absurd h
function_small p rs (value.Const c) program h = absurd h
function_small p rs (value.Global g) program h = absurd h

create_fits : (p : NumberedProgram) (types : List Scalar) (rs : List (Option ℕ)) (args : List Value) → IsProgram p → FitCreate p types args → number_at p rs args 2 < 2 ^ 32
create_fits p types rs (a ∷ b ∷ f ∷ c ∷ []) program h = function_small p rs f program h.2
create_fits p types rs [] program h = absurd h
create_fits p types rs (a ∷ []) program h = absurd h
create_fits p types rs (a ∷ b ∷ []) program h = absurd h
create_fits p types rs (a ∷ b ∷ f ∷ []) program h = absurd h
create_fits p types rs (a ∷ b ∷ f ∷ c ∷ d ∷ more) program h = absurd h

count_fits : (p : NumberedProgram) (types : List Scalar) (rs : List (Option ℕ)) (args : List Value) → IsProgram p → AreValuesOf types rs
    → HaveTypes p types (Ptr ∷ Ptr ∷ Int W32 ∷ []) args → number_at p rs args 2 < 2 ^ 32
count_fits p types rs (a ∷ b ∷ c ∷ []) program h t = typed_number p types rs (Int W32) c program h t.1.1.0
count_fits p types rs [] program h t = absurd t
count_fits p types rs (a ∷ []) program h t = absurd t.1
count_fits p types rs (a ∷ b ∷ []) program h t = absurd t.1.1
count_fits p types rs (a ∷ b ∷ c ∷ d ∷ more) program h t = absurd t.1.1.1

library_fits : (p : NumberedProgram) (types : List Scalar) (rs : List (Option ℕ)) (k : LibraryCall) (args : List Value) → IsProgram p → AreValuesOf types rs → FitLibraryCall p types k args
    → KnownWidths p rs k args
library_fits p types rs known.PthreadCreate args program h t = create_fits p types rs args program t
library_fits p types rs known.PthreadBarrierInit args program h t = count_fits p types rs args program h t
library_fits p types rs k args program h t = tt

pub operands_fit : (p : NumberedProgram) (types : List Scalar) (rs : List (Option ℕ)) (returns result : Option Scalar) (o : Op) → IsProgram p → AreValuesOf types rs
    → FitsOp p types returns result o → OperandsFit p rs o
operands_fit p types rs returns result (op.Divide d w a b) program h t = typed_pair p types rs (Int w) a b program h t.1
operands_fit p types rs returns result (op.Shift s w a b) program h t = typed_number p types rs (Int w) a program h t.1.0
operands_fit p types rs returns result (op.Compare c w a b) program h t = typed_compared p types rs w a b program h t.1
operands_fit p types rs returns result (op.Sext from to v) program h t = typed_number p types rs (Int from) v program h t.2
operands_fit p types rs returns result (op.Gep base indices) program h t = typed_indices p types rs indices program h t.2
operands_fit p types rs returns result (op.Call g args) program h t = t.1
operands_fit p types rs returns result (op.CallLibrary k args) program h t = library_fits p types rs k args program h t.1
operands_fit p types rs returns result o program h t = tt
