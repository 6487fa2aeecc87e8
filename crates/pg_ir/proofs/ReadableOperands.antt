-- An operation whose operands have types has operands that can be read.
use Rattle.std.proofs.Common.{◌≡◌, ℕ, ◌<◌, ◌≤◌, ◌^◌, List, [], ◌∷◌, length, Option, Some, None, arith, lit≤, refl, inl, inr}
use Rattle.std.specs.Prelude.{slice_get, IsSomeAnd}
use Rattle.std.specs.List.{AllByRecursion}
use Rattle.std.proofs.lemmas.Option.{slice_get_within}
use Rattle.pg_num.specs.Numbers.{modulus}
use Rattle.pg_num.specs.declared.width.Width.{Width}
use Rattle.pg_num.specs.declared.width.Width.TheVariants.{W1, W8, W16, W32, W64}
use Rattle.pg_ir.specs.declared.value.Scalar.{Scalar}
use Rattle.pg_ir.specs.declared.value.Scalar.TheVariants.{Int, Ptr}
use Rattle.pg_ir.specs.declared.value.Value.{Value}
use Rattle.pg_ir.specs.declared.value.Value.TheVariants as value
use Rattle.pg_ir.specs.declared.value.Index.{Index}
use Rattle.pg_ir.specs.declared.edge.Incoming.{Incoming}
use Rattle.pg_ir.specs.declared.function.Function.{Function}
use Rattle.pg_ir.specs.declared.library_call.LibraryCall.{LibraryCall}
use Rattle.pg_ir.specs.declared.library_call.LibraryCall.TheVariants.{PthreadCreate}
use Rattle.pg_ir.specs.declared.instr.Op.{Op}
use Rattle.pg_ir.specs.declared.instr.Op.TheVariants as op
use Rattle.pg_ir.specs.declared.instr.Instr.{Instr}
use Rattle.pg_ir.specs.Program.{NumberedProgram, types_of, function_of, result_of}
use Rattle.pg_ir.specs.Operands.{CanRead, CanReadAll, CanReadReturned}
use Rattle.pg_ir.specs.Signatures.{parameters_of}
use Rattle.pg_ir.specs.WellFormed.{HasType, HaveTypes, FitsOp, FitLibraryCall, FitCreate, FitsReturn, StartsThread, BeginsThread, FitsInstr, BothHaveType, FitsCompare, FitsStored, FitsIncoming}
use Rattle.pg_ir.specs.WellFormed.{FitsIndex, parameter_types, type_at, width_of}

modulus_small : (w : Width) → modulus w ≤ 2 ^ 64
modulus_small W1 = lit≤ tt
modulus_small W8 = lit≤ tt
modulus_small W16 = lit≤ tt
modulus_small W32 = lit≤ tt
modulus_small W64 = lit≤ tt

pub typed_reads : (p : NumberedProgram) (types : List Scalar) (s : Scalar) (v : Value) → HasType p types s v → CanRead p (length types) v
typed_reads p types s (value.Register r) h = slice_get_within types r s h
typed_reads p types s (value.Const n) h = omega (arith, h, modulus_small (width_of s))
typed_reads p types s (value.Global g) h = h.1
typed_reads p types s (value.Function f) h = absurd h

typed_all_read : (p : NumberedProgram) (types params : List Scalar) (args : List Value) → HaveTypes p types params args → AllByRecursion (CanRead p (length types)) args
typed_all_read p types [] [] h = tt
typed_all_read p types [] (v ∷ vs) h = absurd h
typed_all_read p types (s ∷ ss) [] h = absurd h
typed_all_read p types (s ∷ ss) (v ∷ vs) h = (typed_reads p types s v h.0, typed_all_read p types ss vs h.1)

starting_within : (fs : List Function) (f : ℕ) (o : Option Function) → slice_get fs f ≡ o → BeginsThread o → f < length fs
starting_within fs f None e h = absurd h
starting_within fs f (Some x) e h = slice_get_within fs f x e

starting_reads : (p : NumberedProgram) (n : ℕ) (v : Value) → StartsThread p v → CanRead p n v
starting_reads p n (value.Function f) h = starting_within p.functions f (slice_get p.functions f) refl h
starting_reads p n (value.Register r) h = absurd h
starting_reads p n (value.Const c) h = absurd h
starting_reads p n (value.Global g) h = absurd h

create_reads : (p : NumberedProgram) (types : List Scalar) (args : List Value) → FitCreate p types args → AllByRecursion (CanRead p (length types)) args
create_reads p types (a ∷ b ∷ f ∷ c ∷ []) h =
    (typed_reads p types Ptr a h.0, (typed_reads p types Ptr b h.1, (starting_reads p (length types) f h.2, (typed_reads p types Ptr c h.3, tt))))
create_reads p types [] h = absurd h
create_reads p types (a ∷ []) h = absurd h
create_reads p types (a ∷ b ∷ []) h = absurd h
create_reads p types (a ∷ b ∷ f ∷ []) h = absurd h
create_reads p types (a ∷ b ∷ f ∷ c ∷ d ∷ more) h = absurd h

known_reads : (p : NumberedProgram) (types : List Scalar) (k : LibraryCall) (args : List Value) → FitLibraryCall p types k args → AllByRecursion (CanRead p (length types)) args
known_reads p types PthreadCreate args h = create_reads p types args h
known_reads p types k args h = typed_all_read p types (parameters_of k) args h

returned_reads : (p : NumberedProgram) (types : List Scalar) (returns : Option Scalar) (v : Option Value) → FitsReturn p types returns v → CanReadReturned p (length types) v
returned_reads p types returns None h = tt
returned_reads p types None (Some v) h = absurd h
returned_reads p types (Some s) (Some v) h = typed_reads p types s v h

both_read : (p : NumberedProgram) (types : List Scalar) (s : Scalar) (a b : Value) → BothHaveType p types s a b → CanRead p (length types) a × CanRead p (length types) b
both_read p types s a b h = (typed_reads p types s a h.0, typed_reads p types s b h.1)

compared_read : (p : NumberedProgram) (types : List Scalar) (w : Width) (a b : Value) → FitsCompare p types w a b → CanRead p (length types) a × CanRead p (length types) b
compared_read p types w a b (inl h) = both_read p types (Int w) a b h
compared_read p types w a b (inr h) = both_read p types Ptr a b h.1

stored_reads : (p : NumberedProgram) (types : List Scalar) (w : Width) (v : Value) → FitsStored p types w v → CanRead p (length types) v
stored_reads p types w v (inl h) = typed_reads p types (Int w) v h
stored_reads p types w v (inr h) = typed_reads p types Ptr v h.1

chosen_read : (p : NumberedProgram) (types : List Scalar) (result : Option Scalar) (a b : Value) → IsSomeAnd result (λ s. BothHaveType p types s a b)
    → CanRead p (length types) a × CanRead p (length types) b
chosen_read p types None a b h = absurd h
chosen_read p types (Some s) a b h = both_read p types s a b h

incoming_read : (p : NumberedProgram) (types : List Scalar) (s : Scalar) (from : List Incoming) → AllByRecursion (FitsIncoming p types s) from
    → AllByRecursion (λ (i : Incoming). CanRead p (length types) i.value) from
incoming_read p types s [] h = tt
incoming_read p types s (i ∷ is) h = (typed_reads p types s i.value h.0.1, incoming_read p types s is h.1)

pub phi_reads : (p : NumberedProgram) (types : List Scalar) (result : Option Scalar) (from : List Incoming) → IsSomeAnd result (λ s. AllByRecursion (FitsIncoming p types s) from)
    → AllByRecursion (λ (i : Incoming). CanRead p (length types) i.value) from
phi_reads p types None from h = absurd h
phi_reads p types (Some s) from h = incoming_read p types s from h

indices_read : (p : NumberedProgram) (types : List Scalar) (indices : List Index) → AllByRecursion (FitsIndex p types) indices
    → AllByRecursion (λ (i : Index). CanRead p (length types) i.value) indices
indices_read p types [] h = tt
indices_read p types (i ∷ is) h = (typed_reads p types (Int i.width) i.value h.0, indices_read p types is h.1)

pub op_reads : (p : NumberedProgram) (types : List Scalar) (returns result : Option Scalar) (o : Op) → FitsOp p types returns result o → CanReadAll p (length types) o
op_reads p types returns result (op.Add w a b) h = both_read p types (Int w) a b h.1
op_reads p types returns result (op.Sub w a b) h = both_read p types (Int w) a b h.1
op_reads p types returns result (op.Mul w a b) h = both_read p types (Int w) a b h.1
op_reads p types returns result (op.Divide d w a b) h = both_read p types (Int w) a b h.1
op_reads p types returns result (op.Shift d w a b) h = both_read p types (Int w) a b h.1
op_reads p types returns result (op.Bits d w a b) h = both_read p types (Int w) a b h.1
op_reads p types returns result (op.Compare c w a b) h = compared_read p types w a b h.1
op_reads p types returns result (op.Trunc from to v) h = typed_reads p types (Int from) v h.2
op_reads p types returns result (op.Zext from to v) h = typed_reads p types (Int from) v h.2
op_reads p types returns result (op.Sext from to v) h = typed_reads p types (Int from) v h.2
op_reads p types returns result (op.PtrToInt from to v) h = typed_reads p types Ptr v h.2
op_reads p types returns result (op.IntToPtr from to v) h = typed_reads p types (Int from) v h.2
op_reads p types returns result (op.Select c a b) h = let q = chosen_read p types result a b h.1 in (typed_reads p types (Int W1) c h.0, q.0, q.1)
op_reads p types returns result (op.Phi from) h = phi_reads p types result from h
op_reads p types returns result (op.Br to) h = tt
op_reads p types returns result (op.CondBr c a b) h = typed_reads p types (Int W1) c h.1
op_reads p types returns result (op.Switch w on other cases) h = typed_reads p types (Int w) on h.1
op_reads p types returns result (op.Call f args) h = typed_all_read p types (parameter_types p f) args h.2
op_reads p types returns result (op.Ret v) h = returned_reads p types returns v h.1
op_reads p types returns result op.Unreachable h = tt
op_reads p types returns result (op.Alloca bytes) h = tt
op_reads p types returns result (op.Load w from) h = typed_reads p types Ptr from h.1
op_reads p types returns result (op.Store w v at) h = (stored_reads p types w v h.1, typed_reads p types Ptr at h.2)
op_reads p types returns result (op.Gep base indices) h = (typed_reads p types Ptr base h.1, indices_read p types indices h.2)
op_reads p types returns result (op.CallLibrary k args) h = known_reads p types k args h.1

pub instr_reads : (p : NumberedProgram) (i : ℕ) (x : Instr) → FitsInstr p i x → CanReadAll p (length (types_of p (function_of p x.block.0))) x.op
instr_reads p i x h = op_reads p (types_of p (function_of p x.block.0)) (result_of p (function_of p x.block.0)) (type_at (types_of p (function_of p x.block.0)) x.result) x.op h.op
