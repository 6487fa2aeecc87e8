-- The function that an operation names: as its third operand, as no operation but a create does.
use Rattle.std.proofs.Common.{◌≡◌, ℕ, zero, suc, inr, List, [], ◌∷◌, map, true, Option, Some, None, refl, sym, ◌∙◌, subst}
use Rattle.std.specs.Prelude.{slice_get}
use Rattle.std.specs.List.{AllByRecursion}
use Rattle.pg_seats.specs.pg_ir.declared.edge.Case.{Case}
use Rattle.pg_seats.specs.pg_ir.declared.edge.Incoming.{Incoming}
use Rattle.pg_seats.specs.pg_ir.declared.instr.Instr.{Instr}
use Rattle.pg_seats.specs.pg_ir.declared.instr.Op.{Op}
use Rattle.pg_seats.specs.pg_ir.declared.instr.Op.TheVariants as op
use Rattle.pg_seats.specs.pg_ir.declared.library_call.LibraryCall.{LibraryCall}
use Rattle.pg_seats.specs.pg_ir.declared.library_call.LibraryCall.TheVariants.{PthreadCreate}
use Rattle.pg_seats.specs.pg_ir.declared.value.Index.{Index}
use Rattle.pg_seats.specs.pg_ir.declared.value.Scalar.{Scalar}
use Rattle.pg_seats.specs.pg_ir.declared.value.Value.{Value}
use Rattle.pg_seats.specs.pg_ir.declared.value.Value.TheVariants as value
use Rattle.pg_seats.specs.pg_ir.Program.{NumberedProgram}
use Rattle.pg_seats.specs.pg_ir.Signatures.{parameters_of}
use Rattle.pg_seats.specs.pg_ir.WellFormed.{BeginsThread, FitLibraryCall, FitsIncoming, FitsIndex, FitsInstr, FitsOp, HasType, HaveTypes, StartsAs, StartsThread, parameter_types}
use Rattle.pg_seats.specs.pg_run_thread.Operands.{operands_of}
use Rattle.pg_seats.specs.pg_law_course.Threads.{function_value}
use Rattle.pg_worker.specs.Calls.{is_call}

-- this operand isn't a function's name
abbrev Names : List Value → ℕ → Type 0
Names vs f = function_value (slice_get vs 2) ≡ Some f

module _ (p : NumberedProgram) (types : List Scalar) where
  typed : (s : Scalar) (v : Value) → HasType p types s v → function_value (Some v) ≡ None
  typed s (value.Register r) h = refl
  typed s (value.Const c) h = refl
  typed s (value.Global g) h = refl
  typed s (value.Function f) h = absurd h

  all_typed : (ss : List Scalar) (vs : List Value) (i : ℕ) → HaveTypes p types ss vs → function_value (slice_get vs i) ≡ None
  all_typed ss [] i h = refl
  all_typed [] (v ∷ vs) i h = absurd h
  all_typed (s ∷ ss) (v ∷ vs) zero h = typed s v h.0
  all_typed (s ∷ ss) (v ∷ vs) (suc i) h = all_typed ss vs i h.1

  all_incoming : (s : Scalar) (xs : List Incoming) (i : ℕ) → AllByRecursion (FitsIncoming p types s) xs → function_value (slice_get (map (λ (x : Incoming). x.value) xs) i) ≡ None
  all_incoming s [] i h = refl
  all_incoming s (x ∷ xs) zero h = typed s x.value h.0.1
  all_incoming s (x ∷ xs) (suc i) h = all_incoming s xs i h.1

  all_indices : (xs : List Index) (i : ℕ) → AllByRecursion (FitsIndex p types) xs → function_value (slice_get (map (λ (x : Index). x.value) xs) i) ≡ None
  all_indices [] i h = refl
  all_indices (x ∷ xs) zero h = typed _ x.value h.0
  all_indices (x ∷ xs) (suc i) h = all_indices xs i h.1

  all_cases : (xs : List Case) (i : ℕ) → function_value (slice_get (map (λ (c : Case). value.Const c.value) xs) i) ≡ None
  all_cases [] i = refl
  all_cases (x ∷ xs) zero = refl
  all_cases (x ∷ xs) (suc i) = all_cases xs i

  not_named : {A : Type 0} (o : Option ℕ) (f : ℕ) → o ≡ None → o ≡ Some f → A
  not_named o f e k = absurd (apart f (sym e ∙ k))
    where
      apart : (f : ℕ) → Path (Option ℕ) None (Some f) → ⊥
      apart f q = cc

  thread_starts : (v : Value) (f : ℕ) → StartsThread p v → function_value (Some v) ≡ Some f → StartsAs p f
  thread_starts (value.Function g) f h e = inr (subst (λ (n : ℕ). BeginsThread (slice_get p.functions n)) (some_number g f e) h)
    where
      some_number : (m n : ℕ) → Some m ≡ Some n → m ≡ n
      some_number m n q = cc
  thread_starts (value.Register r) f h e = absurd h
  thread_starts (value.Const c) f h e = absurd h
  thread_starts (value.Global g) f h e = absurd h

  create_starts : (args : List Value) (f : ℕ) → FitLibraryCall p types PthreadCreate args → Names args f → StartsAs p f
  create_starts [] f h e = absurd h
  create_starts (a ∷ []) f h e = absurd h
  create_starts (a ∷ b ∷ []) f h e = absurd h
  create_starts (a ∷ b ∷ v ∷ []) f h e = absurd h
  create_starts (a ∷ b ∷ v ∷ d ∷ []) f h e = thread_starts v f h.2 e
  create_starts (a ∷ b ∷ v ∷ d ∷ x ∷ xs) f h e = absurd h

  call_starts : (k : LibraryCall) (args : List Value) (f : ℕ) → FitLibraryCall p types k args → Names args f → StartsAs p f
  call_starts PthreadCreate args f h e = create_starts args f h e
  call_starts k args f h e = not_named _ f (all_typed (parameters_of k) args 2 h) e

  op_starts : (returns result : Option Scalar) (o : Op) (f : ℕ) → FitsOp p types returns result o → Names (operands_of o) f → (is_call o ≡ true) × StartsAs p f
  op_starts returns result (op.CallLibrary k args) f h e = (refl, call_starts k args f h.1 e)
  op_starts returns result (op.Select c a b) f h e = go result h.1
    where
      go : (s : Option Scalar) → Rattle.std.specs.Prelude.IsSomeAnd s (λ s. HasType p types s a × HasType p types s b) → (is_call (op.Select c a b) ≡ true) × StartsAs p f
      go None k = absurd k
      go (Some s) k = not_named _ f (typed s b k.1) e
  op_starts returns result (op.Phi from) f h e = go result h
    where
      go : (s : Option Scalar) → Rattle.std.specs.Prelude.IsSomeAnd s (λ s. AllByRecursion (FitsIncoming p types s) from) → (is_call (op.Phi from) ≡ true) × StartsAs p f
      go None k = absurd k
      go (Some s) k = not_named _ f (all_incoming s from 2 k) e
  op_starts returns result (op.Switch w on other cases) f h e = not_named _ f (all_cases cases 1) e
  op_starts returns result (op.Call g args) f h e = not_named _ f (all_typed (parameter_types p g) args 2 h.2) e
  op_starts returns result (op.Gep base indices) f h e = not_named _ f (all_indices indices 1 h.2) e
  op_starts returns result (op.Ret None) f h e = absurd cc
  op_starts returns result (op.Ret (Some v)) f h e = absurd cc
  op_starts returns result (op.Add w a b) f h e = absurd cc
  op_starts returns result (op.Sub w a b) f h e = absurd cc
  op_starts returns result (op.Mul w a b) f h e = absurd cc
  op_starts returns result (op.Divide d w a b) f h e = absurd cc
  op_starts returns result (op.Shift s w a b) f h e = absurd cc
  op_starts returns result (op.Bits o w a b) f h e = absurd cc
  op_starts returns result (op.Compare c w a b) f h e = absurd cc
  op_starts returns result (op.Trunc from to v) f h e = absurd cc
  op_starts returns result (op.Zext from to v) f h e = absurd cc
  op_starts returns result (op.Sext from to v) f h e = absurd cc
  op_starts returns result (op.PtrToInt from to v) f h e = absurd cc
  op_starts returns result (op.IntToPtr from to v) f h e = absurd cc
  op_starts returns result (op.Br to) f h e = absurd cc
  op_starts returns result (op.CondBr c a b) f h e = absurd cc
  op_starts returns result op.Unreachable f h e = absurd cc
  op_starts returns result (op.Alloca bytes) f h e = absurd cc
  op_starts returns result (op.Load w from) f h e = absurd cc
  op_starts returns result (op.Store w v at) f h e = absurd cc

pub instr_starts : (p : NumberedProgram) (i : ℕ) (x : Instr) (f : ℕ) → FitsInstr p i x → Names (operands_of x.op) f → (is_call x.op ≡ true) × StartsAs p f
instr_starts p i x f h e = op_starts p _ _ _ x.op f h.op e
