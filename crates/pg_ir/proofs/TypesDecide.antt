-- The tests of the types of operands and results decide the facts.
use Rattle.std.proofs.Common.{◌≡◌, ℕ, ◌<◌, List, [], ◌∷◌, length, Bool, true, false, arith, refl, sym, ap, ◌∙◌, ◌&&◌}
use Rattle.std.specs.Prelude.{if◌then◌else◌, suc, slice_get, IsSomeAnd, ◌==◌, nat_lt, Option, Some, None}
use Rattle.std.specs.List.{AllByRecursion}
use Rattle.std.specs.Bool.{Decides}
use Rattle.std.proofs.lemmas.Bool.{ne_eqb}
use Rattle.std.proofs.lemmas.Bool.Decides.{Decides-at, same_from_decides, Decides-and, Decides-or, Decides-like, Decides-eqb}
use Rattle.pg_num.specs.Numbers.{modulus, width_bits}
use Rattle.pg_num.specs.declared.width.Width.{Width}
use Rattle.pg_num.specs.declared.width.Width.TheVariants.{W1, W8, W16, W32, W64}
use Rattle.pg_ir.specs.declared.value.Scalar.{Scalar}
use Rattle.pg_ir.specs.declared.value.Scalar.TheVariants.{Int, Ptr}
use Rattle.pg_ir.specs.declared.value.Value.{Value}
use Rattle.pg_ir.specs.declared.value.Value.TheVariants as value
use Rattle.pg_ir.specs.declared.value.Index.{Index}
use Rattle.pg_ir.specs.declared.edge.Case.{Case}
use Rattle.pg_ir.specs.declared.edge.Incoming.{Incoming}
use Rattle.pg_ir.specs.declared.function.Function.{Function}
use Rattle.pg_ir.specs.declared.library_call.LibraryCall.{LibraryCall}
use Rattle.pg_ir.specs.declared.library_call.LibraryCall.TheVariants.{PthreadCreate}
use Rattle.pg_ir.specs.declared.instr.Op.{Op}
use Rattle.pg_ir.specs.declared.instr.Op.TheVariants as op
use Rattle.pg_ir.specs.Program.{NumberedProgram, result_of}
use Rattle.pg_ir.specs.Signatures.{parameters_of, returned_by}
use Rattle.pg_ir.specs.TypeTests.{same_width, same_scalar, same_type, has_type, each_has_type, have_types, begins_thread, starts_thread, create_fits, library_fits, return_fits, has_width}
use Rattle.pg_ir.specs.TypeTests.{both_have_type, binary_fits, compared_fit, stored_fits, narrower, chosen_fit, incoming_fits, all_incoming_fit, cases_fit, indices_fit, op_fits}
use Rattle.pg_ir.specs.WellFormed.{HasType, HaveTypes, FitsOp, FitLibraryCall, FitCreate, FitsReturn, StartsThread, BeginsThread, BothHaveType, FitsBinary, FitsCompare, FitsStored, FitsIncoming}
use Rattle.pg_ir.specs.WellFormed.{FitsIndex, HasWidth, parameter_types, width_of}
use Rattle.pg_ir.proofs.DecidedFacts.{decides_lt, decides_no, decides_sure, decides_three, decides_four, decides_all}

width_at : ℕ → Width
width_at n = if n == 1 then W1 else if n == 8 then W8 else if n == 16 then W16 else if n == 32 then W32 else W64

width_again : (w : Width) → width_at (width_bits w) ≡ w
unfolding width_at
width_again W1 = refl
width_again W8 = refl
width_again W16 = refl
width_again W32 = refl
width_again W64 = refl

bits_tell : (a b : Width) → width_bits a ≡ width_bits b → a ≡ b
bits_tell a b e = sym (width_again a) ∙ ap width_at e ∙ width_again b

pub decides_width : (a b : Width) → Decides (same_width a b) (a ≡ b)
decides_width a b = Decides-like (same_width a b) (bits_tell a b) (ap width_bits) (Decides-eqb (width_bits a) (width_bits b))

int_is : (a b : Width) → Int a ≡ Int b → a ≡ b
int_is a b e = cc

pub decides_scalar : (a b : Scalar) → Decides (same_scalar a b) (a ≡ b)
decides_scalar (Int a) (Int b) = Decides-like (same_width a b) (ap Int) (int_is a b) (decides_width a b)
decides_scalar Ptr Ptr = decides_sure refl
decides_scalar (Int a) Ptr = decides_no (λ e. cc)
decides_scalar Ptr (Int b) = decides_no (λ e. cc)

some_is : (a b : Scalar) → Some a ≡ Some b → a ≡ b
some_is a b e = cc

pub decides_type : (a b : Option Scalar) → Decides (same_type a b) (a ≡ b)
decides_type None None = decides_sure refl
decides_type (Some a) (Some b) = Decides-like (same_scalar a b) (ap Some) (some_is a b) (decides_scalar a b)
decides_type None (Some b) = decides_no (λ e. cc)
decides_type (Some a) None = decides_no (λ e. cc)

pub decides_has : (p : NumberedProgram) (types : List Scalar) (s : Scalar) (v : Value) → Decides (has_type p types s v) (HasType p types s v)
decides_has p types s (value.Register r) = decides_type (slice_get types r) (Some s)
decides_has p types s (value.Const n) = decides_lt n (modulus (width_of s))
decides_has p types s (value.Global g) = Decides-and (same_scalar s Ptr) (nat_lt g (length p.globals)) (decides_scalar s Ptr) (decides_lt g (length p.globals))
decides_has p types s (value.Function f) = decides_no (λ h. h)

same_counts : (n m : ℕ) → (suc n == suc m) ≡ (n == m)
same_counts n m = same_from_decides (suc n == suc m) (n == m) (Decides-like (suc n == suc m) (λ e. omega arith) (λ e. omega arith) (Decides-eqb (suc n) (suc m))) (Decides-eqb n m)

beside : {H P : Type 0} (q h t : Bool) → Decides h H → Decides (q && t) P → Decides (q && (h && t)) (H × P)
beside true h t a b = Decides-and h t a b
beside false h t a b = decides_no (λ k. let e : false ≡ true = b.1 k.1 in cc)

decides_have : (p : NumberedProgram) (types params : List Scalar) (args : List Value) → Decides (have_types p types params args) (HaveTypes p types params args)
decides_have p types [] [] = decides_sure tt
decides_have p types [] (v ∷ vs) = Decides-at (have_types p types [] (v ∷ vs)) false (ap (λ b. b && true) (ne_eqb 0 (suc (length vs)) (λ e. absurd (omega arith)))) (decides_no (λ h. h))
decides_have p types (s ∷ ss) [] = Decides-at (have_types p types (s ∷ ss) []) false (ap (λ b. b && true) (ne_eqb (suc (length ss)) 0 (λ e. absurd (omega arith)))) (decides_no (λ h. h))
decides_have p types (s ∷ ss) (v ∷ vs) =
    Decides-at (have_types p types (s ∷ ss) (v ∷ vs)) ((length ss == length vs) && (has_type p types s v && each_has_type p types ss vs))
    (ap (λ b. b && (has_type p types s v && each_has_type p types ss vs)) (same_counts (length ss) (length vs)))
    (beside (length ss == length vs) (has_type p types s v) (each_has_type p types ss vs) (decides_has p types s v) (decides_have p types ss vs))

decides_begins : (o : Option Function) → Decides (begins_thread o) (BeginsThread o)
decides_begins None = decides_no (λ h. h)
decides_begins (Some f) =
    decides_three (f.params == 1) (same_type (slice_get f.registers 0) (Some Ptr)) (same_type f.result (Some Ptr))
    (Decides-eqb f.params 1) (decides_type (slice_get f.registers 0) (Some Ptr)) (decides_type f.result (Some Ptr))

decides_starts : (p : NumberedProgram) (v : Value) → Decides (starts_thread p v) (StartsThread p v)
decides_starts p (value.Function f) = decides_begins (slice_get p.functions f)
decides_starts p (value.Register r) = decides_no (λ h. h)
decides_starts p (value.Const n) = decides_no (λ h. h)
decides_starts p (value.Global g) = decides_no (λ h. h)

decides_create : (p : NumberedProgram) (types : List Scalar) (args : List Value) → Decides (create_fits p types args) (FitCreate p types args)
decides_create p types (a ∷ b ∷ f ∷ c ∷ []) =
    decides_four (has_type p types Ptr a) (has_type p types Ptr b) (starts_thread p f) (has_type p types Ptr c)
    (decides_has p types Ptr a) (decides_has p types Ptr b) (decides_starts p f) (decides_has p types Ptr c)
decides_create p types [] = decides_no (λ h. h)
decides_create p types (a ∷ []) = decides_no (λ h. h)
decides_create p types (a ∷ b ∷ []) = decides_no (λ h. h)
decides_create p types (a ∷ b ∷ f ∷ []) = decides_no (λ h. h)
decides_create p types (a ∷ b ∷ f ∷ c ∷ d ∷ more) = decides_no (λ h. h)

decides_known : (p : NumberedProgram) (types : List Scalar) (k : LibraryCall) (args : List Value) → Decides (library_fits p types k args) (FitLibraryCall p types k args)
decides_known p types PthreadCreate args = decides_create p types args
decides_known p types k args = decides_have p types (parameters_of k) args

decides_return : (p : NumberedProgram) (types : List Scalar) (returns : Option Scalar) (v : Option Value) → Decides (return_fits p types returns v) (FitsReturn p types returns v)
decides_return p types None None = decides_sure tt
decides_return p types (Some s) (Some v) = decides_has p types s v
decides_return p types None (Some v) = decides_no (λ h. h)
decides_return p types (Some s) None = decides_no (λ h. h)

decides_has_width : (w : Width) (o : Option Scalar) → Decides (has_width w o) (HasWidth w o)
decides_has_width w None = decides_no (λ h. h)
decides_has_width w (Some s) = decides_width (width_of s) w

decides_both : (p : NumberedProgram) (types : List Scalar) (s : Scalar) (a b : Value) → Decides (both_have_type p types s a b) (BothHaveType p types s a b)
decides_both p types s a b = Decides-and (has_type p types s a) (has_type p types s b) (decides_has p types s a) (decides_has p types s b)

decides_binary : (p : NumberedProgram) (types : List Scalar) (result : Option Scalar) (w : Width) (a b : Value) → Decides (binary_fits p types result w a b) (FitsBinary p types result w a b)
decides_binary p types result w a b =
    Decides-and (same_type result (Some (Int w))) (both_have_type p types (Int w) a b) (decides_type result (Some (Int w))) (decides_both p types (Int w) a b)

decides_compare : (p : NumberedProgram) (types : List Scalar) (w : Width) (a b : Value) → Decides (compared_fit p types w a b) (FitsCompare p types w a b)
decides_compare p types w a b =
    Decides-or (both_have_type p types (Int w) a b) (same_width w W64 && both_have_type p types Ptr a b) (decides_both p types (Int w) a b)
    (Decides-and (same_width w W64) (both_have_type p types Ptr a b) (decides_width w W64) (decides_both p types Ptr a b))

decides_stored : (p : NumberedProgram) (types : List Scalar) (w : Width) (v : Value) → Decides (stored_fits p types w v) (FitsStored p types w v)
decides_stored p types w v =
    Decides-or (has_type p types (Int w) v) (same_width w W64 && has_type p types Ptr v) (decides_has p types (Int w) v)
    (Decides-and (same_width w W64) (has_type p types Ptr v) (decides_width w W64) (decides_has p types Ptr v))

decides_chosen : (p : NumberedProgram) (types : List Scalar) (result : Option Scalar) (a b : Value) → Decides (chosen_fit p types result a b) (IsSomeAnd result (λ s. BothHaveType p types s a b))
decides_chosen p types None a b = decides_no (λ h. h)
decides_chosen p types (Some s) a b = decides_both p types s a b

decides_one_incoming : (p : NumberedProgram) (types : List Scalar) (s : Scalar) (i : Incoming) → Decides (incoming_fits p types s i) (FitsIncoming p types s i)
decides_one_incoming p types s i =
    Decides-and (nat_lt i.block.0 (length p.blocks)) (has_type p types s i.value) (decides_lt i.block.0 (length p.blocks)) (decides_has p types s i.value)

decides_incoming : (p : NumberedProgram) (types : List Scalar) (result : Option Scalar) (from : List Incoming)
    → Decides (all_incoming_fit p types result from) (IsSomeAnd result (λ s. AllByRecursion (FitsIncoming p types s) from))
decides_incoming p types None from = decides_no (λ h. h)
decides_incoming p types (Some s) from = decides_all (incoming_fits p types s) (FitsIncoming p types s) (decides_one_incoming p types s) from

decides_cases : (w : Width) (cases : List Case) → Decides (cases_fit w cases) (AllByRecursion (λ (c : Case). c.value < modulus w) cases)
decides_cases w cases = decides_all (λ (c : Case). nat_lt c.value (modulus w)) (λ (c : Case). c.value < modulus w) (λ c. decides_lt c.value (modulus w)) cases

decides_indices : (p : NumberedProgram) (types : List Scalar) (indices : List Index) → Decides (indices_fit p types indices) (AllByRecursion (FitsIndex p types) indices)
decides_indices p types indices =
    decides_all (λ (i : Index). has_type p types (Int i.width) i.value) (FitsIndex p types) (λ i. decides_has p types (Int i.width) i.value) indices

-- the type of the result, and two more facts
decides_result : {P : Type 0} (a b : Option Scalar) (t : Bool) → Decides t P → Decides (same_type a b && t) ((a ≡ b) × P)
decides_result a b t h = Decides-and (same_type a b) t (decides_type a b) h

decides_result_two : {P Q : Type 0} (a b : Option Scalar) (t u : Bool) → Decides t P → Decides u Q → Decides (same_type a b && (t && u)) ((a ≡ b) × P × Q)
decides_result_two a b t u h k = decides_three (same_type a b) t u (decides_type a b) h k

pub decides_op : (p : NumberedProgram) (types : List Scalar) (returns result : Option Scalar) (o : Op) → Decides (op_fits p types returns result o) (FitsOp p types returns result o)
unfolding op_fits
decides_op p types returns result (op.Add w a b) = decides_binary p types result w a b
decides_op p types returns result (op.Sub w a b) = decides_binary p types result w a b
decides_op p types returns result (op.Mul w a b) = decides_binary p types result w a b
decides_op p types returns result (op.Divide d w a b) = decides_binary p types result w a b
decides_op p types returns result (op.Shift d w a b) = decides_binary p types result w a b
decides_op p types returns result (op.Bits d w a b) = decides_binary p types result w a b
decides_op p types returns result (op.Compare c w a b) = decides_result result (Some (Int W1)) (compared_fit p types w a b) (decides_compare p types w a b)
decides_op p types returns result (op.Trunc from to v) =
    decides_result_two result (Some (Int to)) (narrower to from) (has_type p types (Int from) v) (decides_lt (width_bits to) (width_bits from)) (decides_has p types (Int from) v)
decides_op p types returns result (op.Zext from to v) =
    decides_result_two result (Some (Int to)) (narrower from to) (has_type p types (Int from) v) (decides_lt (width_bits from) (width_bits to)) (decides_has p types (Int from) v)
decides_op p types returns result (op.Sext from to v) =
    decides_result_two result (Some (Int to)) (narrower from to) (has_type p types (Int from) v) (decides_lt (width_bits from) (width_bits to)) (decides_has p types (Int from) v)
decides_op p types returns result (op.PtrToInt from to v) =
    decides_result_two result (Some (Int to)) (same_width from W64) (has_type p types Ptr v) (decides_width from W64) (decides_has p types Ptr v)
decides_op p types returns result (op.IntToPtr from to v) =
    decides_result_two result (Some Ptr) (same_width to W64) (has_type p types (Int from) v) (decides_width to W64) (decides_has p types (Int from) v)
decides_op p types returns result (op.Select c a b) =
    Decides-and (has_type p types (Int W1) c) (chosen_fit p types result a b) (decides_has p types (Int W1) c) (decides_chosen p types result a b)
decides_op p types returns result (op.Phi from) = decides_incoming p types result from
decides_op p types returns result (op.Br to) = decides_type result None
decides_op p types returns result (op.CondBr c a b) = decides_result result None (has_type p types (Int W1) c) (decides_has p types (Int W1) c)
decides_op p types returns result (op.Switch w on other cases) =
    decides_result_two result None (has_type p types (Int w) on) (cases_fit w cases) (decides_has p types (Int w) on) (decides_cases w cases)
decides_op p types returns result (op.Call f args) =
    decides_result_two result (result_of p f) (nat_lt f (length p.functions)) (have_types p types (parameter_types p f) args)
    (decides_lt f (length p.functions)) (decides_have p types (parameter_types p f) args)
decides_op p types returns result (op.Ret v) = decides_result result None (return_fits p types returns v) (decides_return p types returns v)
decides_op p types returns result op.Unreachable = decides_type result None
decides_op p types returns result (op.Alloca bytes) = decides_type result (Some Ptr)
decides_op p types returns result (op.Load w from) =
    Decides-and (has_width w result) (has_type p types Ptr from) (decides_has_width w result) (decides_has p types Ptr from)
decides_op p types returns result (op.Store w v at) =
    decides_result_two result None (stored_fits p types w v) (has_type p types Ptr at) (decides_stored p types w v) (decides_has p types Ptr at)
decides_op p types returns result (op.Gep base indices) =
    decides_result_two result (Some Ptr) (has_type p types Ptr base) (indices_fit p types indices) (decides_has p types Ptr base) (decides_indices p types indices)
decides_op p types returns result (op.CallLibrary k args) = decides_result result (returned_by k) (library_fits p types k args) (decides_known p types k args)
