-- The calls of an accepted tree fit the functions that they call.
use Rattle.std.proofs.Common.{◌≡◌, ℕ, zero, suc, ◌+◌, ◌<◌, ◌≤◌, List, [], ◌∷◌, ◌++◌, length, map, take, drop, Bool, true, false, not, refl, sym, ap}
use Rattle.std.proofs.Common.{◌∙◌, subst, true≢false, arith, nat_lt, cond, ◌⊎◌, inl, inr}
use Rattle.std.specs.Prelude.{slice_get, Option, Some, None, is_some}
use Rattle.std.specs.List.{filter_map}
use Rattle.std.proofs.lemmas.Bool.{ltb-false, and_parts}
use Rattle.std.proofs.lemmas.Option.{slice_get_within, same_Some}
use Rattle.pg_read_lex.specs.declared.token.Span.{Span}
use Rattle.pg_ir.specs.declared.value.Scalar.{Scalar}
use Rattle.pg_ir.specs.declared.value.Scalar.TheVariants as scalar
use Rattle.pg_ir.specs.declared.value.Value.{Value}
use Rattle.pg_ir.specs.declared.library_call.LibraryCall.{LibraryCall}
use Rattle.pg_ir.specs.declared.library_call.LibraryCall.TheVariants as known
use Rattle.pg_ir.specs.declared.function.Function.{Function}
use Rattle.pg_ir.specs.Program.{NumberedProgram, types_of, result_of, parameter_count, parameter_count_in}
use Rattle.pg_ir.specs.Signatures.{parameters_of, returned_by}
use Rattle.pg_ir.specs.WellFormed.{HasType, HaveTypes, BeginsThread, StartsThread, FitCreate, FitLibraryCall, FitsOp, parameter_types}
use Rattle.pg_read_ast.specs.declared.names.Name.{Name}
use Rattle.pg_read_ast.specs.Syntax.{Ty, Val, Int, True, False, Null, Undef, Poison, ZeroInitializer, Local, Global, GepVal, IntToPtrVal, Typed, Written, Op, Call, Param, Dparam, ParamOf}
use Rattle.pg_read_ast.specs.Syntax.{Metadata, Dots, NamedType, Definition, Tree}
use Rattle.pg_read_ast.specs.Numbers.{is_void, gives, numbered}
use Rattle.pg_check_types.specs.Resolved.{ResolvedType, PointerType, resolved, is_pointer}
use Rattle.pg_check_rules.specs.Names.{Symbol, VariableOf, DefinitionOf, DeclarationOf, NoSymbol, symbol, registers_of, register_named, result_type, first_block}
use Rattle.pg_check_rules.specs.Places.{type_span}
use Rattle.pg_check_rules.specs.Written.{typed_operand, op_types, written_types, asks_typed, op_demands}
use Rattle.pg_check_rules.specs.ValueConditions.{unknown_symbol, unknown_value}
use Rattle.pg_check_rules.specs.CallConditions.{definition_header, declaration_header, header_of, param_type, param_types, known_of, is_create_known, is_create, variable_symbol, callee_params}
use Rattle.pg_check_rules.specs.CallConditions.{is_callable, wrong_header, argument_demands, call_demands, wrong_number, thread_functions, value_operands, is_pointer_param, is_thread_header}
use Rattle.pg_check_rules.specs.CallConditions.{wrong_thread, unsupported_thread, unsupported_thread_symbol}
use Rattle.pg_check_rules.specs.Conditions.{scope_of, is_scalar_type, are_params, IsUnrefused}
use Rattle.pg_check_rules.specs.Numbered.{scalar_in, value_of, symbol_value, typed_value, library_call, call_of, op_at, named_functions, program_of}
use Rattle.pg_check_types.specs.Kinds.{is_as, fails}
use Rattle.pg_law_numbering.proofs.FlattenedLists.{behind_get, there_at, map_count, front_at, in_front}
use Rattle.pg_law_numbering.proofs.UnrefusedParts.{front_none, behind_none, else_none, then_none}
use Rattle.pg_check_types.proofs.SameTypes.{same_type_true}
use Rattle.pg_law_numbering.proofs.ResolvedTypes.{Has}
use Rattle.pg_check_types.proofs.Voids.{void_resolved}
use Rattle.pg_law_numbering.proofs.NamedDefinitions.{params_kept, param_plain}
use Rattle.pg_law_numbering.proofs.NumberedPlaces.{function_there, functions_count}
use Rattle.pg_law_numbering.proofs.Scalars.{scalar_type_is, result_is, passes_from, pointer_is}
use Rattle.pg_law_numbering.proofs.GlobalSymbols.{definition_there, declaration_there}
use Rattle.pg_law_numbering.proofs.Headers.{named_there, param_type_at, result_has, param_has}
use Rattle.pg_law_numbering.proofs.Callees.{CallsDefined, CallsLibrary, defined_agrees, declared_agrees, known_result, known_params}
use Rattle.pg_law_numbering.proofs.LineOperations.{Passes}
use Rattle.pg_law_numbering.proofs.PhisAndEnds.{callee_of}
use Rattle.pg_law_numbering.proofs.Registers.{scalars_of, types_are_of, result_is_of, params_within, param_at_number}
use Rattle.pg_law_numbering.proofs.Operands.{type_of_scalar, operand_fits}
use Rattle.pg_law_numbering.proofs.ChoiceTests.{not_true}
use Rattle.pg_law_numbering.proofs.FilteredLists.{map_there, map_from}

-- ---- lists

have_types : (p : NumberedProgram) (types ss : List Scalar) (vs : List Value) → length ss ≡ length vs
    → ((k : ℕ) (s : Scalar) (v : Value) → slice_get ss k ≡ Some s → slice_get vs k ≡ Some v → HasType p types s v) → HaveTypes p types ss vs
have_types p types [] [] e h = tt
have_types p types [] (v ∷ vs) e h = absurd cc
have_types p types (s ∷ ss) [] e h = absurd cc
have_types p types (s ∷ ss) (v ∷ vs) e h = (h 0 s v refl refl, have_types p types ss vs (omega (arith, e)) (λ k t w a b. h (suc k) t w a b))

take_count : {X : Type 0} (n : ℕ) (xs : List X) → n ≤ length xs → length (take n xs) ≡ n
take_count zero xs l = refl
take_count (suc n) [] l = absurd (omega (arith, l))
take_count (suc n) (x ∷ xs) l = ap suc (take_count n xs (omega (arith, l)))

no_more : (n : ℕ) (all : List Typed) → map (λ (a : Typed). type_span a.ty) (take 1 (drop n all)) ≡ [] → length all ≤ n
no_more zero [] e = omega arith
no_more zero (a ∷ all) e = absurd cc
no_more (suc n) [] e = omega arith
no_more (suc n) (a ∷ all) e = omega (arith, no_more n all e)

-- as many arguments as parameters
count_is : (ps : List Ty) (all : List Typed) (f : Name) → wrong_number ps all f ≡ [] → length all ≡ length ps
count_is ps all f e = by (nat_lt (length all) (length ps)) refl e
  where
    by : (b : Bool) → nat_lt (length all) (length ps) ≡ b → ◌≡◌ {A = List Span} (cond b (f.span ∷ []) (map (λ (a : Typed). type_span a.ty) (take 1 (drop (length ps) all)))) []
        → length all ≡ length ps
    by true h g = absurd cc
    by false h g = omega (arith, no_more (length ps) all g, ltb-false (length all) (length ps) h)

demand_at : (types : List NamedType) (ps : List Ty) (all : List Typed) (k : ℕ) (t : Ty) (a : Typed) → slice_get ps k ≡ Some t → slice_get all k ≡ Some a
    → slice_get (argument_demands types ps all) k ≡ Some (asks_typed (is_as (resolved types t)) a)
demand_at types [] all k t a e h = absurd cc
demand_at types (p ∷ ps) [] k t a e h = absurd cc
demand_at types (p ∷ ps) (b ∷ all) zero t a e h =
    ap (λ (q : Ty). Some (asks_typed (is_as (resolved types q)) b)) (same_Some p t e) ∙ ap (λ (q : Typed). Some (asks_typed (is_as (resolved types t)) q)) (same_Some b a h)
demand_at types (p ∷ ps) (b ∷ all) (suc k) t a e h = demand_at types ps all k t a e h

-- ---- parameters

params_length : (ps : List Param) → length (filter_map param_type (map (λ (p : Param). ParamOf p) ps)) ≡ length ps
params_length [] = refl
params_length (p ∷ ps) = ap suc (params_length ps)

known_length : (types : List NamedType) (ss : List Scalar) (ps : List Dparam) → are_params types ss ps ≡ true → length (filter_map param_type ps) ≡ length ss
known_length types [] [] e = refl
known_length types [] (ParamOf p ∷ ps) e = absurd cc
known_length types [] (Metadata s ∷ ps) e = absurd cc
known_length types [] (Dots s ∷ ps) e = absurd cc
known_length types (s ∷ ss) [] e = absurd cc
known_length types (s ∷ ss) (ParamOf p ∷ ps) e = ap suc (known_length types ss ps (and_parts (is_scalar_type s (resolved types p.ty)) (are_params types ss ps) e).1)
known_length types (s ∷ ss) (Metadata x ∷ ps) e = absurd cc
known_length types (s ∷ ss) (Dots x ∷ ps) e = absurd cc

known_at : (types : List NamedType) (ss : List Scalar) (ps : List Dparam) (k : ℕ) (s : Scalar) → are_params types ss ps ≡ true → slice_get ss k ≡ Some s
    → (t : Ty) × (slice_get (filter_map param_type ps) k ≡ Some t) × (scalar_in (resolved types t) ≡ Some s)
known_at types [] ps k s e h = absurd cc
known_at types (x ∷ ss) [] k s e h = absurd cc
known_at types (x ∷ ss) (Metadata y ∷ ps) k s e h = absurd cc
known_at types (x ∷ ss) (Dots y ∷ ps) k s e h = absurd cc
known_at types (x ∷ ss) (ParamOf p ∷ ps) zero s e h =
    let own = and_parts (is_scalar_type x (resolved types p.ty)) (are_params types ss ps) e in
    (p.ty, refl, scalar_type_is x (resolved types p.ty) own.0 ∙ h)
known_at types (x ∷ ss) (ParamOf p ∷ ps) (suc k) s e h = known_at types ss ps k s (and_parts (is_scalar_type x (resolved types p.ty)) (are_params types ss ps) e).1 h

-- one parameter, a pointer
pointer_param : (types : List NamedType) (ps : List Param) → is_pointer_param types (map (λ (p : Param). ParamOf p) ps) ≡ true
    → (q : Param) × (ps ≡ q ∷ []) × (not (fails is_pointer (resolved types q.ty)) ≡ true)
pointer_param types [] e = absurd cc
pointer_param types (q ∷ []) e = (q, refl, e)
pointer_param types (q ∷ r ∷ ps) e = absurd cc

-- ---- known functions

library_fits : (p : NumberedProgram) (types : List Scalar) (k : LibraryCall) (args : List Value) → (is_create_known (Some k) ≡ false → HaveTypes p types (parameters_of k) args)
    → (k ≡ known.PthreadCreate → FitCreate p types args) → FitLibraryCall p types k args
library_fits p types known.PgIn args h c = h refl
library_fits p types known.PgInLen args h c = h refl
library_fits p types known.PgOut args h c = h refl
library_fits p types known.PgPrint args h c = h refl
library_fits p types known.Putchar args h c = h refl
library_fits p types known.Malloc args h c = h refl
library_fits p types known.Free args h c = h refl
library_fits p types known.PthreadCreate args h c = c refl
library_fits p types known.PthreadJoin args h c = h refl
library_fits p types known.PthreadExit args h c = h refl
library_fits p types known.PthreadMutexInit args h c = h refl
library_fits p types known.PthreadMutexLock args h c = h refl
library_fits p types known.PthreadMutexTrylock args h c = h refl
library_fits p types known.PthreadMutexUnlock args h c = h refl
library_fits p types known.PthreadMutexDestroy args h c = h refl
library_fits p types known.PthreadCondInit args h c = h refl
library_fits p types known.PthreadCondWait args h c = h refl
library_fits p types known.PthreadCondSignal args h c = h refl
library_fits p types known.PthreadCondBroadcast args h c = h refl
library_fits p types known.PthreadCondDestroy args h c = h refl
library_fits p types known.PthreadBarrierInit args h c = h refl
library_fits p types known.PthreadBarrierWait args h c = h refl
library_fits p types known.PthreadBarrierDestroy args h c = h refl

module _ (m : Tree) (accepted : IsUnrefused m) (f : ℕ) (d : Definition) (there : slice_get (named_functions m) f ≡ Some d) where
  -- what a call gives is what its type is
  result_given : (t : Ty) (result : Option Scalar) → (not (is_void m.types t) ≡ true → result ≡ scalar_in (resolved m.types t)) → (not (is_void m.types t) ≡ false → result ≡ None)
      → result ≡ scalar_in (resolved m.types t)
  result_given t result given nothing = by (is_void m.types t) refl
    where
      by : (b : Bool) → is_void m.types t ≡ b → result ≡ scalar_in (resolved m.types t)
      by false e = given (ap (λ (c : Bool). not c) e)
      by true e = nothing (ap (λ (c : Bool). not c) e) ∙ sym (ap scalar_in (void_resolved m.types t e))

  -- ---- arguments

  module _ (s : Span) (t : Ty) (w : Option Written) (n : Name) (all : List Typed) (p : Passes m d (Call s t w n all)) (callable : is_callable (symbol m n.text) ≡ true) where
    arguments_count : length all ≡ length (callee_params (symbol m n.text))
    arguments_count =
        let e = behind_none (variable_symbol (symbol m n.text) n.span) _ (behind_none (wrong_header m.types (header_of (symbol m n.text)) t w) _ p.call) in
        count_is (callee_params (symbol m n.text)) all n (sym (ap (λ (b : Bool). cond b (wrong_number (callee_params (symbol m n.text)) all n) []) callable) ∙ e)

    argument_type : (k : ℕ) (a : Typed) → slice_get all k ≡ Some a → Has (resolved m.types a.ty)
    unfolding op_types
    argument_type k a e = p.types (suc (length (written_types w) + k)) a.ty
        (in_front (written_types w ++ map (λ (x : Typed). x.ty) all) _ (length (written_types w) + k) a.ty
        (behind_get (written_types w) (map (λ (x : Typed). x.ty) all) k ∙ map_there (λ (x : Typed). x.ty) all k a e))

    -- an argument has its parameter's type
    argument_as : (k : ℕ) (u : Ty) (a : Typed) → slice_get (callee_params (symbol m n.text)) k ≡ Some u → slice_get all k ≡ Some a → Has (resolved m.types u)
        → resolved m.types a.ty ≡ resolved m.types u
    unfolding op_demands
    argument_as k u a e h g =
        let r = argument_type k a h in
        let at : slice_get (call_demands (scope_of m d) (Call s t w n all)) k ≡ Some (asks_typed (is_as (resolved m.types u)) a) =
        ap (λ (b : Bool). slice_get (cond b (argument_demands m.types (callee_params (symbol m n.text)) all) []) k) callable ∙ demand_at m.types (callee_params (symbol m n.text)) all k u a e h in
        let test = p.demands (suc k) (asks_typed (is_as (resolved m.types u)) a) at r.0 r.1 in
        r.1 ∙ ap (λ (q : ResolvedType). Some q) (sym (same_type_true g.0 r.0 (subst (λ (o : Option ResolvedType). is_as o r.0 ≡ true) g.1 test))) ∙ sym g.1

    -- where no thread is created, all arguments are values
    argument_fits : is_create (scope_of m d) n ≡ false → (k : ℕ) (u : Ty) (a : Typed) (x : Scalar) → slice_get (callee_params (symbol m n.text)) k ≡ Some u
        → slice_get all k ≡ Some a → scalar_in (resolved m.types u) ≡ Some x → HasType (program_of m) (scalars_of m d) x (typed_value (scope_of m d) a)
    argument_fits create k u a x e h g =
        let at : slice_get (value_operands (scope_of m d) (Call s t w n all)) k ≡ Some (typed_operand a) =
        ap (λ (b : Bool). slice_get (cond b (map typed_operand (take 2 all ++ drop 3 all)) (map typed_operand all)) k) create ∙ map_there typed_operand all k a h in
        operand_fits m accepted f d there (Call s t w n all) p k a.ty a.value at x (ap scalar_in (argument_as k u a e h (type_of_scalar (resolved m.types u) x g)) ∙ g)

  -- ---- a function that is defined

  defined_count : (g : ℕ) (x : Definition) → slice_get (named_functions m) g ≡ Some x → parameter_count (program_of m) g ≡ length x.params
  unfolding parameter_count
  defined_count g x e = ap (λ (o : Option Function). parameter_count_in o) (function_there m g x e)

  parameters_are : (g : ℕ) (x : Definition) → slice_get (named_functions m) g ≡ Some x → parameter_types (program_of m) g ≡ take (length x.params) (scalars_of m x)
  parameters_are g x e =
      ap (λ (n : ℕ). take n (types_of (program_of m) g)) (defined_count g x e) ∙ ap (λ (xs : List Scalar). take (length x.params) xs) (types_are_of m accepted g x e)

  -- the types of the parameters of a definition
  parameter_at : (g : ℕ) (x : Definition) → slice_get m.functions g ≡ Some x → (k : ℕ) (y : Scalar)
      → slice_get (take (length (numbered m.types x).params) (scalars_of m (numbered m.types x))) k ≡ Some y
      → (u : Ty) × (slice_get (param_types (definition_header x)) k ≡ Some u) × (scalar_in (resolved m.types u) ≡ Some y)
  parameter_at g x e k y h =
      let named = named_there m g x e in
      let count = take_count (length (numbered m.types x).params) (scalars_of m (numbered m.types x)) (params_within m accepted g (numbered m.types x) named) in
      let below : k < length (numbered m.types x).params = omega (arith, count, slice_get_within (take (length (numbered m.types x).params) (scalars_of m (numbered m.types x))) k y h) in
      let q = there_at (numbered m.types x).params k below in
      let plain = param_plain m.types x k q.0 q.1 in
      let at : slice_get (scalars_of m (numbered m.types x)) k ≡ Some y = sym (front_at (length (numbered m.types x).params) (scalars_of m (numbered m.types x)) k below) ∙ h in (
        plain.0.ty,
        param_type_at x.params k plain.0 plain.1,
        ap (λ (u : Ty). scalar_in (resolved m.types u)) (sym plain.2)
            ∙ sym (param_at_number m accepted g (numbered m.types x) named k q.0 q.1) ∙ at,
      )

  result_kept : (x : Definition) → (numbered m.types x).result ≡ x.result
  unfolding numbered
  result_kept x = refl

  defined_row : (s : Span) (t : Ty) (w : Option Written) (n : Name) (all : List Typed) → Passes m d (Call s t w n all) → (c : CallsDefined m (symbol m n.text)) → (result : Option Scalar)
      → result ≡ scalar_in (resolved m.types t) → FitsOp (program_of m) (scalars_of m d) (scalar_in (resolved m.types d.result)) result
      (call_of (symbol m n.text) (map (typed_value (scope_of m d)) all))
  unfolding op_types
  defined_row s t w n all p c result r =
      let g = c.function in
      let x = c.definition in
      let at = definition_there m n.text g x c.is in
      let named = named_there m g x at in
      let header = front_none (wrong_header m.types (header_of (symbol m n.text)) t w) _ p.call in
      let types = defined_agrees m accepted g x t w at (subst (λ (y : Symbol). wrong_header m.types (header_of y) t w ≡ []) c.is header) (p.types 0 t refl) in
      let returned : result ≡ result_of (program_of m) g = r ∙ ap scalar_in types ∙ sym (ap (λ (u : Ty). scalar_in (resolved m.types u)) (result_kept x))
      ∙ sym (result_is_of m accepted g (numbered m.types x) named) in
      let callable : is_callable (symbol m n.text) ≡ true = ap (λ (y : Symbol). is_callable y) c.is in
      let create : is_create (scope_of m d) n ≡ false = ap (λ (y : Symbol). is_create_known (known_of y)) c.is in
      let params : callee_params (symbol m n.text) ≡ param_types (definition_header x) = ap (λ (y : Symbol). callee_params y) c.is in
      let count = arguments_count s t w n all p callable in
      let args = map (typed_value (scope_of m d)) all in
      let lengths : length (take (length (numbered m.types x).params) (scalars_of m (numbered m.types x))) ≡ length args =
      omega (
        arith,
        take_count (length (numbered m.types x).params) (scalars_of m (numbered m.types x)) (params_within m accepted g (numbered m.types x) named),
        params_kept m.types x,
        params_length x.params,
        count,
        ap (λ (xs : List Ty). length xs) params,
        map_count (typed_value (scope_of m d)) all,
      ) in
      let fit : HaveTypes (program_of m) (scalars_of m d) (take (length (numbered m.types x).params) (scalars_of m (numbered m.types x))) args =
      have_types (program_of m) (scalars_of m d) (take (length (numbered m.types x).params) (scalars_of m (numbered m.types x))) args lengths
      (λ (k : ℕ) (y : Scalar) (v : Value) a b.
      let u = parameter_at g x at k y a in
      let arg = map_from (typed_value (scope_of m d)) all k v b in
      subst (HasType (program_of m) (scalars_of m d) y) (sym arg.2)
      (argument_fits s t w n all p callable create k u.0 arg.0 y (ap (λ (xs : List Ty). slice_get xs k) params ∙ u.1) arg.1 u.2)) in
      subst (λ (y : Symbol). FitsOp (program_of m) (scalars_of m d) (scalar_in (resolved m.types d.result)) result (call_of y args)) (sym c.is) (
        returned,
        omega (arith, functions_count m, slice_get_within (named_functions m) g (numbered m.types x) named),
        subst (λ (ss : List Scalar). HaveTypes (program_of m) (scalars_of m d) ss args) (sym (parameters_are g (numbered m.types x) named)) fit,
      )

  -- ---- the function with which a thread begins

  thread_header : (g : ℕ) (x : Definition) → slice_get m.functions g ≡ Some x → is_thread_header m.types (Some (definition_header x)) ≡ true
      → BeginsThread (slice_get (program_of m).functions g)
  thread_header g x at e =
      let named = named_there m g x at in
      let h = and_parts (not (fails is_pointer (resolved m.types x.result))) (is_pointer_param m.types (map (λ (p : Param). ParamOf p) x.params)) e in
      let q = pointer_param m.types x.params h.1 in
      let r : Has (resolved m.types x.result) = subst (λ (u : Ty). Has (resolved m.types u)) (result_kept x) (result_has m accepted g (numbered m.types x) named) in
      let result : resolved m.types x.result ≡ Some PointerType = r.1
      ∙ ap (λ (y : ResolvedType). Some y) (pointer_is r.0 (passes_from is_pointer (resolved m.types x.result) r.0 (not_true (fails is_pointer (resolved m.types x.result)) h.0) r.1)) in
      let count : length (numbered m.types x).params ≡ 1 = params_kept m.types x ∙ ap (λ (ps : List Param). length ps) q.1 in
      let p = there_at (numbered m.types x).params 0 (omega (arith, count)) in
      let plain = param_plain m.types x 0 p.0 p.1 in
      let same : plain.0 ≡ q.0 = same_Some plain.0 q.0 (sym plain.1 ∙ ap (λ (ps : List Param). slice_get ps 0) q.1) in
      let type : p.0.ty ≡ q.0.ty = plain.2 ∙ ap (λ (y : Param). y.ty) same in
      let rp = param_has m accepted g (numbered m.types x) named 0 p.0 p.1 in
      let none : fails is_pointer (resolved m.types p.0.ty) ≡ false = ap (λ (u : Ty). fails is_pointer (resolved m.types u)) type ∙ not_true (fails is_pointer (resolved m.types q.0.ty)) q.2 in
      let pointer : resolved m.types p.0.ty ≡ Some PointerType = rp.1 ∙ ap (λ (y : ResolvedType). Some y) (pointer_is rp.0 (passes_from is_pointer (resolved m.types p.0.ty) rp.0 none rp.1)) in
      subst BeginsThread (sym (function_there m g (numbered m.types x) named))
      (count, param_at_number m accepted g (numbered m.types x) named 0 p.0 p.1 ∙ ap scalar_in pointer, ap (λ (u : Ty). scalar_in (resolved m.types u)) (result_kept x) ∙ ap scalar_in result)

  thread_symbol : (n : Name) (y : Symbol) → symbol m n.text ≡ y → ◌≡◌ {A = List Span} (cond (is_thread_header m.types (header_of y)) [] (n.span ∷ [])) []
      → unsupported_thread_symbol y n.span ≡ [] → unknown_symbol y n.span ≡ [] → StartsThread (program_of m) (symbol_value y)
  thread_symbol n (DefinitionOf g x) e w u k = thread_header g x (definition_there m n.text g x e) (else_none (is_thread_header m.types (Some (definition_header x))) n.span w)
  thread_symbol n (VariableOf i v) e w u k = absurd cc
  thread_symbol n (DeclarationOf x) e w u k = absurd cc
  thread_symbol n NoSymbol e w u k = absurd cc

  thread_fits : (t : Option ResolvedType) (v : Val) → wrong_thread (scope_of m d) v ≡ [] → unsupported_thread (scope_of m d) v ≡ [] → unknown_value (scope_of m d) v ≡ []
      → StartsThread (program_of m) (value_of (scope_of m d) t v)
  unfolding value_of
  thread_fits t (Global n) w u k = thread_symbol n (symbol m n.text) refl w u k
  thread_fits t (Local n) w u k =
      absurd (true≢false (sym (else_none (is_some (register_named (registers_of m.types d) n.text)) n.span k) ∙ then_none (is_some (register_named (registers_of m.types d) n.text)) n.span u))
  thread_fits t (Int n) w u k = absurd cc
  thread_fits t (True s) w u k = absurd cc
  thread_fits t (False s) w u k = absurd cc
  thread_fits t (Null s) w u k = absurd cc
  thread_fits t (Undef s) w u k = absurd cc
  thread_fits t (Poison s) w u k = absurd cc
  thread_fits t (ZeroInitializer s) w u k = absurd cc
  thread_fits t (GepVal s x y p is) w u k = absurd cc
  thread_fits t (IntToPtrVal s x n y) w u k = absurd cc

  -- ---- a function that is known

  create_row : (s : Span) (t : Ty) (w : Option Written) (n : Name) (all : List Typed) (p : Passes m d (Call s t w n all)) (callable : is_callable (symbol m n.text) ≡ true)
      → is_create (scope_of m d) n ≡ true → length all ≡ 4
      → ((k : ℕ) (x : Scalar) → slice_get (parameters_of known.PthreadCreate) k ≡ Some x
      → (u : Ty) × (slice_get (callee_params (symbol m n.text)) k ≡ Some u) × (scalar_in (resolved m.types u) ≡ Some x))
      → FitCreate (program_of m) (scalars_of m d) (map (typed_value (scope_of m d)) all)
  create_row s t w n (a ∷ b ∷ c ∷ e ∷ []) p callable create l h =
      let all : List Typed = a ∷ b ∷ c ∷ e ∷ [] in
      let o : Op = Call s t w n all in
      let at : value_operands (scope_of m d) o ≡ typed_operand a ∷ typed_operand b ∷ typed_operand e ∷ [] =
      ap (λ (q : Bool). cond q (map typed_operand (take 2 all ++ drop 3 all)) (map typed_operand all)) create in
      let threads : thread_functions (scope_of m d) o ≡ c.value ∷ [] = ap (λ (q : Bool). cond q (map (λ (x : Typed). x.value) (take 1 (drop 2 all))) []) create in
      let third : slice_get (thread_functions (scope_of m d) o) 0 ≡ Some c.value = ap (λ (vs : List Val). slice_get vs 0) threads in
      let u0 = h 0 scalar.Ptr refl in
      let u1 = h 1 scalar.Ptr refl in
      let u3 = h 3 scalar.Ptr refl in (
        operand_fits m accepted f d there o p 0 a.ty a.value (ap (λ us. slice_get us 0) at) scalar.Ptr
            (ap scalar_in (argument_as s t w n all p callable 0 u0.0 a u0.1 refl (type_of_scalar (resolved m.types u0.0) scalar.Ptr u0.2)) ∙ u0.2),
        operand_fits m accepted f d there o p 1 b.ty b.value (ap (λ us. slice_get us 1) at) scalar.Ptr
            (ap scalar_in (argument_as s t w n all p callable 1 u1.0 b u1.1 refl (type_of_scalar (resolved m.types u1.0) scalar.Ptr u1.2)) ∙ u1.2),
        thread_fits (resolved m.types c.ty) c.value (p.threads 0 c.value third) (p.supported_threads 0 c.value third) (p.known_threads 0 c.value third),
        operand_fits m accepted f d there o p 2 e.ty e.value (ap (λ us. slice_get us 2) at) scalar.Ptr
            (ap scalar_in (argument_as s t w n all p callable 3 u3.0 e u3.1 refl (type_of_scalar (resolved m.types u3.0) scalar.Ptr u3.2)) ∙ u3.2),
      )
  create_row s t w n [] p callable create l h = absurd (omega (arith, l))
  create_row s t w n (a ∷ []) p callable create l h = absurd (omega (arith, l))
  create_row s t w n (a ∷ b ∷ []) p callable create l h = absurd (omega (arith, l))
  create_row s t w n (a ∷ b ∷ c ∷ []) p callable create l h = absurd (omega (arith, l))
  create_row s t w n (a ∷ b ∷ c ∷ e ∷ g ∷ gs) p callable create l h = absurd (omega (arith, l))

  known_row : (s : Span) (t : Ty) (w : Option Written) (n : Name) (all : List Typed) → Passes m d (Call s t w n all) → (c : CallsLibrary m (symbol m n.text)) → (result : Option Scalar)
      → result ≡ scalar_in (resolved m.types t) → FitsOp (program_of m) (scalars_of m d) (scalar_in (resolved m.types d.result)) result
      (call_of (symbol m n.text) (map (typed_value (scope_of m d)) all))
  unfolding op_types
  known_row s t w n all p c result r =
      let x = c.declaration in
      let k = c.known in
      let at = declaration_there m n.text x c.is in
      let header = front_none (wrong_header m.types (header_of (symbol m n.text)) t w) _ p.call in
      let types = declared_agrees m accepted at.0 x c.known t w at.1 c.name_is (subst (λ (y : Symbol). wrong_header m.types (header_of y) t w ≡ []) c.is header) (p.types 0 t refl) in
      let returned : result ≡ returned_by k = r ∙ ap scalar_in types ∙ result_is (returned_by k) (resolved m.types x.result) (known_result m accepted at.0 x k at.1 c.name_is) in
      let callable : is_callable (symbol m n.text) ≡ true = ap (λ (y : Symbol). is_callable y) c.is ∙ ap (λ (o : Option LibraryCall). is_some o) c.name_is in
      let created : is_create (scope_of m d) n ≡ is_create_known (Some k) = ap (λ (y : Symbol). is_create_known (known_of y)) c.is ∙ ap (λ (o : Option LibraryCall). is_create_known o) c.name_is in
      let params : callee_params (symbol m n.text) ≡ param_types (declaration_header x) = ap (λ (y : Symbol). callee_params y) c.is in
      let are = known_params m accepted at.0 x k at.1 c.name_is in
      let count = arguments_count s t w n all p callable in
      let args = map (typed_value (scope_of m d)) all in
      let lengths : length (parameters_of k) ≡ length args =
      omega (arith, known_length m.types (parameters_of k) x.params are, count, ap (λ (xs : List Ty). length xs) params, map_count (typed_value (scope_of m d)) all) in
      let parameter = λ (i : ℕ) (y : Scalar) (h : slice_get (parameters_of k) i ≡ Some y). known_at m.types (parameters_of k) x.params i y are h in
      let fit : FitLibraryCall (program_of m) (scalars_of m d) k args =
      library_fits (program_of m) (scalars_of m d) k args
      (λ none. have_types (program_of m) (scalars_of m d) (parameters_of k) args lengths
      (λ (i : ℕ) (y : Scalar) (v : Value) a b.
      let u = parameter i y a in
      let arg = map_from (typed_value (scope_of m d)) all i v b in
      subst (HasType (program_of m) (scalars_of m d) y) (sym arg.2)
      (argument_fits s t w n all p callable (created ∙ none) i u.0 arg.0 y (ap (λ (xs : List Ty). slice_get xs i) params ∙ u.1) arg.1 u.2)))
      (λ is. create_row s t w n all p callable (created ∙ ap (λ (q : LibraryCall). is_create_known (Some q)) is)
      (sym (map_count (typed_value (scope_of m d)) all) ∙ sym lengths ∙ ap (λ (q : LibraryCall). length (parameters_of q)) is)
      (λ (i : ℕ) (y : Scalar) h.
      let u = parameter i y (ap (λ (q : LibraryCall). slice_get (parameters_of q) i) is ∙ h) in
      (u.0, ap (λ (xs : List Ty). slice_get xs i) params ∙ u.1, u.2))) in
      subst (λ (y : Symbol). FitsOp (program_of m) (scalars_of m d) (scalar_in (resolved m.types d.result)) result (call_of y args)) (sym c.is)
      (subst (λ (o : Option LibraryCall). FitsOp (program_of m) (scalars_of m d) (scalar_in (resolved m.types d.result)) result (library_call o args)) (sym c.name_is) (returned, fit))

  -- ---- calls

  pub call_fits : (s : Span) (t : Ty) (w : Option Written) (n : Name) (all : List Typed) → Passes m d (Call s t w n all) → (result : Option Scalar)
      → (gives m.types (Call s t w n all) ≡ true → result ≡ scalar_in (result_type m.types (Call s t w n all))) → (gives m.types (Call s t w n all) ≡ false → result ≡ None)
      → FitsOp (program_of m) (scalars_of m d) (scalar_in (resolved m.types d.result)) result (op_at (scope_of m d) (first_block m.functions f) (Call s t w n all))
  unfolding gives op_at
  call_fits s t w n all p result given nothing = by (callee_of m d s t w n all p)
    where
      by : CallsDefined m (symbol m n.text) ⊎ CallsLibrary m (symbol m n.text)
          → FitsOp (program_of m) (scalars_of m d) (scalar_in (resolved m.types d.result)) result (call_of (symbol m n.text) (map (typed_value (scope_of m d)) all))
      by (inl c) = defined_row s t w n all p c result (result_given t result given nothing)
      by (inr c) = known_row s t w n all p c result (result_given t result given nothing)
