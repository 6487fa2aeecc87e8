-- The operands of an operation of an accepted tree have their types.
use Rattle.std.proofs.Common.{◌≡◌, ℕ, zero, suc, ◌+◌, List, [], ◌∷◌, length, true, false, refl, sym, ap, ◌∙◌, subst, arith}
use Rattle.std.specs.Prelude.{slice_get, Option, Some, None, unwrap_or, is_some}
use Rattle.std.specs.List.{flat_map}
use Rattle.std.proofs.lemmas.Option.{slice_get_within, same_Some}
use Rattle.pg_read_lex.specs.declared.token.Span.{Span}
use Rattle.pg_ir.specs.declared.value.Scalar.{Scalar}
use Rattle.pg_ir.specs.declared.value.Scalar.TheVariants as scalar
use Rattle.pg_ir.specs.declared.value.Value.TheVariants as value
use Rattle.pg_ir.specs.WellFormed.{HasType}
use Rattle.pg_read_ast.specs.declared.names.Name.{Name}
use Rattle.pg_read_ast.specs.Syntax.{Ty, Val, Int, True, False, Null, Undef, Poison, ZeroInitializer, Local, Global, GepVal, IntToPtrVal, Op, Definition, Tree}
use Rattle.pg_check_types.specs.Resolved.{ResolvedType, PointerType, VoidType, resolved, is_pointer}
use Rattle.pg_check_rules.specs.Names.{Register, Symbol, VariableOf, DefinitionOf, DeclarationOf, NoSymbol, symbol, registers_of, register_named, register_number}
use Rattle.pg_check_rules.specs.Places.{val_span}
use Rattle.pg_check_rules.specs.Written.{Use, with_inner}
use Rattle.pg_check_rules.specs.ValueConditions.{unknown_symbol, function_symbol, unknown_value, function_value, wrong_register, wrong_symbol, is_wrong, wrong_use}
use Rattle.pg_check_rules.specs.CallConditions.{value_operands}
use Rattle.pg_check_rules.specs.Conditions.{scope_of, IsUnrefused}
use Rattle.pg_check_rules.specs.Numbered.{scalar_in, symbol_value, value_of, named_functions, program_of}
use Rattle.pg_law_numbering.proofs.FlattenedLists.{behind_get}
use Rattle.pg_law_numbering.proofs.UnrefusedParts.{front_none, else_none, then_none}
use Rattle.pg_law_numbering.proofs.Scalars.{passes_from, pointer_is, same_from}
use Rattle.pg_law_numbering.proofs.GlobalSymbols.{variable_there}
use Rattle.pg_law_numbering.proofs.Globals.{globals_count}
use Rattle.pg_law_numbering.proofs.ConstantWidths.{constant_fits}
use Rattle.pg_law_numbering.proofs.LineOperations.{Passes}
use Rattle.pg_law_numbering.proofs.Registers.{scalars_of, looked_up}

-- a type that is a scalar is one
pub type_of_scalar : (o : Option ResolvedType) (s : Scalar) → scalar_in o ≡ Some s → (r : ResolvedType) × (o ≡ Some r)
type_of_scalar None s e = absurd cc
type_of_scalar (Some r) s e = (r, refl)

-- what stands before the parts of an element stands in the list of all parts
own_place : (us : List Use) (i : ℕ) (u : Use) → slice_get us i ≡ Some u → (k : ℕ) × (slice_get (flat_map with_inner us) k ≡ Some u)
own_place [] i u e = absurd cc
own_place (v ∷ vs) zero u e = (0, e)
own_place (v ∷ vs) (suc i) u e =
    let r = own_place vs i u e in
    (length (with_inner v) + r.0, behind_get (with_inner v) (flat_map with_inner vs) r.0 ∙ r.1)

module _ (m : Tree) (accepted : IsUnrefused m) (f : ℕ) (d : Definition) (there : slice_get (named_functions m) f ≡ Some d) where
  -- a register
  local_fits : (t : Option ResolvedType) (s : Scalar) (n : Name) → scalar_in t ≡ Some s → (o : Option Register) → register_named (registers_of m.types d) n.text ≡ o
      → wrong_register false t o ≡ false → is_some o ≡ true → HasType (program_of m) (scalars_of m d) s (value.Register (unwrap_or (register_number (registers_of m.types d) n.text) 0))
  local_fits t s n e None h w u = absurd cc
  local_fits t s n e (Some r) h w u =
      let k = looked_up m accepted f d there n.text r h in
      let a = type_of_scalar t s e in
      let b = type_of_scalar r.ty k.scalar k.type_is in
      let same : t ≡ r.ty = same_from r.ty t b.0 a.0 b.1 a.1 w in
      let scalars : k.scalar ≡ s = same_Some k.scalar s (sym k.type_is ∙ sym (ap scalar_in same) ∙ e) in
      let number : unwrap_or (register_number (registers_of m.types d) n.text) 0 ≡ k.number = ap (λ (o : Option ℕ). unwrap_or o 0) k.is in
      ap (slice_get (scalars_of m d)) number ∙ k.there ∙ ap (λ (q : Scalar). Some q) scalars

  -- a global
  global_fits : (t : Option ResolvedType) (s : Scalar) (n : Name) → scalar_in t ≡ Some s → (y : Symbol) → symbol m n.text ≡ y → wrong_symbol t y ≡ false
      → unknown_symbol y n.span ≡ [] → function_symbol y n.span ≡ [] → HasType (program_of m) (scalars_of m d) s (symbol_value y)
  global_fits t s n e (VariableOf i v) h w u k =
      let a = type_of_scalar t s e in
      let p : t ≡ Some PointerType = a.1 ∙ ap (λ (q : ResolvedType). Some q) (pointer_is a.0 (passes_from is_pointer t a.0 w a.1)) in
      (same_Some s scalar.Ptr (sym e ∙ ap scalar_in p), omega (arith, globals_count m accepted, slice_get_within m.globals i v (variable_there m n.text i v h)))
  global_fits t s n e (DefinitionOf g x) h w u k = absurd cc
  global_fits t s n e (DeclarationOf x) h w u k = absurd cc
  global_fits t s n e NoSymbol h w u k = absurd cc

  -- a value that isn't refused at its type
  pub value_fits : (t : Option ResolvedType) (s : Scalar) (v : Val) → scalar_in t ≡ Some s → is_wrong (scope_of m d) false t v ≡ false → unknown_value (scope_of m d) v ≡ []
      → function_value (scope_of m d) v ≡ [] → HasType (program_of m) (scalars_of m d) s (value_of (scope_of m d) t v)
  unfolding value_of
  value_fits t s (Local n) e w u k = local_fits t s n e (register_named (registers_of m.types d) n.text) refl w (else_none (is_some (register_named (registers_of m.types d) n.text)) n.span u)
  value_fits t s (Global n) e w u k = global_fits t s n e (symbol m n.text) refl w u k
  value_fits t s (Int n) e w u k = constant_fits m accepted t s (Int n) e
  value_fits t s (True x) e w u k = constant_fits m accepted t s (True x) e
  value_fits t s (False x) e w u k = constant_fits m accepted t s (False x) e
  value_fits t s (Null x) e w u k = constant_fits m accepted t s (Null x) e
  value_fits t s (Undef x) e w u k = constant_fits m accepted t s (Undef x) e
  value_fits t s (Poison x) e w u k = constant_fits m accepted t s (Poison x) e
  value_fits t s (ZeroInitializer x) e w u k = constant_fits m accepted t s (ZeroInitializer x) e
  value_fits t s (GepVal x y z p is) e w u k = constant_fits m accepted t s (GepVal x y z p is) e
  value_fits t s (IntToPtrVal x y n z) e w u k = constant_fits m accepted t s (IntToPtrVal x y n z) e

  right_use : (u : Use) → wrong_use (scope_of m d) u ≡ [] → is_wrong (scope_of m d) u.constant (resolved m.types u.ty) u.value ≡ false
  unfolding wrong_use
  right_use u e = then_none (is_wrong (scope_of m d) u.constant (resolved m.types u.ty) u.value) (val_span u.value) (front_none _ _ e)

  -- no register has a type without a value
  no_void_register : (n : Name) (o : Option Register) → register_named (registers_of m.types d) n.text ≡ o → wrong_register false (Some VoidType) o ≡ false → is_some o ≡ true → ⊥
  no_void_register n None h w u = cc
  no_void_register n (Some r) h w u =
      let k = looked_up m accepted f d there n.text r h in
      let a = type_of_scalar r.ty k.scalar k.type_is in
      let same : Some VoidType ≡ r.ty = same_from r.ty (Some VoidType) a.0 VoidType a.1 refl w in
      let none : None ≡ Some k.scalar = ap scalar_in same ∙ k.type_is in
      cc

  no_void_symbol : (y : Symbol) (s : Span) → wrong_symbol (Some VoidType) y ≡ false → unknown_symbol y s ≡ [] → ⊥
  no_void_symbol (VariableOf i v) s w u = cc
  no_void_symbol (DefinitionOf g x) s w u = cc
  no_void_symbol (DeclarationOf x) s w u = cc
  no_void_symbol NoSymbol s w u = cc

  -- no value fits where there is none
  no_void_value : (v : Val) → is_wrong (scope_of m d) false (Some VoidType) v ≡ false → unknown_value (scope_of m d) v ≡ [] → ⊥
  no_void_value (Local n) w u = no_void_register n (register_named (registers_of m.types d) n.text) refl w (else_none (is_some (register_named (registers_of m.types d) n.text)) n.span u)
  no_void_value (Global n) w u = no_void_symbol (symbol m n.text) n.span w u
  no_void_value (Int n) w u = cc
  no_void_value (True x) w u = cc
  no_void_value (False x) w u = cc
  no_void_value (Null x) w u = cc
  no_void_value (Undef x) w u = cc
  no_void_value (Poison x) w u = cc
  no_void_value (ZeroInitializer x) w u = cc
  no_void_value (GepVal x y z p is) w u = cc
  no_void_value (IntToPtrVal x y n z) w u = cc

  pub no_void_operand : (o : Op) → Passes m d o → (i : ℕ) (t : Ty) (v : Val) → slice_get (value_operands (scope_of m d) o) i ≡ Some (record { constant = false; ty = t; value = v })
      → resolved m.types t ≡ Some VoidType → ⊥
  no_void_operand o p i t v e h =
      let u : Use = record { constant = false; ty = t; value = v } in
      let k = own_place (value_operands (scope_of m d) o) i u e in
      no_void_value v (subst (λ (q : Option ResolvedType). is_wrong (scope_of m d) false q v ≡ false) h (right_use u (p.uses k.0 u k.1))) (p.values k.0 u k.1)

  -- an operand of an operation
  pub operand_fits : (o : Op) → Passes m d o → (i : ℕ) (t : Ty) (v : Val) → slice_get (value_operands (scope_of m d) o) i ≡ Some (record { constant = false; ty = t; value = v })
      → (s : Scalar) → scalar_in (resolved m.types t) ≡ Some s → HasType (program_of m) (scalars_of m d) s (value_of (scope_of m d) (resolved m.types t) v)
  operand_fits o p i t v e s h =
      let u : Use = record { constant = false; ty = t; value = v } in
      let k = own_place (value_operands (scope_of m d) o) i u e in
      value_fits (resolved m.types t) s v h (right_use u (p.uses k.0 u k.1)) (p.values k.0 u k.1) (p.no_functions k.0 u k.1)
