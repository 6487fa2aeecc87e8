-- Each result of an instruction of an accepted tree is a scalar.
use Rattle.std.proofs.Common.{◌≡◌, [], true, false, not, refl, sym, ap, ◌∙◌, subst, ◌⊎◌, inl, inr, true≢false}
use Rattle.std.specs.Prelude.{Option, Some, None}
use Rattle.pg_ir.specs.declared.value.Scalar.{Scalar}
use Rattle.pg_ir.specs.declared.value.Scalar.TheVariants as scalar
use Rattle.pg_num.specs.declared.width.Width.TheVariants.{W1}
use Rattle.pg_ir.specs.Signatures.{returned_by}
use Rattle.pg_read_ast.specs.declared.names.Name.{Name}
use Rattle.pg_read_ast.specs.declared.ops.CastOp.{CastOp}
use Rattle.pg_read_ast.specs.declared.ops.CastOp.TheVariants.{Trunc, Zext, Sext, PtrToInt, IntToPtr}
use Rattle.pg_read_ast.specs.Syntax.{Ty, Written, Op, Binary, Icmp, Cast, Select, Phi, Br, CondBr, Switch, Call, RetVoid, Ret, Unreachable, Alloca, Load, Store, GetElementPtr, Definition, Tree}
use Rattle.pg_read_ast.specs.Numbers.{is_void, gives, numbered}
use Rattle.pg_check_types.specs.Resolved.{ResolvedType, IntegerType, PointerType, VoidType, ArrayType, NoFields, MoreFields, resolved, is_integer, is_scalar, is_void_type}
use Rattle.pg_check_rules.specs.Names.{Symbol, symbol, result_type}
use Rattle.pg_check_rules.specs.Written.{asks, asks_typed, is_narrower, is_wider, cast_to, op_types, op_demands}
use Rattle.pg_check_rules.specs.CallConditions.{header_of, variable_symbol, wrong_header}
use Rattle.pg_check_rules.specs.Conditions.{is_result, IsUnrefused}
use Rattle.pg_check_rules.specs.Numbered.{scalar_in}
use Rattle.pg_law_numbering.proofs.UnrefusedParts.{front_none, behind_none}
use Rattle.pg_law_numbering.proofs.ResolvedTypes.{Has}
use Rattle.pg_check_types.proofs.Voids.{resolved_void}
use Rattle.pg_law_numbering.proofs.Scalars.{IsScalarOf, scalar_from, integer_scalar, pointer_scalar, returnable_or, result_is}
use Rattle.pg_law_numbering.proofs.GlobalSymbols.{definition_there, declaration_there}
use Rattle.pg_law_numbering.proofs.Headers.{named_there, result_returnable}
use Rattle.pg_law_numbering.proofs.Callees.{CallsDefined, CallsLibrary, callee_is, defined_agrees, declared_agrees, known_result}
use Rattle.pg_law_numbering.proofs.LineOperations.{Passes}
use Rattle.pg_law_numbering.proofs.ChoiceTests.{not_true}

narrower_integer : (from : Option ResolvedType) (r : ResolvedType) → is_narrower from r ≡ true → is_integer r ≡ true
narrower_integer None r e = e
narrower_integer (Some (IntegerType v)) (IntegerType w) e = refl
narrower_integer (Some (IntegerType v)) PointerType e = absurd cc
narrower_integer (Some (IntegerType v)) VoidType e = absurd cc
narrower_integer (Some (IntegerType v)) (ArrayType n t) e = absurd cc
narrower_integer (Some (IntegerType v)) NoFields e = absurd cc
narrower_integer (Some (IntegerType v)) (MoreFields s t) e = absurd cc
narrower_integer (Some PointerType) r e = e
narrower_integer (Some VoidType) r e = e
narrower_integer (Some (ArrayType n t)) r e = e
narrower_integer (Some NoFields) r e = e
narrower_integer (Some (MoreFields s t)) r e = e

wider_integer : (from : Option ResolvedType) (r : ResolvedType) → is_wider from r ≡ true → is_integer r ≡ true
wider_integer None r e = e
wider_integer (Some (IntegerType v)) (IntegerType w) e = refl
wider_integer (Some (IntegerType v)) PointerType e = absurd cc
wider_integer (Some (IntegerType v)) VoidType e = absurd cc
wider_integer (Some (IntegerType v)) (ArrayType n t) e = absurd cc
wider_integer (Some (IntegerType v)) NoFields e = absurd cc
wider_integer (Some (IntegerType v)) (MoreFields s t) e = absurd cc
wider_integer (Some PointerType) r e = e
wider_integer (Some VoidType) r e = e
wider_integer (Some (ArrayType n t)) r e = e
wider_integer (Some NoFields) r e = e
wider_integer (Some (MoreFields s t)) r e = e

pub cast_scalar : (o : CastOp) (from : Option ResolvedType) (r : ResolvedType) → cast_to o from r ≡ true → is_scalar r ≡ true
cast_scalar Trunc from r e = integer_scalar r (narrower_integer from r e)
cast_scalar Zext from r e = integer_scalar r (wider_integer from r e)
cast_scalar Sext from r e = integer_scalar r (wider_integer from r e)
cast_scalar PtrToInt from r e = integer_scalar r e
cast_scalar IntToPtr from r e = pointer_scalar r e

-- what is no result is void
pub result_void : (o : Option ResolvedType) → is_result None o ≡ true → o ≡ Some VoidType
result_void (Some VoidType) e = refl
result_void None e = absurd cc
result_void (Some (IntegerType w)) e = absurd cc
result_void (Some PointerType) e = absurd cc
result_void (Some (ArrayType n t)) e = absurd cc
result_void (Some NoFields) e = absurd cc
result_void (Some (MoreFields s t)) e = absurd cc

module _ (m : Tree) (accepted : IsUnrefused m) where
  -- a type that has a value isn't void
  solid : (t : Ty) → not (is_void m.types t) ≡ true → (r : ResolvedType) → resolved m.types t ≡ Some r → is_void_type r ≡ false
  solid t g (IntegerType w) e = refl
  solid t g PointerType e = refl
  solid t g (ArrayType n u) e = refl
  solid t g NoFields e = refl
  solid t g (MoreFields s u) e = refl
  solid t g VoidType e = absurd (true≢false (sym (resolved_void m.types t e) ∙ not_true (is_void m.types t) g))

  known_scalar : (t : Ty) → not (is_void m.types t) ≡ true → (k : Option Scalar) (o : Option ResolvedType) → resolved m.types t ≡ o → is_result k o ≡ true
      → IsScalarOf (resolved m.types t)
  known_scalar t g None o e h = absurd (true≢false (sym (resolved_void m.types t (e ∙ result_void o h)) ∙ not_true (is_void m.types t) g))
  known_scalar t g (Some s) o e h = record { scalar = s; is = ap scalar_in e ∙ result_is (Some s) o h }

  called_scalar : (t : Ty) (w : Option Written) (f : Name) → not (is_void m.types t) ≡ true → Has (resolved m.types t) → wrong_header m.types (header_of (symbol m f.text)) t w ≡ []
      → CallsDefined m (symbol m f.text) ⊎ CallsLibrary m (symbol m f.text) → IsScalarOf (resolved m.types t)
  unfolding numbered
  called_scalar t w f g r h (inl c) =
      let there = definition_there m f.text c.function c.definition c.is in
      let e = defined_agrees m accepted c.function c.definition t w there (subst (λ (s : Symbol). wrong_header m.types (header_of s) t w ≡ []) c.is h) r in
      let v = result_returnable m accepted c.function (numbered m.types c.definition) (named_there m c.function c.definition there) r.0 (sym e ∙ r.1) in
      scalar_from (resolved m.types t) r.0 r.1 (returnable_or r.0 v (solid t g r.0 r.1))
  called_scalar t w f g r h (inr c) =
      let there = declaration_there m f.text c.declaration c.is in
      let e = declared_agrees m accepted there.0 c.declaration c.known t w there.1 c.name_is (subst (λ (s : Symbol). wrong_header m.types (header_of s) t w ≡ []) c.is h) r in
      known_scalar t g (returned_by c.known) (resolved m.types c.declaration.result) e (known_result m accepted there.0 c.declaration c.known there.1 c.name_is)

  pub result_scalar : (d : Definition) (o : Op) → Passes m d o → gives m.types o ≡ true → IsScalarOf (result_type m.types o)
  unfolding gives op_types op_demands
  result_scalar d (Binary s o t a b) p g = let r = p.types 0 t refl in scalar_from (resolved m.types t) r.0 r.1 (integer_scalar r.0 (p.demands 0 (asks is_integer t) refl r.0 r.1))
  result_scalar d (Icmp s o t a b) p g = record { scalar = scalar.Int W1; is = refl }
  result_scalar d (Cast s o v t) p g = let r = p.types 1 t refl in scalar_from (resolved m.types t) r.0 r.1
      (cast_scalar o (resolved m.types v.ty) r.0 (p.demands 1 (asks (cast_to o (resolved m.types v.ty)) t) refl r.0 r.1))
  result_scalar d (Select s c a b) p g = let r = p.types 1 a.ty refl in scalar_from (resolved m.types a.ty) r.0 r.1 (p.demands 1 (asks_typed is_scalar a) refl r.0 r.1)
  result_scalar d (Phi s t i all) p g = let r = p.types 0 t refl in scalar_from (resolved m.types t) r.0 r.1 (p.demands 0 (asks is_scalar t) refl r.0 r.1)
  result_scalar d (Br s b) p g = absurd cc
  result_scalar d (CondBr s c a b) p g = absurd cc
  result_scalar d (Switch s v b all) p g = absurd cc
  result_scalar d (Call s t w f all) p g =
      called_scalar t w f g (p.types 0 t refl) (front_none (wrong_header m.types (header_of (symbol m f.text)) t w) _ p.call)
      (callee_is m (symbol m f.text) f.span p.callee (front_none (variable_symbol (symbol m f.text) f.span) _ (behind_none (wrong_header m.types (header_of (symbol m f.text)) t w) _ p.call))
      p.supported)
  result_scalar d (RetVoid s v) p g = absurd cc
  result_scalar d (Ret s v) p g = absurd cc
  result_scalar d (Unreachable s) p g = absurd cc
  result_scalar d (Alloca s t n) p g = record { scalar = scalar.Ptr; is = refl }
  result_scalar d (Load s t v) p g = let r = p.types 0 t refl in scalar_from (resolved m.types t) r.0 r.1 (p.demands 0 (asks is_scalar t) refl r.0 r.1)
  result_scalar d (Store s v at) p g = absurd cc
  result_scalar d (GetElementPtr s t v all) p g = record { scalar = scalar.Ptr; is = refl }
