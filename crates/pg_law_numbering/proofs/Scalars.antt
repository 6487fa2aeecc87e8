-- The scalars that types are.
use Rattle.std.proofs.Common.{◌≡◌, ℕ, suc, List, [], ◌∷◌, Bool, true, false, not, refl, sym, ap, ◌∙◌, subst}
use Rattle.std.specs.Prelude.{slice_get, Option, Some, None, is_some}
use Rattle.std.specs.List.{list_all}
use Rattle.std.proofs.lemmas.Bool.{and_from}
use Rattle.pg_num.specs.declared.width.Width.{Width}
use Rattle.pg_ir.specs.declared.value.Scalar.{Scalar}
use Rattle.pg_ir.specs.declared.value.Scalar.TheVariants as scalar
use Rattle.pg_read_ast.specs.Syntax.{Ty, NamedType}
use Rattle.pg_check_types.specs.Resolved.{ResolvedType, IntegerType, PointerType, VoidType, ArrayType, NoFields, MoreFields, resolved, is_integer, is_pointer, is_scalar, is_void_type}
use Rattle.pg_check_rules.specs.CallConditions.{agree, is_resolved}
use Rattle.pg_check_rules.specs.Written.{is_returnable}
use Rattle.pg_check_rules.specs.Conditions.{is_scalar_type, is_result}
use Rattle.pg_check_rules.specs.Numbered.{scalar_in}
use Rattle.pg_check_types.specs.Kinds.{is_as, fails}
use Rattle.pg_check_types.proofs.SameTypes.{same_type_true, same_width_true}
use Rattle.pg_law_numbering.proofs.ResolvedTypes.{Has}
use Rattle.pg_law_numbering.proofs.ChoiceTests.{not_false}

-- a type that is a scalar
pub record IsScalarOf (o : Option ResolvedType) : Type 0 where
  pub scalar : Scalar
  pub is : scalar_in o ≡ Some scalar

pub scalar_from : (o : Option ResolvedType) (r : ResolvedType) → o ≡ Some r → is_scalar r ≡ true → IsScalarOf o
scalar_from o (IntegerType w) e h = record { scalar = scalar.Int w; is = ap scalar_in e }
scalar_from o PointerType e h = record { scalar = scalar.Ptr; is = ap scalar_in e }
scalar_from o VoidType e h = absurd cc
scalar_from o (ArrayType n t) e h = absurd cc
scalar_from o NoFields e h = absurd cc
scalar_from o (MoreFields s t) e h = absurd cc

pub integer_is : (r : ResolvedType) → is_integer r ≡ true → (w : Width) × (r ≡ IntegerType w)
integer_is (IntegerType w) h = (w, refl)
integer_is PointerType h = absurd cc
integer_is VoidType h = absurd cc
integer_is (ArrayType n t) h = absurd cc
integer_is NoFields h = absurd cc
integer_is (MoreFields s t) h = absurd cc

pub integer_scalar : (r : ResolvedType) → is_integer r ≡ true → is_scalar r ≡ true
integer_scalar r h = let w = integer_is r h in ap (λ (q : ResolvedType). is_scalar q) w.1

pub pointer_is : (r : ResolvedType) → is_pointer r ≡ true → r ≡ PointerType
pointer_is PointerType h = refl
pointer_is (IntegerType w) h = absurd cc
pointer_is VoidType h = absurd cc
pointer_is (ArrayType n t) h = absurd cc
pointer_is NoFields h = absurd cc
pointer_is (MoreFields s t) h = absurd cc

pub pointer_scalar : (r : ResolvedType) → is_pointer r ≡ true → is_scalar r ≡ true
pointer_scalar r h = ap (λ (q : ResolvedType). is_scalar q) (pointer_is r h)

pub void_type_is : (r : ResolvedType) → is_void_type r ≡ true → r ≡ VoidType
void_type_is VoidType h = refl
void_type_is (IntegerType w) h = absurd cc
void_type_is PointerType h = absurd cc
void_type_is (ArrayType n t) h = absurd cc
void_type_is NoFields h = absurd cc
void_type_is (MoreFields s t) h = absurd cc

-- a type of which a scalar is asked is that scalar
pub scalar_type_is : (s : Scalar) (o : Option ResolvedType) → is_scalar_type s o ≡ true → scalar_in o ≡ Some s
scalar_type_is (scalar.Int w) (Some (IntegerType v)) h = ap (λ (q : Width). Some (scalar.Int q)) (sym (same_width_true w v h))
scalar_type_is scalar.Ptr (Some PointerType) h = refl
scalar_type_is (scalar.Int w) None h = absurd cc
scalar_type_is (scalar.Int w) (Some PointerType) h = absurd cc
scalar_type_is (scalar.Int w) (Some VoidType) h = absurd cc
scalar_type_is (scalar.Int w) (Some (ArrayType n t)) h = absurd cc
scalar_type_is (scalar.Int w) (Some NoFields) h = absurd cc
scalar_type_is (scalar.Int w) (Some (MoreFields s t)) h = absurd cc
scalar_type_is scalar.Ptr None h = absurd cc
scalar_type_is scalar.Ptr (Some (IntegerType v)) h = absurd cc
scalar_type_is scalar.Ptr (Some VoidType) h = absurd cc
scalar_type_is scalar.Ptr (Some (ArrayType n t)) h = absurd cc
scalar_type_is scalar.Ptr (Some NoFields) h = absurd cc
scalar_type_is scalar.Ptr (Some (MoreFields s t)) h = absurd cc

pub result_is : (r : Option Scalar) (o : Option ResolvedType) → is_result r o ≡ true → scalar_in o ≡ r
result_is (Some s) o h = scalar_type_is s o h
result_is None (Some VoidType) h = refl
result_is None None h = absurd cc
result_is None (Some (IntegerType w)) h = absurd cc
result_is None (Some PointerType) h = absurd cc
result_is None (Some (ArrayType n t)) h = absurd cc
result_is None (Some NoFields) h = absurd cc
result_is None (Some (MoreFields s t)) h = absurd cc

-- a type that is a function's result is one
pub result_there : (s : Option Scalar) (o : Option ResolvedType) → is_result s o ≡ true → Has o
result_there s (Some t) h = (t, refl)
result_there None None h = absurd cc
result_there (Some (scalar.Int w)) None h = absurd cc
result_there (Some scalar.Ptr) None h = absurd cc

pub isnt_void_type : (t : ResolvedType) → (t ≡ VoidType → ⊥) → is_void_type t ≡ false
isnt_void_type (IntegerType w) h = refl
isnt_void_type PointerType h = refl
isnt_void_type VoidType h = absurd (h refl)
isnt_void_type (ArrayType n t) h = refl
isnt_void_type NoFields h = refl
isnt_void_type (MoreFields s t) h = refl

-- a result is a scalar, or there is none
pub returnable_or : (r : ResolvedType) → is_returnable r ≡ true → is_void_type r ≡ false → is_scalar r ≡ true
returnable_or (IntegerType w) h v = refl
returnable_or PointerType h v = refl
returnable_or VoidType h v = absurd cc
returnable_or (ArrayType n t) h v = absurd cc
returnable_or NoFields h v = absurd cc
returnable_or (MoreFields s t) h v = absurd cc

-- ---- tests of what is resolved

pub passes_from : (test : ResolvedType → Bool) (o : Option ResolvedType) (r : ResolvedType) → fails test o ≡ false → o ≡ Some r → test r ≡ true
passes_from test o r h e = not_false (test r) (sym (ap (λ (q : Option ResolvedType). fails test q) e) ∙ h)

pub same_from : (o p : Option ResolvedType) (r s : ResolvedType) → o ≡ Some r → p ≡ Some s → fails (is_as o) p ≡ false → p ≡ o
same_from o p r s e f h =
    let a : fails (is_as (Some r)) p ≡ false = subst (λ (q : Option ResolvedType). fails (is_as q) p ≡ false) e h in
    let b = passes_from (is_as (Some r)) p s a f in
    f ∙ ap (λ (q : ResolvedType). Some q) (sym (same_type_true r s b)) ∙ sym e

pub agreed : (types : List NamedType) (t u : Ty) → Has (resolved types t) → Has (resolved types u) → agree types t u ≡ true → resolved types u ≡ resolved types t
agreed types t u h k e = same_from (resolved types t) (resolved types u) h.0 k.0 h.1 k.1 (by (fails (is_as (resolved types t)) (resolved types u)) e)
  where
    by : (b : Bool) → not b ≡ true → b ≡ false
    by true g = absurd cc
    by false g = refl

pub all_resolved : (types : List NamedType) (ts : List Ty) → ((i : ℕ) (t : Ty) → slice_get ts i ≡ Some t → Has (resolved types t)) → list_all (is_resolved types) ts ≡ true
all_resolved types [] h = refl
all_resolved types (t ∷ ts) h =
    let r = h 0 t refl in
    and_from (is_some (resolved types t)) (list_all (is_resolved types) ts) (ap (λ (o : Option ResolvedType). is_some o) r.1) (all_resolved types ts (λ (i : ℕ) (u : Ty) e. h (suc i) u e))
