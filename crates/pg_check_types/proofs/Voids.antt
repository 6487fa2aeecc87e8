-- Which types are void, by their names and by what they are.
use Rattle.std.proofs.Common.{◌≡◌, ℕ, zero, suc, List, length, Bool, true, refl}
use Rattle.std.specs.Prelude.{Option, Some, None}
use Rattle.std.specs.Option.{option_and_then}
use Rattle.pg_read_ast.specs.Syntax.{Ty, Tys, I1, I8, I16, I32, I64, Ptr, Void, Array, Struct, Named, NoTys, MoreTys, NamedType}
use Rattle.pg_read_ast.specs.Numbers.{type_named, void_by, is_some_and, name_void, is_void}
use Rattle.pg_check_types.specs.Resolved.{ResolvedType, VoidType, NoFields, part_type, array_type, with_field, element_count, type_by, fields_by, type_within, resolved}

void_is : (f : List ℕ → Option ResolvedType) (v : List ℕ → Bool) → ((text : List ℕ) → v text ≡ true → f text ≡ Some VoidType) → (t : Ty) → void_by v t ≡ true
    → type_by f t ≡ Some VoidType
unfolding type_by
void_is f v h (Void s) e = refl
void_is f v h (Named n) e = h n.text e
void_is f v h (I1 s) e = absurd cc
void_is f v h (I8 s) e = absurd cc
void_is f v h (I16 s) e = absurd cc
void_is f v h (I32 s) e = absurd cc
void_is f v h (I64 s) e = absurd cc
void_is f v h (Ptr s) e = absurd cc
void_is f v h (Array s n t) e = absurd cc
void_is f v h (Struct s ts) e = absurd cc

void_name : (types : List NamedType) (n : ℕ) (text : List ℕ) → name_void n types text ≡ true → type_within n types text ≡ Some VoidType
unfolding name_void type_within
void_name types zero text e = absurd cc
void_name types (suc n) text e = by (type_named types text) e (void_name types n)
  where
    by : (o : Option Ty) → is_some_and o (λ t. void_by (name_void n types) t) ≡ true
        → ((other : List ℕ) → name_void n types other ≡ true → type_within n types other ≡ Some VoidType) → option_and_then (λ t. type_by (type_within n types) t) o ≡ Some VoidType
    by None h more = absurd cc
    by (Some t) h more = void_is (type_within n types) (name_void n types) more t h

pub void_resolved : (types : List NamedType) (t : Ty) → is_void types t ≡ true → resolved types t ≡ Some VoidType
unfolding is_void resolved
void_resolved types t e = void_is (type_within (length types) types) (name_void (length types) types) (void_name types (length types)) t e

-- ---- the other way

abbrev IsNotVoid : Option ResolvedType → Type 0
IsNotVoid o = o ≡ Some VoidType → ⊥

array_not : (n : Option ℕ) (o : Option ResolvedType) → IsNotVoid (array_type n o)
array_not None o e = cc
array_not (Some n) None e = cc
array_not (Some n) (Some t) e = cc

field_not : (a b : Option ResolvedType) → IsNotVoid (with_field a b)
field_not None b e = cc
field_not (Some s) None e = cc
field_not (Some s) (Some t) e = cc

fields_not : (f : List ℕ → Option ResolvedType) (ts : Tys) (front : Option ResolvedType) → IsNotVoid front → IsNotVoid (fields_by f front ts)
unfolding fields_by
fields_not f NoTys front h e = h e
fields_not f (MoreTys t ts) front h e = fields_not f ts (with_field front (part_type (type_by f t))) (field_not front (part_type (type_by f t))) e

void_from : (f : List ℕ → Option ResolvedType) (v : List ℕ → Bool) → ((text : List ℕ) → f text ≡ Some VoidType → v text ≡ true) → (t : Ty) → type_by f t ≡ Some VoidType
    → void_by v t ≡ true
unfolding type_by
void_from f v h (Void s) e = refl
void_from f v h (Named n) e = h n.text e
void_from f v h (I1 s) e = absurd cc
void_from f v h (I8 s) e = absurd cc
void_from f v h (I16 s) e = absurd cc
void_from f v h (I32 s) e = absurd cc
void_from f v h (I64 s) e = absurd cc
void_from f v h (Ptr s) e = absurd cc
void_from f v h (Array s n t) e = absurd (array_not (element_count n.text) (part_type (type_by f t)) e)
void_from f v h (Struct s ts) e = absurd (fields_not f ts (Some NoFields) (λ g. cc) e)

name_from : (types : List NamedType) (n : ℕ) (text : List ℕ) → type_within n types text ≡ Some VoidType → name_void n types text ≡ true
unfolding name_void type_within
name_from types zero text e = absurd cc
name_from types (suc n) text e = by (type_named types text) e (name_from types n)
  where
    by : (o : Option Ty) → option_and_then (λ t. type_by (type_within n types) t) o ≡ Some VoidType
        → ((other : List ℕ) → type_within n types other ≡ Some VoidType → name_void n types other ≡ true) → is_some_and o (λ t. void_by (name_void n types) t) ≡ true
    by None h more = absurd cc
    by (Some t) h more = void_from (type_within n types) (name_void n types) more t h

pub resolved_void : (types : List NamedType) (t : Ty) → resolved types t ≡ Some VoidType → is_void types t ≡ true
unfolding is_void resolved
resolved_void types t e = void_from (type_within (length types) types) (name_void (length types) types) (name_from types (length types)) t e
