-- In an accepted tree each type that is written keeps within the limit of sizes, with all that it is made of.
use Rattle.std.proofs.Common.{◌≡◌, ℕ, zero, suc, ◌≤◌, List, [], ◌∷◌, ◌++◌, length, Bool, false, refl, sym, ◌∙◌, subst, arith}
use Rattle.std.specs.Prelude.{Option, Some, None, IfSome}
use Rattle.std.specs.List.{flat_map, list_any, AllByRecursion}
use Rattle.std.specs.Option.{option_and_then}
use Rattle.std.proofs.lemmas.Bool.{or_parts}
use Rattle.std.proofs.lemmas.List.Folds.{list_any-append}
use Rattle.std.proofs.lemmas.Option.{same_Some}
use Rattle.pg_num.specs.declared.limits.TheConstants.{SIZE_LIMIT}
use Rattle.pg_num.specs.declared.width.Width.TheVariants.{W1, W8, W16, W32, W64}
use Rattle.pg_read_ast.specs.Syntax.{Ty, Tys, I1, I8, I16, I32, I64, Ptr, Void, Array, Struct, Named, NoTys, MoreTys, NamedType, Tree}
use Rattle.pg_read_ast.specs.Numbers.{type_named}
use Rattle.pg_check_types.specs.Resolved.{ResolvedType, IntegerType, PointerType, VoidType, ArrayType, NoFields, MoreFields, part_type, array_type, with_field, element_count, type_by, fields_by}
use Rattle.pg_check_types.specs.Resolved.{type_within, resolved}
use Rattle.pg_check_types.specs.Layout.{size_of}
use Rattle.pg_check_rules.specs.declared.fault.CheckKind.TheVariants.{TooLarge}
use Rattle.pg_check_rules.specs.Written.{types_within, types_within_all}
use Rattle.pg_check_rules.specs.TypeConditions.{is_large, any_large}
use Rattle.pg_check_rules.specs.Conditions.{item_refused, IsUnrefused}
use Rattle.pg_check_types.proofs.Fuel.{Below, within_less}
use Rattle.pg_law_numbering.proofs.UnrefusedParts.{at_if_none, items_pass}
use Rattle.pg_law_numbering.proofs.ResolvedTypes.{item_of}
use Rattle.pg_law_numbering.proofs.TypeSizes.{size_by}
use Rattle.pg_check_constants.specs.Sizes.{AllFit, FieldsFit, TypeFits}
use Rattle.pg_check_constants.proofs.Sizes.{own_size}

-- ---- structures

-- a structure whose fields fit
abbrev StructFits : ResolvedType → Type 0
StructFits NoFields = Unit {0}
StructFits (MoreFields s t) = FieldsFit (MoreFields s t)
StructFits _ = ⊥

fields_of_struct : (s : ResolvedType) → StructFits s → FieldsFit s
unfolding FieldsFit
fields_of_struct (IntegerType w) h = absurd h
fields_of_struct PointerType h = absurd h
fields_of_struct VoidType h = absurd h
fields_of_struct (ArrayType n t) h = absurd h
fields_of_struct NoFields h = tt
fields_of_struct (MoreFields s t) h = h

struct_fits : (s : ResolvedType) → StructFits s → size_of s ≤ SIZE_LIMIT → AllFit s
unfolding AllFit FieldsFit
struct_fits (IntegerType w) h l = absurd h
struct_fits PointerType h l = absurd h
struct_fits VoidType h l = absurd h
struct_fits (ArrayType n t) h l = absurd h
struct_fits NoFields h l = tt
struct_fits (MoreFields s t) h l = (l, h.0, h.1)

-- ---- parts

part_is : (o : Option ResolvedType) (r : ResolvedType) → part_type o ≡ Some r → o ≡ Some r
part_is None r e = cc
part_is (Some (IntegerType w)) r e = e
part_is (Some PointerType) r e = e
part_is (Some VoidType) r e = absurd cc
part_is (Some (ArrayType n t)) r e = e
part_is (Some NoFields) r e = e
part_is (Some (MoreFields s t)) r e = e

-- what an element or a field is, where it is something
abbrev Fit : Option ResolvedType → Type 0
Fit o = (r : ResolvedType) → o ≡ Some r → AllFit r

array_fits : (n : Option ℕ) (o : Option ResolvedType) (r : ResolvedType) → Fit o → size_of r ≤ SIZE_LIMIT → array_type n (part_type o) ≡ Some r → AllFit r
unfolding AllFit
array_fits n o r f l e = by n (part_type o) refl e
  where
    by : (n : Option ℕ) (p : Option ResolvedType) → part_type o ≡ p → array_type n p ≡ Some r → AllFit r
    by None p g h = absurd cc
    by (Some k) None g h = absurd cc
    by (Some k) (Some t) g h =
        let same : ArrayType k t ≡ r = same_Some (ArrayType k t) r h in
        let small : size_of (ArrayType k t) ≤ SIZE_LIMIT = subst (λ (q : ResolvedType). size_of q ≤ SIZE_LIMIT) (sym same) l in
        subst AllFit same (small, f t (part_is o t g))

field_added : (o p : Option ResolvedType) → IfSome o StructFits → Fit p → IfSome (with_field o (part_type p)) StructFits
unfolding FieldsFit
field_added None p h f = tt
field_added (Some s) p h f = by (part_type p) refl
  where
    by : (q : Option ResolvedType) → part_type p ≡ q → IfSome (with_field (Some s) q) StructFits
    by None g = tt
    by (Some t) g = (fields_of_struct s h, f t (part_is p t g))

-- ---- types, where their names stand for types that fit

no_part : (p : Ty → Bool) (xs ys : List Ty) → list_any p (xs ++ ys) ≡ false → (list_any p xs ≡ false) × (list_any p ys ≡ false)
no_part p xs ys e = or_parts (list_any p xs) (list_any p ys) (sym (list_any-append p xs ys) ∙ e)

module _ (types : List NamedType) (f : List ℕ → Option ResolvedType) (below : Below f (type_within (length types) types))
    (names : (text : List ℕ) (r : ResolvedType) → f text ≡ Some r → AllFit r) where
  own_small : (t : Ty) (r : ResolvedType) → is_large types t ≡ false → type_by f t ≡ Some r → size_of r ≤ SIZE_LIMIT
  own_small t r l e = size_by types f below (λ text q h. own_size q (names text q h)) t r l e

  mutual
    unfolding type_by fields_by types_within types_within_all AllFit

    type_fits_by : (t : Ty) → list_any (is_large types) (types_within t) ≡ false → Fit (type_by f t)
    type_fits_by (I1 s) l r e = subst AllFit (same_Some (IntegerType W1) r e) tt
    type_fits_by (I8 s) l r e = subst AllFit (same_Some (IntegerType W8) r e) tt
    type_fits_by (I16 s) l r e = subst AllFit (same_Some (IntegerType W16) r e) tt
    type_fits_by (I32 s) l r e = subst AllFit (same_Some (IntegerType W32) r e) tt
    type_fits_by (I64 s) l r e = subst AllFit (same_Some (IntegerType W64) r e) tt
    type_fits_by (Ptr s) l r e = subst AllFit (same_Some PointerType r e) tt
    type_fits_by (Void s) l r e = subst AllFit (same_Some VoidType r e) tt
    type_fits_by (Array s n t) l r e =
        let p = or_parts (is_large types (Array s n t)) (list_any (is_large types) (types_within t)) l in
        array_fits (element_count n.text) (type_by f t) r (type_fits_by t p.1) (own_small (Array s n t) r p.0 e) e
    type_fits_by (Struct s ts) l r e =
        let p = or_parts (is_large types (Struct s ts)) (list_any (is_large types) (types_within_all ts)) l in
        struct_fits r (subst (λ (o : Option ResolvedType). IfSome o StructFits) e (fields_fit_by ts (Some NoFields) tt p.1)) (own_small (Struct s ts) r p.0 e)
    type_fits_by (Named n) l r e = names n.text r e

    fields_fit_by : (ts : Tys) (o : Option ResolvedType) → IfSome o StructFits → list_any (is_large types) (types_within_all ts) ≡ false → IfSome (fields_by f o ts) StructFits
    fields_fit_by NoTys o h l = h
    fields_fit_by (MoreTys t ts) o h l =
        let p = no_part (is_large types) (types_within t) (types_within_all ts) l in
        fields_fit_by ts (with_field o (part_type (type_by f t))) (field_added o (type_by f t) h (type_fits_by t p.0)) p.1

module _ (m : Tree) (accepted : IsUnrefused m) where
  item_small : (text : List ℕ) (t : Ty) → type_named m.types text ≡ Some t → list_any (is_large m.types) (types_within t) ≡ false
  unfolding item_refused any_large
  item_small text t e =
      let i = item_of m.types text t e in
      let small = at_if_none (any_large m.types (i.item.ty ∷ [])) i.item.name.span (items_pass m accepted i.place i.item i.there TooLarge) in
      subst (λ (q : Ty). list_any (is_large m.types) (types_within q) ≡ false) i.ty_is (no_part (is_large m.types) (types_within i.item.ty) [] small).0

  name_fits : (n : ℕ) → n ≤ length m.types → (text : List ℕ) → Fit (type_within n m.types text)
  unfolding type_within
  name_fits zero l text r e = absurd cc
  name_fits (suc n) l text r e = by (type_named m.types text) refl e (name_fits n (omega (arith, l)))
    where
      below : Below (type_within n m.types) (type_within (length m.types) m.types)
      below = within_less n (length m.types) m.types (omega (arith, l))

      by : (o : Option Ty) → type_named m.types text ≡ o → option_and_then (λ t. type_by (type_within n m.types) t) o ≡ Some r
          → ((other : List ℕ) → Fit (type_within n m.types other)) → AllFit r
      by None h g more = absurd cc
      by (Some t) h g more = type_fits_by m.types (type_within n m.types) below more t (item_small text t h) r g

  one_fits : (t : Ty) → list_any (is_large m.types) (types_within t) ≡ false → TypeFits m.types t
  unfolding resolved
  one_fits t l = by (resolved m.types t) (type_fits_by m.types (type_within (length m.types) m.types) (λ text q h. h) (name_fits (length m.types) (omega arith)) t l)
    where
      by : (o : Option ResolvedType) → Fit o → IfSome o AllFit
      by None h = tt
      by (Some r) h = h r refl

  -- types of which none is too large
  pub types_fit : (ts : List Ty) → any_large m.types ts ≡ false → AllByRecursion (TypeFits m.types) ts
  unfolding any_large
  types_fit [] e = tt
  types_fit (t ∷ ts) e =
      let p = no_part (is_large m.types) (types_within t) (flat_map types_within ts) e in
      (one_fits t p.0, types_fit ts p.1)
