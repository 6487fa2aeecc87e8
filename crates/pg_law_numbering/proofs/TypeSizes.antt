-- In an accepted tree no type is larger than types may be.
use Rattle.std.proofs.Common.{◌≡◌, ℕ, zero, suc, ◌-◌, ◌≤◌, List, [], ◌∷◌, length, Bool, false, refl, sym, ap, ◌∙◌, subst, arith, nat_lt}
use Rattle.std.specs.Prelude.{slice_get, Option, Some, None}
use Rattle.std.specs.List.{flat_map, list_any}
use Rattle.std.specs.Option.{option_and_then}
use Rattle.std.proofs.lemmas.Bool.{or_parts, ltb-false}
use Rattle.std.proofs.lemmas.List.Folds.{list_any-append}
use Rattle.std.proofs.lemmas.Option.{same_Some}
use Rattle.pg_num.specs.declared.limits.TheConstants.{SIZE_LIMIT}
use Rattle.pg_num.specs.declared.width.Width.TheVariants.{W1, W8, W16, W32, W64}
use Rattle.pg_read_ast.specs.Syntax.{Ty, I1, I8, I16, I32, I64, Ptr, Void, Array, Struct, Named, NamedType, Tree}
use Rattle.pg_read_ast.specs.Numbers.{type_named}
use Rattle.pg_check_rules.specs.declared.fault.CheckKind.TheVariants.{TooLarge}
use Rattle.pg_check_types.specs.Resolved.{ResolvedType, IntegerType, PointerType, VoidType, type_by, type_within, resolved}
use Rattle.pg_check_types.specs.Layout.{size_of, size_or_none}
use Rattle.pg_check_rules.specs.Written.{types_within}
use Rattle.pg_check_rules.specs.TypeConditions.{is_large, any_large}
use Rattle.pg_check_rules.specs.Conditions.{item_refused, IsUnrefused}
use Rattle.pg_check_types.proofs.Fuel.{Below, type_keeps, within_less}
use Rattle.pg_law_numbering.proofs.UnrefusedParts.{at_if_none, items_pass}
use Rattle.pg_law_numbering.proofs.ResolvedTypes.{item_of}

-- ---- no part of a list passes a test

pub any_each : {X Y : Type 0} (p : Y → Bool) (g : X → List Y) (xs : List X) (i : ℕ) (x : X) → list_any p (flat_map g xs) ≡ false → slice_get xs i ≡ Some x → list_any p (g x) ≡ false
any_each p g [] i x e h = absurd cc
any_each {X} p g (y ∷ ys) zero x e h =
    subst (λ (q : X). list_any p (g q) ≡ false) (same_Some y x h) (or_parts (list_any p (g y)) (list_any p (flat_map g ys)) (sym (list_any-append p (g y) (flat_map g ys)) ∙ e)).0
any_each p g (y ∷ ys) (suc i) x e h = any_each p g ys i x (or_parts (list_any p (g y)) (list_any p (flat_map g ys)) (sym (list_any-append p (g y) (flat_map g ys)) ∙ e)).1 h

-- a type is one of those within it
own_type : (p : Ty → Bool) (t : Ty) → list_any p (types_within t) ≡ false → p t ≡ false
unfolding types_within
own_type p (I1 s) e = (or_parts (p (I1 s)) false e).0
own_type p (I8 s) e = (or_parts (p (I8 s)) false e).0
own_type p (I16 s) e = (or_parts (p (I16 s)) false e).0
own_type p (I32 s) e = (or_parts (p (I32 s)) false e).0
own_type p (I64 s) e = (or_parts (p (I64 s)) false e).0
own_type p (Ptr s) e = (or_parts (p (Ptr s)) false e).0
own_type p (Void s) e = (or_parts (p (Void s)) false e).0
own_type p (Array s n t) e = (or_parts (p (Array s n t)) _ e).0
own_type p (Struct s ts) e = (or_parts (p (Struct s ts)) _ e).0
own_type p (Named n) e = (or_parts (p (Named n)) false e).0

pub not_large : (types : List NamedType) (ts : List Ty) (i : ℕ) (t : Ty) → any_large types ts ≡ false → slice_get ts i ≡ Some t → is_large types t ≡ false
unfolding any_large
not_large types ts i t e h = own_type (is_large types) t (any_each (is_large types) types_within ts i t e h)

-- ---- sizes

module _ (types : List NamedType) (f : List ℕ → Option ResolvedType) (below : Below f (type_within (length types) types))
    (names : (text : List ℕ) (r : ResolvedType) → f text ≡ Some r → size_of r ≤ SIZE_LIMIT) where
  -- a type that is resolved with some names is so with all
  sized : (t : Ty) (r : ResolvedType) → nat_lt SIZE_LIMIT (size_or_none (resolved types t)) ≡ false → type_by f t ≡ Some r → size_of r ≤ SIZE_LIMIT
  unfolding resolved
  sized t r l e =
      let more : resolved types t ≡ Some r = type_keeps f (type_within (length types) types) below t r e in
      ltb-false SIZE_LIMIT (size_of r) (sym (ap (λ (o : Option ResolvedType). nat_lt SIZE_LIMIT (size_or_none o)) more) ∙ l)

  pub size_by : (t : Ty) (r : ResolvedType) → is_large types t ≡ false → type_by f t ≡ Some r → size_of r ≤ SIZE_LIMIT
  unfolding type_by size_of
  size_by (I1 s) r l e = let n : size_of (IntegerType W1) ≤ SIZE_LIMIT = omega arith in subst (λ (q : ResolvedType). size_of q ≤ SIZE_LIMIT) (same_Some (IntegerType W1) r e) n
  size_by (I8 s) r l e = let n : size_of (IntegerType W8) ≤ SIZE_LIMIT = omega arith in subst (λ (q : ResolvedType). size_of q ≤ SIZE_LIMIT) (same_Some (IntegerType W8) r e) n
  size_by (I16 s) r l e = let n : size_of (IntegerType W16) ≤ SIZE_LIMIT = omega arith in subst (λ (q : ResolvedType). size_of q ≤ SIZE_LIMIT) (same_Some (IntegerType W16) r e) n
  size_by (I32 s) r l e = let n : size_of (IntegerType W32) ≤ SIZE_LIMIT = omega arith in subst (λ (q : ResolvedType). size_of q ≤ SIZE_LIMIT) (same_Some (IntegerType W32) r e) n
  size_by (I64 s) r l e = let n : size_of (IntegerType W64) ≤ SIZE_LIMIT = omega arith in subst (λ (q : ResolvedType). size_of q ≤ SIZE_LIMIT) (same_Some (IntegerType W64) r e) n
  size_by (Ptr s) r l e = let n : size_of PointerType ≤ SIZE_LIMIT = omega arith in subst (λ (q : ResolvedType). size_of q ≤ SIZE_LIMIT) (same_Some PointerType r e) n
  size_by (Void s) r l e = let n : size_of VoidType ≤ SIZE_LIMIT = omega arith in subst (λ (q : ResolvedType). size_of q ≤ SIZE_LIMIT) (same_Some VoidType r e) n
  size_by (Array s n t) r l e = sized (Array s n t) r l e
  size_by (Struct s ts) r l e = sized (Struct s ts) r l e
  size_by (Named n) r l e = names n.text r e

module _ (m : Tree) (accepted : IsUnrefused m) where
  item_small : (text : List ℕ) (t : Ty) → type_named m.types text ≡ Some t → is_large m.types t ≡ false
  unfolding item_refused
  item_small text t e =
      let i = item_of m.types text t e in
      let small = at_if_none (any_large m.types (i.item.ty ∷ [])) i.item.name.span (items_pass m accepted i.place i.item i.there TooLarge) in
      subst (λ (q : Ty). is_large m.types q ≡ false) i.ty_is (not_large m.types (i.item.ty ∷ []) 0 i.item.ty small refl)

  name_size : (n : ℕ) → n ≤ length m.types → (text : List ℕ) (r : ResolvedType) → type_within n m.types text ≡ Some r → size_of r ≤ SIZE_LIMIT
  unfolding type_within
  name_size zero l text r e = absurd cc
  name_size (suc n) l text r e = by (type_named m.types text) refl e (name_size n (omega (arith, l)))
    where
      below : Below (type_within n m.types) (type_within (length m.types) m.types)
      below = within_less n (length m.types) m.types (omega (arith, l))

      by : (o : Option Ty) → type_named m.types text ≡ o → option_and_then (λ t. type_by (type_within n m.types) t) o ≡ Some r
          → ((other : List ℕ) (q : ResolvedType) → type_within n m.types other ≡ Some q → size_of q ≤ SIZE_LIMIT) → size_of r ≤ SIZE_LIMIT
      by None h g more = absurd cc
      by (Some t) h g more = size_by m.types (type_within n m.types) below more t r (item_small text t h) g

  -- a type that isn't too large by itself
  pub type_size : (t : Ty) (r : ResolvedType) → is_large m.types t ≡ false → resolved m.types t ≡ Some r → size_of r ≤ SIZE_LIMIT
  unfolding resolved
  type_size t r l e = size_by m.types (type_within (length m.types) m.types) (λ text q h. h) (name_size (length m.types) (omega arith)) t r l e

  pub size_within : (t : Ty) → is_large m.types t ≡ false → size_or_none (resolved m.types t) ≤ SIZE_LIMIT
  size_within t l = by (resolved m.types t) refl
    where
      by : (o : Option ResolvedType) → resolved m.types t ≡ o → size_or_none o ≤ SIZE_LIMIT
      by None h = omega arith
      by (Some r) h = type_size t r l h
