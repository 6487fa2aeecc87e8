-- In an accepted tree each type that is written is a type.
use Rattle.std.proofs.Common.{◌≡◌, ℕ, zero, suc, List, [], ◌∷◌, ◌++◌, length, Bool, true, false, refl, sym, ap, ◌∙◌, subst, true≢false, cond}
use Rattle.std.specs.Prelude.{slice_get, Option, Some, None, is_some}
use Rattle.std.specs.List.{flat_map, AllByRecursion}
use Rattle.std.specs.Str.{bytes_eq}
use Rattle.std.proofs.lemmas.Slice.Eq.{bytes_eq-Decides}
use Rattle.std.proofs.lemmas.Grind.{flat_map-append}
use Rattle.std.proofs.lemmas.Option.{same_Some}
use Rattle.pg_read_lex.specs.declared.token.Span.{Span}
use Rattle.pg_read_ast.specs.declared.names.Name.{Name}
use Rattle.pg_read_ast.specs.Syntax.{Ty, Tys, I1, I8, I16, I32, I64, Ptr, Void, Array, Struct, Named, NoTys, MoreTys, NamedType}
use Rattle.pg_read_ast.specs.Numbers.{type_named}
use Rattle.pg_check_types.specs.Resolved.{ResolvedType, IntegerType, PointerType, VoidType, ArrayType, NoFields, MoreFields, part_type, array_type, with_field, element_count, type_by, fields_by}
use Rattle.pg_check_types.specs.Resolved.{type_within, resolved}
use Rattle.pg_check_rules.specs.Written.{type_list, types_within, types_within_all}
use Rattle.pg_check_rules.specs.TypeConditions.{is_void_part, unknown_type, void_part, wrong_count, wrong_type}
use Rattle.pg_check_rules.specs.Places.{type_span}
use Rattle.pg_check_rules.specs.Conditions.{names_in_types}
use Rattle.pg_check_types.proofs.Fuel.{Below, type_keeps}
use Rattle.pg_law_numbering.proofs.UnrefusedParts.{front_none, behind_none, else_none, then_none}
use Rattle.pg_law_numbering.proofs.EachElement.{all_front, all_behind}

abbrev pub Has : Option ResolvedType → Type 0
Has o = (r : ResolvedType) × (o ≡ Some r)

-- ---- a type whose names are types is one

abbrev pub NameHas : (List ℕ → Option ResolvedType) → Ty → Type 0
NameHas f (Named n) = Has (f n.text)
NameHas f t = Unit {0}

-- nothing is refused of the types that stand within one
abbrev pub Right : List NamedType → List Ty → Type 0
Right types ts = flat_map (wrong_type types) ts ≡ []

right_front : (types : List NamedType) (xs ys : List Ty) → Right types (xs ++ ys) → Right types xs
right_front types xs ys h = front_none (flat_map (wrong_type types) xs) (flat_map (wrong_type types) ys) (sym (flat_map-append (wrong_type types) xs ys) ∙ h)

right_behind : (types : List NamedType) (xs ys : List Ty) → Right types (xs ++ ys) → Right types ys
right_behind types xs ys h = behind_none (flat_map (wrong_type types) xs) (flat_map (wrong_type types) ys) (sym (flat_map-append (wrong_type types) xs ys) ∙ h)

count_is : (text : List ℕ) (s : Span) → wrong_count text s ≡ [] → is_some (element_count text) ≡ true
count_is text s e = else_none (is_some (element_count text)) s e

part_has : (r : ResolvedType) → is_void_part (Some r) ≡ false → part_type (Some r) ≡ Some r
part_has (IntegerType w) e = refl
part_has PointerType e = refl
part_has VoidType e = absurd cc
part_has (ArrayType n t) e = refl
part_has NoFields e = refl
part_has (MoreFields s t) e = refl

array_has : (n : Option ℕ) (o : Option ResolvedType) → is_some n ≡ true → Has o → Has (array_type n o)
array_has None o e h = absurd cc
array_has (Some n) o e h = (ArrayType n h.0, ap (λ (q : Option ResolvedType). array_type (Some n) q) h.1)

module _ (types : List NamedType) (f : List ℕ → Option ResolvedType) (below : Below f (type_within (length types) types)) where
  -- a part that isn't void where all names are read isn't void here
  part_is : (t : Ty) → void_part types t ≡ [] → Has (type_by f t) → Has (part_type (type_by f t))
  unfolding resolved
  part_is t e h =
      let more : resolved types t ≡ Some h.0 = type_keeps f (type_within (length types) types) below t h.0 h.1 in
      let solid : is_void_part (resolved types t) ≡ false = then_none (is_void_part (resolved types t)) (type_span t) e in
      (h.0, ap (λ (q : Option ResolvedType). part_type q) h.1 ∙ part_has h.0 (sym (ap (λ (q : Option ResolvedType). is_void_part q) more) ∙ solid))

  mutual
    unfolding type_by fields_by types_within types_within_all

    pub type_has : (t : Ty) → Right types (types_within t) → AllByRecursion (NameHas f) (types_within t) → Has (type_by f t)
    type_has (I1 s) r h = (_, refl)
    type_has (I8 s) r h = (_, refl)
    type_has (I16 s) r h = (_, refl)
    type_has (I32 s) r h = (_, refl)
    type_has (I64 s) r h = (_, refl)
    type_has (Ptr s) r h = (_, refl)
    type_has (Void s) r h = (_, refl)
    type_has (Array s n t) r h =
        let own : wrong_count n.text n.span ++ void_part types t ≡ [] = front_none (wrong_count n.text n.span ++ void_part types t) (flat_map (wrong_type types) (types_within t)) r in
        let count = count_is n.text n.span (front_none (wrong_count n.text n.span) (void_part types t) own) in
        let inner = type_has t (behind_none (wrong_count n.text n.span ++ void_part types t) (flat_map (wrong_type types) (types_within t)) r) h.1 in
        array_has (element_count n.text) (part_type (type_by f t)) count (part_is t (behind_none (wrong_count n.text n.span) (void_part types t) own) inner)
    type_has (Struct s ts) r h =
        fields_have ts NoFields (Some NoFields) refl
        (front_none (flat_map (void_part types) (type_list ts)) (flat_map (wrong_type types) (types_within_all ts)) r)
        (behind_none (flat_map (void_part types) (type_list ts)) (flat_map (wrong_type types) (types_within_all ts)) r) h.1
    type_has (Named n) r h = h.0

    fields_have : (ts : Tys) (front : ResolvedType) (o : Option ResolvedType) → o ≡ Some front → flat_map (void_part types) (type_list ts) ≡ [] → Right types (types_within_all ts)
        → AllByRecursion (NameHas f) (types_within_all ts) → Has (fields_by f o ts)
    fields_have NoTys front o e v r h = (front, e)
    fields_have (MoreTys t ts) front o e v r h =
        let one = type_has t (right_front types (types_within t) (types_within_all ts) r) (all_front (NameHas f) (types_within t) (types_within_all ts) h) in
        let part = part_is t (front_none (void_part types t) (flat_map (void_part types) (type_list ts)) v) one in
        fields_have ts (MoreFields front part.0) (with_field o (part_type (type_by f t)))
        (ap (λ (q : Option ResolvedType). with_field q (part_type (type_by f t))) e ∙ ap (λ (q : Option ResolvedType). with_field (Some front) q) part.1)
        (behind_none (void_part types t) (flat_map (void_part types) (type_list ts)) v)
        (right_behind types (types_within t) (types_within_all ts) r) (all_behind (NameHas f) (types_within t) (types_within_all ts) h)

-- ---- the names in a type

pub all_named : (f : List ℕ → Option ResolvedType) (ts : List Ty) → ((i : ℕ) (n : Name) → slice_get (names_in_types ts) i ≡ Some n → Has (f n.text)) → AllByRecursion (NameHas f) ts
all_named f [] h = tt
all_named f (Named n ∷ ts) h = (h 0 n refl, all_named f ts (λ i m e. h (suc i) m e))
all_named f (t ∷ ts) h = (tt, all_named f ts h)

abbrev pub IsKnown : List NamedType → List ℕ → Type 0
IsKnown types text = (t : Ty) × (type_named types text ≡ Some t)

known_from : (types : List NamedType) (n : Name) → unknown_type types (Named n) ≡ [] → IsKnown types n.text
known_from types n e = by (type_named types n.text) refl
  where
    by : (o : Option Ty) → type_named types n.text ≡ o → IsKnown types n.text
    by (Some t) h = (t, h)
    by None h = absurd (true≢false (sym (else_none (is_some (type_named types n.text)) n.span e) ∙ ap (λ (q : Option Ty). is_some q) h))

pub known_names : (types : List NamedType) (ts : List Ty) → flat_map (unknown_type types) ts ≡ [] → (i : ℕ) (n : Name) → slice_get (names_in_types ts) i ≡ Some n → IsKnown types n.text
known_names types [] e i n h = absurd cc
known_names types (Named m ∷ ts) e zero n h = subst (λ (q : Name). IsKnown types q.text) (same_Some m n h)
    (known_from types m (front_none (unknown_type types (Named m)) (flat_map (unknown_type types) ts) e))
known_names types (Named m ∷ ts) e (suc i) n h = known_names types ts (behind_none (unknown_type types (Named m)) (flat_map (unknown_type types) ts) e) i n h
known_names types (t ∷ ts) e i n h = known_names types ts (behind_none (unknown_type types t) (flat_map (unknown_type types) ts) e) i n h

-- ---- the first item of a name

pub record IsItem (types : List NamedType) (text : List ℕ) (t : Ty) : Type 0 where
  pub place : ℕ
  pub item : NamedType
  pub there : slice_get types place ≡ Some item
  pub text_is : item.name.text ≡ text
  pub ty_is : item.ty ≡ t

pub item_of : (types : List NamedType) (text : List ℕ) (t : Ty) → type_named types text ≡ Some t → IsItem types text t
item_of [] text t e = absurd cc
item_of (i ∷ is) text t e = by (bytes_eq i.name.text text) refl (item_of is text t) e
  where
    by : (b : Bool) → bytes_eq i.name.text text ≡ b → (type_named is text ≡ Some t → IsItem is text t) → cond b (Some i.ty) (type_named is text) ≡ Some t → IsItem (i ∷ is) text t
    by true h more g = record { place = 0; item = i; there = refl; text_is = (bytes_eq-Decides i.name.text text).0 h; ty_is = same_Some i.ty t g }
    by false h more g =
        let r = more g in
        record { place = suc r.place; item = r.item; there = r.there; text_is = r.text_is; ty_is = r.ty_is }
