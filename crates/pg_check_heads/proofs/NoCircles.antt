-- A type that is one doesn't contain itself.
use Rattle.std.proofs.Common.{◌≡◌, ℕ, zero, suc, ◌≤◌, Bool, true, false, cond, List, [], ◌∷◌, ◌++◌, length, map, Option, Some, None, is_some, refl, sym, ap, subst}
use Rattle.std.proofs.Common.{arith, inl, inr}
use Rattle.std.specs.Prelude.{◌&&◌, ◌||◌, ◌⊎◌, filter}
use Rattle.std.specs.List.{list_any, list_all}
use Rattle.std.specs.Option.{option_and_then}
use Rattle.std.specs.Str.{bytes_eq}
use Rattle.std.proofs.lemmas.Slice.Eq.{bytes_eq-Decides}
use Rattle.pg_read_ast.specs.declared.names.Name.{Name}
use Rattle.pg_read_ast.specs.Syntax.{Ty, Tys, I1, I8, I16, I32, I64, Ptr, Void, Array, Struct, Named, NoTys, MoreTys, NamedType}
use Rattle.pg_read_ast.specs.Numbers.{type_named}
use Rattle.pg_check_types.specs.Resolved.{ResolvedType, part_type, array_type, with_field, element_count, type_by, fields_by, type_within, resolved, NoFields}
use Rattle.pg_check_rules.specs.Written.{types_within, types_within_all}
use Rattle.pg_check_rules.specs.Conditions.{names_in, names_in_types, names_of_item, meets, self_contained}
use Rattle.pg_check_heads.proofs.Reaching.{or_cases}

-- ---- the names in a type that is one are of types that are

abbrev Known : (List ℕ → Option ResolvedType) → List Name → Type 0
Known f ns = list_all (λ (n : Name). is_some (f n.text)) ns ≡ true

all_more : (test : Name → Bool) (ms ns : List Name) → list_all test ms ≡ true → list_all test ns ≡ true → list_all test (ms ++ ns) ≡ true
all_more test [] ns a b = b
all_more test (m ∷ ms) ns a b = by (test m) a (all_more test ms ns)
  where
    by : (t : Bool) → (t && list_all test ms) ≡ true → (list_all test ms ≡ true → list_all test ns ≡ true → list_all test (ms ++ ns) ≡ true)
        → (t && list_all test (ms ++ ns)) ≡ true
    by true h more = more h b
    by false h more = absurd cc

names_first : (t : Ty) (ts : List Ty) → names_in_types (t ∷ ts) ≡ names_in_types (t ∷ []) ++ names_in_types ts
names_first (Named n) ts = refl
names_first (I1 s) ts = refl
names_first (I8 s) ts = refl
names_first (I16 s) ts = refl
names_first (I32 s) ts = refl
names_first (I64 s) ts = refl
names_first (Ptr s) ts = refl
names_first (Void s) ts = refl
names_first (Array s n t) ts = refl
names_first (Struct s us) ts = refl

names_append : (ts us : List Ty) → names_in_types (ts ++ us) ≡ names_in_types ts ++ names_in_types us
names_append [] us = refl
names_append (Named n ∷ ts) us = ap (λ ns. n ∷ ns) (names_append ts us)
names_append (I1 s ∷ ts) us = names_append ts us
names_append (I8 s ∷ ts) us = names_append ts us
names_append (I16 s ∷ ts) us = names_append ts us
names_append (I32 s ∷ ts) us = names_append ts us
names_append (I64 s ∷ ts) us = names_append ts us
names_append (Ptr s ∷ ts) us = names_append ts us
names_append (Void s ∷ ts) us = names_append ts us
names_append (Array s n t ∷ ts) us = names_append ts us
names_append (Struct s vs ∷ ts) us = names_append ts us

part_known : (o : Option ResolvedType) → is_some (part_type o) ≡ true → is_some o ≡ true
part_known None e = e
part_known (Some t) e = refl

element_known : (n : Option ℕ) (o : Option ResolvedType) → is_some (array_type n o) ≡ true → is_some o ≡ true
element_known None o e = absurd cc
element_known (Some n) None e = absurd cc
element_known (Some n) (Some t) e = refl

front_known : (s o : Option ResolvedType) → is_some (with_field s o) ≡ true → is_some s ≡ true
front_known None o e = absurd cc
front_known (Some s) None e = absurd cc
front_known (Some s) (Some t) e = refl

field_known : (s o : Option ResolvedType) → is_some (with_field s o) ≡ true → is_some o ≡ true
field_known None o e = absurd cc
field_known (Some s) None e = absurd cc
field_known (Some s) (Some t) e = refl

fields_front : (f : List ℕ → Option ResolvedType) (front : Option ResolvedType) (ts : Tys) → is_some (fields_by f front ts) ≡ true → is_some front ≡ true
unfolding fields_by
fields_front f front NoTys e = e
fields_front f front (MoreTys t ts) e = front_known front (part_type (type_by f t)) (fields_front f (with_field front (part_type (type_by f t))) ts e)

mutual
  unfolding type_by types_within

  names_known : (f : List ℕ → Option ResolvedType) (t : Ty) → is_some (type_by f t) ≡ true → Known f (names_in t)
  names_known f (I1 s) e = refl
  names_known f (I8 s) e = refl
  names_known f (I16 s) e = refl
  names_known f (I32 s) e = refl
  names_known f (I64 s) e = refl
  names_known f (Ptr s) e = refl
  names_known f (Void s) e = refl
  names_known f (Array s n t) e = names_known f t (part_known (type_by f t) (element_known (element_count n.text) (part_type (type_by f t)) e))
  names_known f (Struct s ts) e = fields_known f (Some NoFields) ts e
  names_known f (Named n) e = ap (λ b. b && true) e

  fields_known : (f : List ℕ → Option ResolvedType) (front : Option ResolvedType) (ts : Tys) → is_some (fields_by f front ts) ≡ true → Known f (names_in_types (types_within_all ts))
  fields_known f front NoTys e = refl
  fields_known f front (MoreTys t ts) e =
      let one = field_known front (part_type (type_by f t)) (fields_front f (with_field front (part_type (type_by f t))) ts e) in
      subst (λ ns. Known f ns) (sym (names_append (types_within t) (types_within_all ts)))
      (all_more (λ (n : Name). is_some (f n.text)) (names_in t) (names_in_types (types_within_all ts)) (names_known f t (part_known (type_by f t) one))
      (fields_known f (with_field front (part_type (type_by f t))) ts e))

-- ---- along names

-- a name that is known within so many items
abbrev IsKnown : List NamedType → ℕ → List ℕ → Type 0
IsKnown types k text = is_some (type_within k types text) ≡ true

pub record Lower (types : List NamedType) (k : ℕ) (text : List ℕ) : Type 0 where
  pub count : ℕ
  pub less : count ≤ k
  pub known : IsKnown types count text

-- a name of a list that passes a test, and is known
record Both (test : Name → Bool) (f : List ℕ → Option ResolvedType) : Type 0 where
  name : Name
  passes : test name ≡ true
  known : is_some (f name.text) ≡ true

both : (test : Name → Bool) (f : List ℕ → Option ResolvedType) (ns : List Name) → list_any test ns ≡ true → Known f ns → Both test f
both test f [] a b = absurd cc
both test f (n ∷ ns) a b = by (test n) refl (is_some (f n.text)) refl a b (both test f ns)
  where
    by : (t : Bool) → test n ≡ t → (k : Bool) → is_some (f n.text) ≡ k → (t || list_any test ns) ≡ true → (k && list_all (λ (n : Name). is_some (f n.text)) ns) ≡ true
        → (list_any test ns ≡ true → Known f ns → Both test f) → Both test f
    by true e true g h i more = record { name = n; passes = e; known = g }
    by false e true g h i more = more h i
    by t e false g h i more = absurd cc

-- the items of a known name
behind_name : (types : List NamedType) (k : ℕ) (name : List ℕ) → IsKnown types (suc k) name → Known (type_within k types) (names_of_item (type_named types name))
unfolding type_within
behind_name types k name e = by (type_named types name) e
  where
    by : (o : Option Ty) → is_some (option_and_then (λ t. type_by (type_within k types) t) o) ≡ true → Known (type_within k types) (names_of_item o)
    by None h = absurd cc
    by (Some t) h = names_known (type_within k types) t h

no_items : (types : List NamedType) (name : List ℕ) → IsKnown types zero name → ⊥
unfolding type_within
no_items types name e = cc

along : (types : List NamedType) (text : List ℕ) (n k : ℕ) (name : List ℕ) → meets n types text name ≡ true → IsKnown types k name → Lower types k text
unfolding meets
along types text zero k name e h = record { count = k; less = omega arith; known = subst (λ t. IsKnown types k t) ((bytes_eq-Decides name text).0 e) h }
along types text (suc n) zero name e h = absurd (no_items types name h)
along types text (suc n) (suc k) name e h =
    by (or_cases (bytes_eq name text) (list_any (λ (m : Name). meets n types text m.text) (names_of_item (type_named types name))) e) (λ m a b. along types text n k m a b)
  where
    by : (bytes_eq name text ≡ true) ⊎ (list_any (λ (m : Name). meets n types text m.text) (names_of_item (type_named types name)) ≡ true)
        → ((m : List ℕ) → meets n types text m ≡ true → IsKnown types k m → Lower types k text) → Lower types (suc k) text
    by (inl a) more = record { count = suc k; less = omega arith; known = subst (λ t. IsKnown types (suc k) t) ((bytes_eq-Decides name text).0 a) h }
    by (inr a) more =
        let m = both (λ (m : Name). meets n types text m.text) (type_within k types) (names_of_item (type_named types name)) a (behind_name types k name h) in
        let l = more m.name.text m.passes m.known in
        record { count = l.count; less = omega (arith, l.less); known = l.known }

-- a name whose item leads back to it isn't known within any number of items
round_trip : (types : List NamedType) (text : List ℕ) (t : Ty) (n b k : ℕ) → k ≤ b → type_named types text ≡ Some t
    → list_any (λ (m : Name). meets n types text m.text) (names_in t) ≡ true → IsKnown types k text → ⊥
round_trip types text t n b zero l e a h = no_items types text h
round_trip types text t n zero (suc k) l e a h = omega (arith, l)
round_trip types text t n (suc b) (suc k) l e a h =
    let known = subst (λ o. Known (type_within k types) (names_of_item o)) e (behind_name types k text h) in
    let m = both (λ (m : Name). meets n types text m.text) (type_within k types) (names_in t) a known in
    let low = along types text n k m.name.text m.passes m.known in
    round_trip types text t n b low.count (omega (arith, l, low.less)) e a low.known

-- ---- an item whose type is one

none_kept : (test : Name → Bool) (ns : List Name) → list_any test ns ≡ false → map (λ (n : Name). n.span) (filter test ns) ≡ []
none_kept test [] e = refl
none_kept test (n ∷ ns) e = by (test n) e (none_kept test ns)
  where
    by : (b : Bool) → (b || list_any test ns) ≡ false → (list_any test ns ≡ false → map (λ (n : Name). n.span) (filter test ns) ≡ [])
        → map (λ (n : Name). n.span) (cond b (n ∷ filter test ns) (filter test ns)) ≡ []
    by true h more = absurd cc
    by false h more = more h

pub no_circle : (types : List NamedType) (i : NamedType) → type_named types i.name.text ≡ Some i.ty → is_some (resolved types i.ty) ≡ true → self_contained types i ≡ []
unfolding self_contained resolved
no_circle types i e h = none_kept (λ (n : Name). meets (length types) types i.name.text n.text) (names_in i.ty)
    (by (list_any (λ (n : Name). meets (length types) types i.name.text n.text) (names_in i.ty)) refl)
  where
    by : (b : Bool) → list_any (λ (n : Name). meets (length types) types i.name.text n.text) (names_in i.ty) ≡ b
        → list_any (λ (n : Name). meets (length types) types i.name.text n.text) (names_in i.ty) ≡ false
    by false a = a
    by true a =
        let known = names_known (type_within (length types) types) i.ty h in
        let m = both (λ (n : Name). meets (length types) types i.name.text n.text) (type_within (length types) types) (names_in i.ty) a known in
        let low = along types i.name.text (length types) (length types) m.name.text m.passes m.known in
        absurd (round_trip types i.name.text i.ty (length types) low.count low.count (omega arith) e a low.known)
