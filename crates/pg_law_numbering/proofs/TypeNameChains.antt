-- Chains of type names, each in the item of the one before it; in an accepted tree none comes back, so each name of an
-- item is a type.
use Rattle.std.proofs.Common.{◌≡◌, ℕ, zero, suc, ◌+◌, ◌-◌, ◌≤◌, List, [], ◌∷◌, length, map, filter, Bool, true, false, ◌||◌, refl, sym, ap, ◌∙◌, subst}
use Rattle.std.proofs.Common.{arith, ◌⊎◌, inl, inr, true≢false, cond}
use Rattle.std.specs.Prelude.{slice_get, Option, Some}
use Rattle.std.specs.List.{flat_map, list_any, AllByRecursion, IsDistinct}
use Rattle.std.specs.Set.{is_member}
use Rattle.std.specs.Option.{option_and_then, option_map}
use Rattle.std.specs.Str.{bytes_eq}
use Rattle.std.proofs.lemmas.Slice.Eq.{bytes_eq-Decides}
use Rattle.std.proofs.lemmas.Cmp.{nat_list_eq_equiv}
use Rattle.std.proofs.lemmas.Map.Made.{length-le_from_is_member}
use Rattle.std.proofs.lemmas.Grind.{flat_map-append}
use Rattle.std.proofs.lemmas.Option.{slice_get-map, same_Some}
use Rattle.pg_read_ast.specs.declared.names.Name.{Name}
use Rattle.pg_read_ast.specs.Syntax.{Ty, NamedType, Tree}
use Rattle.pg_read_ast.specs.Numbers.{type_named}
use Rattle.pg_check_rules.specs.declared.fault.CheckKind.TheVariants.{UnknownName, WrongType}
use Rattle.pg_check_types.specs.Resolved.{type_by, type_within, resolved}
use Rattle.pg_check_rules.specs.Written.{types_within}
use Rattle.pg_check_rules.specs.TypeConditions.{unknown_type, wrong_type, unknown_types, wrong_types}
use Rattle.pg_check_rules.specs.Conditions.{names_in, names_of_item, meets, self_contained, item_refused, IsUnrefused}
use Rattle.pg_check_types.proofs.Fuel.{Below, within_less}
use Rattle.pg_law_numbering.proofs.UnrefusedParts.{front_none, behind_none, items_pass}
use Rattle.pg_law_numbering.proofs.ResolvedTypes.{Has, Right, type_has, all_named, IsKnown, known_names, item_of}
use Rattle.pg_law_numbering.proofs.ChoiceTests.{or_true, or_from_left, or_from_right, any_from, same_text}
use Rattle.pg_law_numbering.proofs.EachElement.{all_on}

-- ---- chains of names

any_more : {X : Type 0} (p q : X → Bool) (xs : List X) → ((x : X) → p x ≡ true → q x ≡ true) → list_any p xs ≡ true → list_any q xs ≡ true
any_more p q [] h e = absurd cc
any_more p q (x ∷ xs) h e = by (or_true (p x) (list_any p xs) e) (any_more p q xs h)
  where
    by : (p x ≡ true) ⊎ (list_any p xs ≡ true) → (list_any p xs ≡ true → list_any q xs ≡ true) → list_any q (x ∷ xs) ≡ true
    by (inl g) more = or_from_left (q x) (list_any q xs) (h x g)
    by (inr g) more = or_from_right (q x) (list_any q xs) (more g)

module _ (types : List NamedType) where
  pub meets_self : (k : ℕ) (text : List ℕ) → meets k types text text ≡ true
  unfolding meets
  meets_self zero text = same_text text
  meets_self (suc k) text = or_from_left (bytes_eq text text) (list_any (λ (m : Name). meets k types text m.text) (names_of_item (type_named types text))) (same_text text)

  -- through one item more
  meets_suc : (k : ℕ) (text name : List ℕ) → meets k types text name ≡ true → meets (suc k) types text name ≡ true
  unfolding meets
  meets_suc zero text name e = or_from_left (bytes_eq name text) (list_any (λ (m : Name). meets zero types text m.text) (names_of_item (type_named types name))) e
  meets_suc (suc k) text name e =
      by (or_true (bytes_eq name text) (list_any (λ (m : Name). meets k types text m.text) (names_of_item (type_named types name))) e)
      (any_more (λ (m : Name). meets k types text m.text) (λ (m : Name). meets (suc k) types text m.text) (names_of_item (type_named types name)) (λ (m : Name) h. meets_suc k text m.text h))
    where
      by : (bytes_eq name text ≡ true) ⊎ (list_any (λ (m : Name). meets k types text m.text) (names_of_item (type_named types name)) ≡ true)
          → (list_any (λ (m : Name). meets k types text m.text) (names_of_item (type_named types name)) ≡ true
          → list_any (λ (m : Name). meets (suc k) types text m.text) (names_of_item (type_named types name)) ≡ true)
          → (bytes_eq name text || list_any (λ (m : Name). meets (suc k) types text m.text) (names_of_item (type_named types name))) ≡ true
      by (inl h) more = or_from_left (bytes_eq name text) (list_any (λ (m : Name). meets (suc k) types text m.text) (names_of_item (type_named types name))) h
      by (inr h) more = or_from_right (bytes_eq name text) (list_any (λ (m : Name). meets (suc k) types text m.text) (names_of_item (type_named types name))) (more h)

  pub meets_plus : (j k : ℕ) (text name : List ℕ) → meets k types text name ≡ true → meets (k + j) types text name ≡ true
  meets_plus zero k text name e = let z : k ≡ k + 0 = omega arith in subst (λ (q : ℕ). meets q types text name ≡ true) z e
  meets_plus (suc j) k text name e =
      let z : suc (k + j) ≡ k + suc j = omega arith in
      subst (λ (q : ℕ). meets q types text name ≡ true) z (meets_suc (k + j) text name (meets_plus j k text name e))

  -- on to a name in the item that is met
  pub meets_on : (k : ℕ) (text name : List ℕ) (t : Ty) (i : ℕ) (n : Name) → type_named types text ≡ Some t → slice_get (names_in t) i ≡ Some n → meets k types text name ≡ true
      → meets (suc k) types n.text name ≡ true
  unfolding meets
  meets_on k text name t i n known at e = on k name e
    where
      item : (j : ℕ) (other : List ℕ) → bytes_eq other text ≡ true → list_any (λ (m : Name). meets j types n.text m.text) (names_of_item (type_named types other)) ≡ true
      item j other h =
          let same : other ≡ text = (bytes_eq-Decides other text).0 h in
          let names : names_of_item (type_named types other) ≡ names_in t = ap (λ (q : List ℕ). names_of_item (type_named types q)) same ∙ ap (λ (q : Option Ty). names_of_item q) known in
          subst (λ (q : List Name). list_any (λ (m : Name). meets j types n.text m.text) q ≡ true) (sym names)
          (any_from (λ (m : Name). meets j types n.text m.text) (names_in t) i n at (meets_self j n.text))

      by : (j : ℕ) (other : List ℕ) → (bytes_eq other text ≡ true) ⊎ (list_any (λ (m : Name). meets j types text m.text) (names_of_item (type_named types other)) ≡ true)
          → (list_any (λ (m : Name). meets j types text m.text) (names_of_item (type_named types other)) ≡ true
          → list_any (λ (m : Name). meets (suc j) types n.text m.text) (names_of_item (type_named types other)) ≡ true)
          → meets (suc (suc j)) types n.text other ≡ true
      by j other (inl h) more = or_from_right (bytes_eq other n.text) (list_any (λ (m : Name). meets (suc j) types n.text m.text) (names_of_item (type_named types other))) (item (suc j) other h)
      by j other (inr h) more = or_from_right (bytes_eq other n.text) (list_any (λ (m : Name). meets (suc j) types n.text m.text) (names_of_item (type_named types other))) (more h)

      on : (j : ℕ) (other : List ℕ) → meets j types text other ≡ true → meets (suc j) types n.text other ≡ true
      on zero other h = or_from_right (bytes_eq other n.text) (list_any (λ (m : Name). meets zero types n.text m.text) (names_of_item (type_named types other))) (item zero other h)
      on (suc j) other h =
          by j other (or_true (bytes_eq other text) (list_any (λ (m : Name). meets j types text m.text) (names_of_item (type_named types other))) h)
          (any_more (λ (m : Name). meets j types text m.text) (λ (m : Name). meets (suc j) types n.text m.text) (names_of_item (type_named types other)) (λ (m : Name) g. on j m.text g))

-- ---- in an accepted tree no chain comes back

filter_none : {X Y : Type 0} (f : X → Y) (p : X → Bool) (xs : List X) (i : ℕ) (x : X) → map f (filter p xs) ≡ [] → slice_get xs i ≡ Some x → p x ≡ false
filter_none f p [] i x e h = absurd cc
filter_none {X} f p (y ∷ ys) i x e h = by (p y) refl i h e (λ j g k. filter_none f p ys j x k g)
  where
    by : (b : Bool) → p y ≡ b → (j : ℕ) → slice_get (y ∷ ys) j ≡ Some x → map f (cond b (y ∷ filter p ys) (filter p ys)) ≡ []
        → ((k : ℕ) → slice_get ys k ≡ Some x → map f (filter p ys) ≡ [] → p x ≡ false) → p x ≡ false
    by true q j g k more = absurd cc
    by false q zero g k more = subst (λ (z : X). p z ≡ false) (same_Some y x g) q
    by false q (suc j) g k more = more j g k

-- the pieces of each element of a list are empty where those of all are
pub each_inner : {X Y Z : Type 0} (f : Y → List Z) (g : X → List Y) (xs : List X) (i : ℕ) (x : X) → flat_map f (flat_map g xs) ≡ [] → slice_get xs i ≡ Some x → flat_map f (g x) ≡ []
each_inner f g [] i x e h = absurd cc
each_inner {X} f g (y ∷ ys) zero x e h = subst (λ (q : X). flat_map f (g q) ≡ []) (same_Some y x h)
    (front_none (flat_map f (g y)) (flat_map f (flat_map g ys)) (sym (flat_map-append f (g y) (flat_map g ys)) ∙ e))
each_inner f g (y ∷ ys) (suc i) x e h = each_inner f g ys i x (behind_none (flat_map f (g y)) (flat_map f (flat_map g ys)) (sym (flat_map-append f (g y) (flat_map g ys)) ∙ e)) h

-- a chain from the item of one name to another name, through so many items
record Leads (types : List NamedType) (from text : List ℕ) (k : ℕ) : Type 0 where
  ty : Ty
  known : type_named types from ≡ Some ty
  place : ℕ
  first : Name
  there : slice_get (names_in ty) place ≡ Some first
  met : meets k types text first.text ≡ true

type_texts : List NamedType → List (List ℕ)
type_texts types = map (λ (i : NamedType). i.name.text) types

known_member : (types : List NamedType) (text : List ℕ) → IsKnown types text → is_member bytes_eq (type_texts types) text ≡ true
unfolding type_texts
known_member types text h =
    let i = item_of types text h.0 h.1 in
    let at : slice_get (type_texts types) i.place ≡ Some i.item.name.text =
    slice_get-map (λ (x : NamedType). x.name.text) types i.place ∙ ap (λ (o : Option NamedType). option_map (λ (x : NamedType). x.name.text) o) i.there in
    any_from (bytes_eq text) (type_texts types) i.place i.item.name.text at ((bytes_eq-Decides text i.item.name.text).1 (sym i.text_is))

visited_known : (types : List NamedType) (text : List ℕ) (k : ℕ) (visited : List (List ℕ)) (q : List ℕ) → AllByRecursion (λ (v : List ℕ). Leads types v text k) visited
    → list_any (bytes_eq q) visited ≡ true → IsKnown types q
visited_known types text k [] q h e = absurd cc
visited_known types text k (v ∷ vs) q h e = by (or_true (bytes_eq q v) (list_any (bytes_eq q) vs) e) (visited_known types text k vs q h.1)
  where
    by : (bytes_eq q v ≡ true) ⊎ (list_any (bytes_eq q) vs ≡ true) → (list_any (bytes_eq q) vs ≡ true → IsKnown types q) → IsKnown types q
    by (inl g) more = subst (λ (x : List ℕ). IsKnown types x) (sym ((bytes_eq-Decides q v).0 g)) (h.0.ty, h.0.known)
    by (inr g) more = more g

module _ (m : Tree) (accepted : IsUnrefused m) where
  item_known : (text : List ℕ) (t : Ty) → type_named m.types text ≡ Some t → flat_map (unknown_type m.types) (types_within t) ≡ []
  unfolding item_refused unknown_types
  item_known text t e =
      let i = item_of m.types text t e in
      subst (λ (q : Ty). flat_map (unknown_type m.types) (types_within q) ≡ []) i.ty_is
      (each_inner (unknown_type m.types) types_within (i.item.ty ∷ []) 0 i.item.ty (items_pass m accepted i.place i.item i.there UnknownName) refl)

  item_right : (text : List ℕ) (t : Ty) → type_named m.types text ≡ Some t → Right m.types (types_within t)
  unfolding item_refused wrong_types
  item_right text t e =
      let i = item_of m.types text t e in
      subst (λ (q : Ty). flat_map (wrong_type m.types) (types_within q) ≡ []) i.ty_is
      (each_inner (wrong_type m.types) types_within (i.item.ty ∷ []) 0 i.item.ty
      (front_none (wrong_types m.types (i.item.ty ∷ [])) (self_contained m.types i.item) (items_pass m accepted i.place i.item i.there WrongType)) refl)

  no_return : (text : List ℕ) (t : Ty) (i : ℕ) (n : Name) (k : ℕ) → type_named m.types text ≡ Some t → slice_get (names_in t) i ≡ Some n → k ≤ length m.types
      → meets k m.types text n.text ≡ true → ⊥
  unfolding item_refused self_contained
  no_return text t i n k e at l h =
      let x = item_of m.types text t e in
      let none = behind_none (wrong_types m.types (x.item.ty ∷ [])) (self_contained m.types x.item) (items_pass m accepted x.place x.item x.there WrongType) in
      let there : slice_get (names_in x.item.ty) i ≡ Some n = subst (λ (q : Ty). slice_get (names_in q) i ≡ Some n) (sym x.ty_is) at in
      let false_here : meets (length m.types) m.types x.item.name.text n.text ≡ false =
      filter_none (λ (y : Name). y.span) (λ (y : Name). meets (length m.types) m.types x.item.name.text y.text) (names_in x.item.ty) i n none there in
      let far : k + (length m.types - k) ≡ length m.types = omega arith in
      let true_here : meets (length m.types) m.types text n.text ≡ true = subst (λ (q : ℕ). meets q m.types text n.text ≡ true) far (meets_plus m.types (length m.types - k) k text n.text h) in
      true≢false (sym (subst (λ (q : List ℕ). meets (length m.types) m.types q n.text ≡ true) (sym x.text_is) true_here) ∙ false_here)

  new_here : (text : List ℕ) (k : ℕ) → k ≤ length m.types → (v : List ℕ) → Leads m.types v text k → bytes_eq text v ≡ false
  new_here text k l v h = by (bytes_eq text v) refl
    where
      by : (b : Bool) → bytes_eq text v ≡ b → bytes_eq text v ≡ false
      by false e = e
      by true e = absurd (no_return v h.ty h.place h.first k h.known h.there l (subst (λ (q : List ℕ). meets k m.types q h.first.text ≡ true) ((bytes_eq-Decides text v).0 e) h.met))

  distinct_with : (text : List ℕ) (visited : List (List ℕ)) → length visited ≤ length m.types → IsDistinct bytes_eq visited
      → AllByRecursion (λ (v : List ℕ). Leads m.types v text (length visited)) visited → IsDistinct bytes_eq (text ∷ visited)
  unfolding IsDistinct
  distinct_with text visited l d h = (all_on (λ (v : List ℕ). Leads m.types v text (length visited)) (λ (v : List ℕ). bytes_eq text v ≡ false) visited (new_here text (length visited) l) h, d)

  member_in : (text : List ℕ) (visited : List (List ℕ)) → IsKnown m.types text → AllByRecursion (λ (v : List ℕ). Leads m.types v text (length visited)) visited → (q : List ℕ)
      → is_member bytes_eq (text ∷ visited) q ≡ true → is_member bytes_eq (type_texts m.types) q ≡ true
  member_in text visited known h q e = by (or_true (bytes_eq q text) (list_any (bytes_eq q) visited) e)
    where
      by : (bytes_eq q text ≡ true) ⊎ (list_any (bytes_eq q) visited ≡ true) → is_member bytes_eq (type_texts m.types) q ≡ true
      by (inl g) = known_member m.types q (subst (λ (x : List ℕ). IsKnown m.types x) (sym ((bytes_eq-Decides q text).0 g)) known)
      by (inr g) = known_member m.types q (visited_known m.types text (length visited) visited q h g)

  texts_count : length (type_texts m.types) ≡ length m.types
  unfolding type_texts
  texts_count = by m.types
    where
      by : (xs : List NamedType) → length (map (λ (i : NamedType). i.name.text) xs) ≡ length xs
      by [] = refl
      by (x ∷ xs) = ap suc (by xs)

  few_visited : (text : List ℕ) (visited : List (List ℕ)) → IsKnown m.types text → IsDistinct bytes_eq (text ∷ visited)
      → AllByRecursion (λ (v : List ℕ). Leads m.types v text (length visited)) visited → suc (length visited) ≤ length m.types
  few_visited text visited known d h =
      let most : length (text ∷ visited) ≤ length (type_texts m.types) = length-le_from_is_member nat_list_eq_equiv (text ∷ visited) (type_texts m.types) d (member_in text visited known h) in
      omega (arith, most, texts_count)

  leads_on : (text : List ℕ) (t : Ty) (i : ℕ) (n : Name) (k : ℕ) → type_named m.types text ≡ Some t → slice_get (names_in t) i ≡ Some n → (v : List ℕ) → Leads m.types v text k
      → Leads m.types v n.text (suc k)
  leads_on text t i n k e at v h = record { ty = h.ty; known = h.known; place = h.place; first = h.first; there = h.there; met = meets_on m.types k text h.first.text t i n e at h.met }

  has_within : (n : ℕ) (visited : List (List ℕ)) (text : List ℕ) (t : Ty) → n + length visited ≡ length m.types → IsDistinct bytes_eq visited
      → AllByRecursion (λ (v : List ℕ). Leads m.types v text (length visited)) visited → type_named m.types text ≡ Some t → Has (type_within n m.types text)
  unfolding type_within
  has_within zero visited text t l d h e =
      let d2 = distinct_with text visited (omega (arith, l)) d h in
      let few = few_visited text visited (t, e) d2 h in
      absurd (omega (arith, few, l))
  has_within (suc n) visited text t l d h e =
      let d2 = distinct_with text visited (omega (arith, l)) d h in
      let known = known_names m.types (types_within t) (item_known text t e) in
      let names = all_named (type_within n m.types) (types_within t)
      (λ (i : ℕ) (x : Name) at. has_within n (text ∷ visited) x.text (known i x at).0 (omega (arith, l)) d2 (leads i x at) (known i x at).1) in
      let r = type_has m.types (type_within n m.types) below t (item_right text t e) names in
      (r.0, ap (λ (o : Option Ty). option_and_then (λ u. type_by (type_within n m.types) u) o) e ∙ r.1)
    where
      below : Below (type_within n m.types) (type_within (length m.types) m.types)
      below = within_less n (length m.types) m.types (omega (arith, l))

      leads : (i : ℕ) (x : Name) → slice_get (names_in t) i ≡ Some x → AllByRecursion (λ (v : List ℕ). Leads m.types v x.text (suc (length visited))) (text ∷ visited)
      leads i x at = (
        record { ty = t; known = e; place = i; first = x; there = at; met = meets_self m.types (suc (length visited)) x.text },
        all_on (λ (v : List ℕ). Leads m.types v text (length visited)) (λ (v : List ℕ). Leads m.types v x.text (suc (length visited))) visited (leads_on text t i x (length visited) e at) h,
      )

  name_has : (text : List ℕ) → IsKnown m.types text → Has (type_within (length m.types) m.types text)
  unfolding IsDistinct
  name_has text h = has_within (length m.types) [] text h.0 (omega arith) tt tt h.1

  -- a type of which nothing is refused is one
  pub type_is : (t : Ty) → flat_map (unknown_type m.types) (types_within t) ≡ [] → Right m.types (types_within t) → Has (resolved m.types t)
  unfolding resolved
  type_is t u r =
      let known = known_names m.types (types_within t) u in
      type_has m.types (type_within (length m.types) m.types) (λ text q e. e) t r
      (all_named (type_within (length m.types) m.types) (types_within t) (λ (i : ℕ) (n : Name) at. name_has n.text (known i n at)))

  -- so is each type of a list of which nothing is refused
  pub types_are : (ts : List Ty) (i : ℕ) (t : Ty) → unknown_types m.types ts ≡ [] → wrong_types m.types ts ≡ [] → slice_get ts i ≡ Some t → Has (resolved m.types t)
  unfolding unknown_types wrong_types
  types_are ts i t u r e = type_is t (each_inner (unknown_type m.types) types_within ts i t u e) (each_inner (wrong_type m.types) types_within ts i t r e)
