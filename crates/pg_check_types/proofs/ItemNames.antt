-- The type items, when nothing more is found.
use Rattle.std.proofs.Common.{◌≡◌, ℕ, zero, suc, ◌+◌, ◌-◌, ◌<◌, Bool, true, false, cond, List, [], ◌∷◌, ◌++◌, length, map, get_or, replicate, take, slice_get}
use Rattle.std.proofs.Common.{Option, Some, None, refl, sym, ap, subst, ◌∙◌, arith, Bor}
use Rattle.std.specs.List.{position_from}
use Rattle.std.specs.Option.{option_and_then}
use Rattle.std.specs.Str.{bytes_eq}
use Rattle.std.proofs.lemmas.Option.{slice_get-get_or, slice_get_within}
use Rattle.std.proofs.lemmas.Slice.Eq.{bytes_eq-Decides}
use Rattle.indexmap.specs.IndexMap.{IndexMap}
use Rattle.pg_read_ast.specs.declared.nodes.TypeItem.{TypeItem}
use Rattle.pg_read_ast.specs.Syntax.{Ty}
use Rattle.pg_read_ast.specs.Numbers.{type_named}
use Rattle.pg_read_ast.specs.Views.{ty_of, type_item_of}
use Rattle.pg_check_types.specs.Resolved as resolved
use Rattle.pg_check_types.specs.Resolved.{ResolvedType, type_by, type_within}
use Rattle.pg_check_types.specs.NameIndex.{first_place, known_place}
use Rattle.pg_check_types.specs.Known.{denoted, IsWithin, Names, item_number}
use Rattle.pg_check_types.specs.Items.{item_text, item_texts, found_count, AreFound, named_by, AreStuck}
use Rattle.pg_check_types.proofs.Fuel.{Below, type_keeps, within_plus}
use Rattle.pg_check_types.proofs.ItemPasses.{count_within}

-- the first item of a name that has a type
pub record Holds (types : List TypeItem) (text : List ℕ) (t : Ty) (k n : ℕ) : Type 0 where
  pub place : ℕ
  pub item : TypeItem
  pub at : n ≡ k + place
  pub is : slice_get types place ≡ Some item
  pub ty : t ≡ ty_of item.ty
  pub text_is : item_text item ≡ text

holder : (types : List TypeItem) (text : List ℕ) (t : Ty) (k : ℕ) → type_named (map type_item_of types) text ≡ Some t
    → (n : ℕ) × (position_from (λ u. bytes_eq u text) k (item_texts types) ≡ Some n) × Holds types text t k n
holder [] text t k e = cc
holder (x ∷ types) text t k e = by (bytes_eq x.name.text text) refl (holder types text t (k + 1)) e
  where
    by : (b : Bool) → bytes_eq x.name.text text ≡ b
        → (type_named (map type_item_of types) text ≡ Some t → (n : ℕ) × (position_from (λ u. bytes_eq u text) (k + 1) (item_texts types) ≡ Some n) × Holds types text t (k + 1) n)
        → cond b (Some (ty_of x.ty)) (type_named (map type_item_of types) text) ≡ Some t
        → (n : ℕ) × (cond b (Some k) (position_from (λ u. bytes_eq u text) (k + 1) (item_texts types)) ≡ Some n) × Holds (x ∷ types) text t k n
    by true m h f = (k, refl, record { place = 0; item = x; at = omega arith; is = refl; ty = cc; text_is = (bytes_eq-Decides x.name.text text).0 m })
    by false m h f =
        let r = h f in
        (r.0, r.1, record { place = suc r.2.place; item = r.2.item; at = omega (arith, r.2.at); is = r.2.is; ty = r.2.ty; text_is = r.2.text_is })

module _ {S : Type 0} (types : List TypeItem) (table : List ResolvedType) (places : IndexMap (Bor (List ℕ)) ℕ S) (items : List (Option ℕ))
    (known : (text : List ℕ) → known_place places text ≡ first_place (item_texts types) text) (lengths : length items ≡ length types)
    (found : AreFound types table (item_number places items) (found_count items)) (stuck : AreStuck types table (item_number places items) items (length types)) where
  -- an item without a number is open
  open_item : (text : List ℕ) (t : Ty) → type_named (map type_item_of types) text ≡ Some t → item_number places items text ≡ None
      → type_by (named_by table (item_number places items)) t ≡ None
  unfolding item_number
  open_item text t e m =
      let h = holder types text t 0 e in
      let p = h.2.place in
      let at : h.0 ≡ p = omega (arith, h.2.at) in
      let l = slice_get_within types p h.2.item h.2.is in
      let first : first_place (item_texts types) text ≡ Some p = h.1 ∙ ap (λ n. Some n) at in
      let none = no_number p (omega (arith, l, lengths)) (ap (λ o. option_and_then (λ q. option_and_then (λ x. x) (slice_get items q)) o) (sym (known text ∙ first)) ∙ m) in
      ap (λ y. type_by (named_by table (item_number places items)) y) h.2.ty
      ∙ stuck p l h.2.item (record { item = h.2.is; first = ap (λ y. first_place (item_texts types) y) h.2.text_is ∙ first; none = none })
    where
      no_number : (p : ℕ) → p < length items → option_and_then (λ x. x) (slice_get items p) ≡ None → slice_get items p ≡ Some None
      no_number p l e = by (get_or items p None) (slice_get-get_or items p None l)
        where
          by : (o : Option ℕ) → slice_get items p ≡ Some o → slice_get items p ≡ Some None
          by None f = f
          by (Some n) f = let g : Some n ≡ None = ap (λ y. option_and_then (λ x. x) y) (sym f) ∙ e in cc

  -- two numbers of items to go through give one type
  one_type : (m n : ℕ) (text : List ℕ) (r s : ResolvedType) → type_within m (map type_item_of types) text ≡ Some r → type_within n (map type_item_of types) text ≡ Some s
      → Some r ≡ Some s
  one_type m n text r s e f =
      let c : n + m ≡ m + n = omega arith in
      sym (within_plus n m (map type_item_of types) text r e) ∙ ap (λ k. type_within k (map type_item_of types) text) (sym c) ∙ within_plus m n (map type_item_of types) text s f

  -- whatever a name stands for is known
  all_known : (n : ℕ) → Below (type_within n (map type_item_of types)) (named_by table (item_number places items))
  unfolding type_within
  all_known zero text r e = cc
  all_known (suc n) text r e = by (type_named (map type_item_of types) text) refl (all_known n) e
    where
      by : (o : Option Ty) → type_named (map type_item_of types) text ≡ o → Below (type_within n (map type_item_of types)) (named_by table (item_number places items))
          → option_and_then (λ t. type_by (type_within n (map type_item_of types)) t) o ≡ Some r → denoted table (item_number places items text) ≡ Some r
      by None h b f = cc
      by (Some t) h b f = number (item_number places items text) refl
        where
          kept : type_by (named_by table (item_number places items)) t ≡ Some r
          kept = type_keeps (type_within n (map type_item_of types)) (named_by table (item_number places items)) b t r f

          number : (o : Option ℕ) → item_number places items text ≡ o → denoted table o ≡ Some r
          number None m = let g : None ≡ Some r = sym (open_item text t h m) ∙ kept in cc
          number (Some u) m =
              let w = subst (λ o. IsWithin table o) m (found.within text) in
              let s = slice_get-get_or table u resolved.VoidType w in
              s ∙ one_type (found_count items) (suc n) text (get_or table u resolved.VoidType) r (found.same text u m ∙ s) e

  pub names_found : Names table (item_number places items) (type_within (length types) (map type_item_of types))
  names_found text = by (item_number places items text) refl
    where
      by : (o : Option ℕ) → item_number places items text ≡ o → type_within (length types) (map type_item_of types) text ≡ denoted table o
      by None m = nothing (type_within (length types) (map type_item_of types) text) refl
        where
          nothing : (o : Option ResolvedType) → type_within (length types) (map type_item_of types) text ≡ o → type_within (length types) (map type_item_of types) text ≡ None
          nothing None h = h
          nothing (Some r) h = let g : None ≡ Some r = ap (λ o. denoted table o) (sym m) ∙ all_known (length types) text r h in cc
      by (Some u) m =
          let w = subst (λ o. IsWithin table o) m (found.within text) in
          let s = slice_get-get_or table u resolved.VoidType w in
          let l = count_within items in
          let c : found_count items + (length types - found_count items) ≡ length types = omega (arith, l, lengths) in
          ap (λ k. type_within k (map type_item_of types) text) (sym c)
          ∙ within_plus (length types - found_count items) (found_count items) (map type_item_of types) text (get_or table u resolved.VoidType) (found.same text u m ∙ s)
          ∙ sym s

-- ---- the begin

abbrev nones : ℕ → List (Option ℕ)
nones n = replicate n None

none_at : (n p : ℕ) → option_and_then (λ x. x) (slice_get (nones n) p) ≡ None
none_at zero p = refl
none_at (suc n) zero = refl
none_at (suc n) (suc p) = none_at n p

none_number : {S : Type 0} (places : IndexMap (Bor (List ℕ)) ℕ S) (n : ℕ) (text : List ℕ) → item_number places (replicate n None) text ≡ None
unfolding item_number
none_number places n text = by (known_place places text)
  where
    by : (o : Option ℕ) → option_and_then (λ p. option_and_then (λ x. x) (slice_get (nones n) p)) o ≡ None
    by None = refl
    by (Some p) = none_at n p

pub none_found : {S : Type 0} (types : List TypeItem) (table : List ResolvedType) (places : IndexMap (Bor (List ℕ)) ℕ S) (items : List (Option ℕ)) (n : ℕ) → items ≡ replicate n None
    → AreFound types table (item_number places items) (found_count items)
none_found types table places items n e = subst (λ xs. AreFound types table (item_number places xs) (found_count xs)) (sym e) (record {
  within = λ text. subst (λ o. IsWithin table o) (sym (none_number places n text)) tt;
  same = λ text t h. let g : None ≡ Some t = sym (none_number places n text) ∙ h in cc;
})

-- a part that is written back whole
pub written_back : (xs ys : List (Option ℕ)) (n : ℕ) → n ≡ length xs → take n (xs ++ ys) ≡ xs
written_back xs ys n e = ap (λ k. take k (xs ++ ys)) e ∙ whole xs
  where
    whole : (xs : List (Option ℕ)) → take (length xs) (xs ++ ys) ≡ xs
    whole [] = refl
    whole (x ∷ xs) = ap (λ zs. x ∷ zs) (whole xs)
