-- One item more has a number.
use Rattle.std.proofs.Common.{◌≡◌, ℕ, zero, suc, ◌+◌, ◌<◌, Bool, true, false, cond, List, [], ◌∷◌, length, map, get_or, slice_get, slice_set, Option, Some, None}
use Rattle.std.proofs.Common.{◌⊎◌, inl, inr, refl, sym, ap, subst, ◌∙◌, arith, Bor}
use Rattle.std.specs.List.{position_from}
use Rattle.std.specs.Option.{option_and_then}
use Rattle.std.specs.Str.{bytes_eq}
use Rattle.std.proofs.lemmas.Option.{slice_get-get_or, same_Some}
use Rattle.std.proofs.lemmas.Slice.Eq.{bytes_eq-Decides}
use Rattle.indexmap.specs.IndexMap.{IndexMap}
use Rattle.pg_read_ast.specs.declared.nodes.TypeItem.{TypeItem}
use Rattle.pg_read_ast.specs.Views.{ty_of, type_item_of}
use Rattle.pg_check_types.specs.Resolved.{ResolvedType, type_within}
use Rattle.pg_check_types.specs.Resolved as resolved
use Rattle.pg_check_types.specs.Table.{Grows}
use Rattle.pg_check_types.specs.NameIndex.{first_place, known_place}
use Rattle.pg_check_types.specs.Known.{IsWithin, AreWithin, item_number}
use Rattle.pg_check_types.specs.Items.{item_text, item_texts, found_count, AreFound, named_by, IsStuck, IsFoundAt}
use Rattle.pg_check_types.proofs.Fuel.{within_plus}
use Rattle.pg_check_types.proofs.Resolutions.{denoted_more, within_more, all_within_more}
use Rattle.pg_check_types.proofs.ItemNumbers.{at_least, same_names}

-- ---- a list with one element changed

set_get : {X : Type 0} (xs : List X) (i j : ℕ) (v y : X) → slice_get (slice_set xs i v) j ≡ Some y → ((j ≡ i) × (y ≡ v)) ⊎ (slice_get xs j ≡ Some y)
set_get [] i j v y e = inr e
set_get (x ∷ xs) zero zero v y e = inl (refl, sym (same_Some v y e))
set_get (x ∷ xs) zero (suc j) v y e = inr e
set_get (x ∷ xs) (suc i) zero v y e = inr e
set_get (x ∷ xs) (suc i) (suc j) v y e = more (set_get xs i j v y e)
  where
    more : ((j ≡ i) × (y ≡ v)) ⊎ (slice_get xs j ≡ Some y) → ((suc j ≡ suc i) × (y ≡ v)) ⊎ (slice_get xs j ≡ Some y)
    more (inl h) = inl (ap suc h.0, h.1)
    more (inr h) = inr h

pub count_more : (items : List (Option ℕ)) (place t : ℕ) → slice_get items place ≡ Some None → found_count (slice_set items place (Some t)) ≡ found_count items + 1
count_more [] place t e = cc
count_more (None ∷ items) zero t e = add_one_to (found_count items)
  where
    add_one_to : (n : ℕ) → suc n ≡ n + 1
    add_one_to n = omega arith
count_more (Some x ∷ items) zero t e = cc
count_more (None ∷ items) (suc place) t e = count_more items place t e
count_more (Some x ∷ items) (suc place) t e = let h = count_more items place t e in omega (arith, h)

-- ---- the text of the first item of a name

place_text_from : (text : List ℕ) (k : ℕ) (types : List TypeItem) (p n : ℕ) (i : TypeItem) → position_from (λ t. bytes_eq t text) k (item_texts types) ≡ Some n → n ≡ k + p
    → slice_get types p ≡ Some i → item_text i ≡ text
place_text_from text k [] p n i e m s = cc
place_text_from text k (x ∷ types) zero n i e m s = by (bytes_eq x.name.text text) refl e
  where
    by : (b : Bool) → bytes_eq x.name.text text ≡ b → cond b (Some k) (position_from (λ t. bytes_eq t text) (k + 1) (item_texts types)) ≡ Some n → item_text i ≡ text
    by true h f = ap (λ (y : TypeItem). item_text y) (sym (same_Some x i s)) ∙ (bytes_eq-Decides x.name.text text).0 h
    by false h f = let l = at_least (λ t. bytes_eq t text) (k + 1) (item_texts types) n f in absurd (omega (arith, l, m))
place_text_from text k (x ∷ types) (suc p) n i e m s = by (bytes_eq x.name.text text) (λ f. place_text_from text (k + 1) types p n i f (omega (arith, m)) s) e
  where
    by : (b : Bool) → (position_from (λ t. bytes_eq t text) (k + 1) (item_texts types) ≡ Some n → item_text i ≡ text)
        → cond b (Some k) (position_from (λ t. bytes_eq t text) (k + 1) (item_texts types)) ≡ Some n → item_text i ≡ text
    by true h f = let q : k ≡ n = same_Some k n f in absurd (omega (arith, q, m))
    by false h f = h f

place_text : (text : List ℕ) (types : List TypeItem) (p : ℕ) (i : TypeItem) → first_place (item_texts types) text ≡ Some p → slice_get types p ≡ Some i → item_text i ≡ text
place_text text types p i e s = place_text_from text 0 types p p i e (omega arith) s

-- ---- numbers

pub still_found : (types : List TypeItem) (a b : List ResolvedType) (number : List ℕ → Option ℕ) (count : ℕ) → Grows a b → AreFound types a number count → AreFound types b number count
still_found types a b number count g f = record {
  within = all_within_more a b number g f.within;
  same = λ text t e. f.same text t e ∙ sym (denoted_more a b (Some t) g (subst (λ o. IsWithin a o) e (f.within text)));
}

put_number : {S : Type 0} (places : IndexMap (Bor (List ℕ)) ℕ S) (items : List (Option ℕ)) (place t u : ℕ) (text : List ℕ)
    → item_number places (slice_set items place (Some t)) text ≡ Some u
    → ((known_place places text ≡ Some place) × (u ≡ t)) ⊎ (item_number places items text ≡ Some u)
unfolding item_number
put_number places items place t u text e = by (known_place places text) e
  where
    at : (p : ℕ) (o : Option (Option ℕ)) → slice_get (slice_set items place (Some t)) p ≡ o → option_and_then (λ x. x) o ≡ Some u
        → ((Some p ≡ Some place) × (u ≡ t)) ⊎ (option_and_then (λ x. x) (slice_get items p) ≡ Some u)
    at p None h f = cc
    at p (Some o) h f = here (set_get items place p (Some t) o h)
      where
        here : ((p ≡ place) × (o ≡ Some t)) ⊎ (slice_get items p ≡ Some o) → ((Some p ≡ Some place) × (u ≡ t)) ⊎ (option_and_then (λ x. x) (slice_get items p) ≡ Some u)
        here (inl k) = inl (ap (λ n. Some n) k.0, same_Some u t (sym f ∙ k.1))
        here (inr k) = inr (ap (λ y. option_and_then (λ x. x) y) k ∙ f)

    by : (k : Option ℕ) → option_and_then (λ p. option_and_then (λ x. x) (slice_get (slice_set items place (Some t)) p)) k ≡ Some u
        → ((k ≡ Some place) × (u ≡ t)) ⊎ (option_and_then (λ p. option_and_then (λ x. x) (slice_get items p)) k ≡ Some u)
    by None f = cc
    by (Some p) f = at p (slice_get (slice_set items place (Some t)) p) refl f

-- one number more keeps what is found
pub more_found : {S : Type 0} (types : List TypeItem) (a b : List ResolvedType) (places : IndexMap (Bor (List ℕ)) ℕ S) (items : List (Option ℕ)) (place t : ℕ)
    → ((text : List ℕ) → known_place places text ≡ first_place (item_texts types) text) → Grows a b → AreFound types a (item_number places items) (found_count items)
    → IsFoundAt types b items place t
    → AreFound types b (item_number places (slice_set items place (Some t))) (found_count (slice_set items place (Some t)))
more_found types a b places items place t known g f h = record {
  within = λ text. within_at text (item_number places (slice_set items place (Some t)) text) refl;
  same = λ text u e. same_at text u (put_number places items place t u text e);
}
  where
    counted : found_count (slice_set items place (Some t)) ≡ found_count items + 1
    counted = count_more items place t h.is_open.none

    old : (text : List ℕ) (u : ℕ) → item_number places items text ≡ Some u → IsWithin b (Some u)
    old text u e = within_more a b (Some u) g (subst (λ o. IsWithin a o) e (f.within text))

    within_at : (text : List ℕ) (o : Option ℕ) → item_number places (slice_set items place (Some t)) text ≡ o → IsWithin b o
    within_at text None e = tt
    within_at text (Some u) e = by (put_number places items place t u text e)
      where
        by : ((known_place places text ≡ Some place) × (u ≡ t)) ⊎ (item_number places items text ≡ Some u) → IsWithin b (Some u)
        by (inl k) = subst (λ n. n < length b) (sym k.1) h.within
        by (inr k) = old text u k

    same_at : (text : List ℕ) (u : ℕ) → ((known_place places text ≡ Some place) × (u ≡ t)) ⊎ (item_number places items text ≡ Some u)
        → type_within (found_count (slice_set items place (Some t))) (map type_item_of types) text ≡ slice_get b u
    same_at text u (inl k) =
        let same = place_text text types place h.item (sym (known text) ∙ k.0) h.is_open.item in
        ap (λ n. type_within n (map type_item_of types) text) counted ∙ ap (λ x. type_within (found_count items + 1) (map type_item_of types) x) (sym same) ∙ h.same
        ∙ ap (λ n. slice_get b n) (sym k.1)
    same_at text u (inr k) =
        let w = subst (λ o. IsWithin a o) k (f.within text) in
        let r = get_or a u resolved.VoidType in
        let s = slice_get-get_or a u resolved.VoidType w in
        ap (λ n. type_within n (map type_item_of types) text) counted
        ∙ within_plus 1 (found_count items) (map type_item_of types) text r (f.same text u k ∙ s)
        ∙ sym s ∙ sym (denoted_more a b (Some u) g w)

pub still_stuck : (types : List TypeItem) (a b : List ResolvedType) (number : List ℕ → Option ℕ) (items : List (Option ℕ)) (place : ℕ) → Grows a b → AreWithin a number
    → IsStuck types a number items place → IsStuck types b number items place
still_stuck types a b number items place g w s = λ i o. same_names (named_by a number) (named_by b number) (λ text. sym (denoted_more a b (number text) g (w text))) (ty_of i.ty) (s i o)
