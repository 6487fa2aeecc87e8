-- The numbers of type items.
use Rattle.std.proofs.Common.{◌≡◌, ℕ, zero, suc, ◌+◌, ◌<◌, ◌≤◌, Bool, true, false, true≢false, not, cond, List, [], ◌∷◌, length, map, get_or, slice_get, Option}
use Rattle.std.proofs.Common.{Some, None, is_some, eqb, Result, Ok, Err, IfOk, IfSome, refl, sym, ap, ◌∙◌, add-one, arith}
use Rattle.std.specs.List.{position_from}
use Rattle.std.specs.Option.{option_and_then, option_eq}
use Rattle.std.proofs.lemmas.Bool.{eqb-true}
use Rattle.std.specs.Str.{bytes_eq}
use Rattle.std.proofs.lemmas.Option.{slice_get-get_or, slice_get_read, same_Some}
use Rattle.pg_read_ast.specs.declared.nodes.TypeItem.{TypeItem}
use Rattle.pg_read_ast.specs.Syntax.{Ty}
use Rattle.pg_read_ast.specs.Numbers.{type_named}
use Rattle.pg_read_ast.specs.Views.{ty_of, type_item_of}
use Rattle.pg_check_types.specs.Resolved as resolved
use Rattle.pg_check_types.specs.Resolved.{ResolvedType, type_by, type_within}
use Rattle.pg_check_types.specs.Table.{Grows}
use Rattle.pg_check_types.specs.NameIndex.{first_place}
use Rattle.pg_check_types.specs.Known.{denoted, IsWithin, AreWithin}
use Rattle.pg_check_types.specs.Items.{item_text, item_texts, found_count, AreFound, named_by, IsOpen, IsStuck, IsFoundAt}
use Rattle.pg_check_types.proofs.Shapes.{none_of}
use Rattle.pg_check_types.proofs.Fuel.{Below, type_keeps}
use Rattle.pg_check_types.proofs.Resolutions.{denoted_more}

-- ---- the item of a name

pub at_least : (test : List ℕ → Bool) (k : ℕ) (ts : List (List ℕ)) (n : ℕ) → position_from test k ts ≡ Some n → k ≤ n
at_least test k [] n e = cc
at_least test k (t ∷ ts) n e = by (test t) (at_least test (k + 1) ts n) e
  where
    by : (b : Bool) → (position_from test (k + 1) ts ≡ Some n → k + 1 ≤ n) → cond b (Some k) (position_from test (k + 1) ts) ≡ Some n → k ≤ n
    by true h f = let s : k ≡ n = same_Some k n f in omega (arith, s)
    by false h f = let l : k + 1 ≤ n = h f in omega (arith, l)

first_type_from : (text : List ℕ) (k : ℕ) (types : List TypeItem) (p n : ℕ) (i : TypeItem) → position_from (λ t. bytes_eq t text) k (item_texts types) ≡ Some n → n ≡ k + p
    → slice_get types p ≡ Some i → type_named (map type_item_of types) text ≡ Some (ty_of i.ty)
first_type_from text k [] p n i e m s = cc
first_type_from text k (x ∷ types) zero n i e m s = by (bytes_eq x.name.text text) e
  where
    by : (b : Bool) → cond b (Some k) (position_from (λ t. bytes_eq t text) (k + 1) (item_texts types)) ≡ Some n
        → cond b (Some (ty_of x.ty)) (type_named (map type_item_of types) text) ≡ Some (ty_of i.ty)
    by true f = ap (λ (y : TypeItem). Some (ty_of y.ty)) (same_Some x i s)
    by false f = let l = at_least (λ t. bytes_eq t text) (k + 1) (item_texts types) n f in absurd (omega (arith, l, m))
first_type_from text k (x ∷ types) (suc p) n i e m s = by (bytes_eq x.name.text text) (λ f. first_type_from text (k + 1) types p n i f (omega (arith, m)) s) e
  where
    by : (b : Bool) → (position_from (λ t. bytes_eq t text) (k + 1) (item_texts types) ≡ Some n → type_named (map type_item_of types) text ≡ Some (ty_of i.ty))
        → cond b (Some k) (position_from (λ t. bytes_eq t text) (k + 1) (item_texts types)) ≡ Some n
        → cond b (Some (ty_of x.ty)) (type_named (map type_item_of types) text) ≡ Some (ty_of i.ty)
    by true h f = let q : k ≡ n = same_Some k n f in absurd (omega (arith, q, m))
    by false h f = h f

pub first_type : (text : List ℕ) (types : List TypeItem) (p : ℕ) (i : TypeItem) → first_place (item_texts types) text ≡ Some p → slice_get types p ≡ Some i
    → type_named (map type_item_of types) text ≡ Some (ty_of i.ty)
first_type text types p i e s = first_type_from text 0 types p p i e (omega arith) s

-- ---- the same names, the same types

pub same_names : (f g : List ℕ → Option ResolvedType) → ((text : List ℕ) → f text ≡ g text) → (t : Ty) → type_by f t ≡ None → type_by g t ≡ None
same_names f g h t e = by (type_by g t) refl
  where
    by : (o : Option ResolvedType) → type_by g t ≡ o → o ≡ None
    by None k = refl
    by (Some r) k = let m : type_by f t ≡ Some r = type_keeps g f (λ text q d. h text ∙ d) t r k in let n : None ≡ Some r = sym e ∙ m in cc

pub stuck_by : (types : List TypeItem) (a b : List ResolvedType) (number : List ℕ → Option ℕ) (items : List (Option ℕ)) (place : ℕ) (item : TypeItem) → Grows a b
    → AreWithin a number → slice_get types place ≡ Some item → type_by (named_by a number) (ty_of item.ty) ≡ None → IsStuck types b number items place
stuck_by types a b number items place item g w s e = λ i o.
    let same : item ≡ i = same_Some item i (sym s ∙ o.item) in
    same_names (named_by a number) (named_by b number) (λ text. sym (denoted_more a b (number text) g (w text))) (ty_of i.ty)
    (ap (λ (y : TypeItem). type_by (named_by a number) (ty_of y.ty)) (sym same) ∙ e)

below_within : (types : List TypeItem) (table : List ResolvedType) (number : List ℕ → Option ℕ) (count : ℕ) → AreFound types table number count
    → Below (named_by table number) (type_within count (map type_item_of types))
below_within types table number count f text r e = by (number text) refl e
  where
    by : (o : Option ℕ) → number text ≡ o → denoted table o ≡ Some r → type_within count (map type_item_of types) text ≡ Some r
    by None m h = cc
    by (Some t) m h = f.same text t m ∙ h

pub found_by : (types : List TypeItem) (a b : List ResolvedType) (number : List ℕ → Option ℕ) (items : List (Option ℕ)) (place t : ℕ) (item : TypeItem)
    → AreFound types a number (found_count items) → IsOpen types items place item → t < length b → slice_get b t ≡ type_by (named_by a number) (ty_of item.ty)
    → IsFoundAt types b items place t
unfolding type_within
found_by types a b number items place t item f o l e =
    let some = slice_get-get_or b t (get_or b t resolved.VoidType) l in
    let r = get_or b t (get_or b t resolved.VoidType) in
    let kept = type_keeps (named_by a number) (type_within (found_count items) (map type_item_of types)) (below_within types a number (found_count items) f) (ty_of item.ty) r (sym e ∙ some) in
    record {
      item = item;
      is_open = o;
      within = l;
      same =
          ap (λ n. type_within n (map type_item_of types) (item_text item)) (add-one (found_count items))
          ∙ ap (λ y. option_and_then (λ u. type_by (type_within (found_count items) (map type_item_of types)) u) y) (first_type (item_text item) types place item o.first o.item)
          ∙ kept ∙ sym some;
    }

known_is : (known : Option ℕ) (place : ℕ) → not (option_eq eqb known (Some place)) ≡ false → known ≡ Some place
known_is None place e = absurd (true≢false e)
known_is (Some q) place e = by (eqb q place) refl e
  where
    by : (b : Bool) → eqb q place ≡ b → not b ≡ false → Some q ≡ Some place
    by true h f = ap (λ n. Some n) (eqb-true q place h)
    by false h f = absurd (true≢false f)

pub open_by : (types : List TypeItem) (items : List (Option ℕ)) (place : ℕ) (item : TypeItem) (known : Option ℕ) → place < length types → length items ≡ length types
    → item ≡ get_or types place item
    → is_some (get_or items place None) ≡ false → known ≡ first_place (item_texts types) (item_text item) → not (option_eq eqb known (Some place)) ≡ false → IsOpen types items place item
open_by types items place item known l m e s k n = record {
  item = slice_get_read types (length types) place item refl l e;
  first = sym k ∙ known_is known place n;
  none = slice_get-get_or items place None (omega (arith, l, m)) ∙ ap (λ o. Some o) (none_of (get_or items place None) s);
}

pub found_if : (types : List TypeItem) (a b : List ResolvedType) (number : List ℕ → Option ℕ) (items : List (Option ℕ)) (place : ℕ) (item : TypeItem)
    → AreFound types a number (found_count items) → IsOpen types items place item
    → (o : Option ℕ) → IsWithin b o → denoted b o ≡ type_by (named_by a number) (ty_of item.ty) → IfSome o (λ t. IsFoundAt types b items place t)
found_if types a b number items place item f p None w e = tt
found_if types a b number items place item f p (Some t) w e = found_by types a b number items place t item f p w e

pub both_ok : {X E : Type 0} {P Q R : X → Type 0} (o : Result X E) → ((x : X) → P x → Q x → R x) → IfOk o P → IfOk o Q → IfOk o R
both_ok (Ok x) f g h = f x g h
both_ok (Err e) f g h = tt
