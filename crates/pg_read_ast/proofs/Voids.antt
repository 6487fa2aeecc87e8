-- Looking up the names of types.
use Rattle.std.proofs.Common.{◌≡◌, ℕ, zero, suc, ◌+◌, ◌-◌, ◌<◌, ◌≤◌, true, false, List, [], ◌∷◌, length, map, drop, get_or, refl, sym, ap, ◌∙◌, arith}
use Rattle.std.proofs.Common.{Some, None, if◌then◌else◌}
use Rattle.std.specs.Str.{bytes_eq}
use Rattle.pg_read_ast.specs.declared.nodes.TypeItem.{TypeItem}
use Rattle.pg_read_ast.specs.declared.names.Name.{Name}
use Rattle.pg_read_ast.specs.Syntax.{Ty}
use Rattle.pg_read_ast.specs.Numbers.{type_named, name_void, void_within, is_void, is_some_and}
use Rattle.pg_read_ast.specs.declared.print.voids.Resolved.{Resolved}
use Rattle.pg_read_ast.specs.declared.print.voids.Resolved.TheVariants.{Void, Item, Other}
use Rattle.pg_read_ast.specs.Resolving.{item_void, type_at, resolved_void}
use Rattle.pg_read_ast.specs.Views.{ty_of, type_item_of}

-- no item before this place has the name
pub record Searched (types : List TypeItem) (name : List ℕ) (place : ℕ) : Type 0 where
  pub within : place ≤ length types
  pub same : type_named (map type_item_of types) name ≡ type_named (map type_item_of (drop place types)) name

pub named_begin : (types : List TypeItem) (name : List ℕ) → Searched types name 0
named_begin types name = record { within = omega arith; same = refl }

skip_at : (types : List TypeItem) (name : List ℕ) (place : ℕ) (x : TypeItem) → place < length types → x ≡ get_or types place x → bytes_eq x.name.text name ≡ false
    → type_named (map type_item_of (drop place types)) name ≡ type_named (map type_item_of (drop (place + 1) types)) name
skip_at [] name place x l e h = absurd (omega (arith, l))
skip_at (i ∷ is) name zero x l e h = ap (λ y. if bytes_eq y.name.text name then Some (ty_of y.ty) else type_named (map type_item_of is) name) (sym e)
    ∙ ap (λ b. if b then Some (ty_of x.ty) else type_named (map type_item_of is) name) h
skip_at (i ∷ is) name (suc place) x l e h =
    let s : suc place + 1 ≡ suc (place + 1) = omega arith in
    skip_at is name place x (omega (arith, l)) e h ∙ sym (ap (λ n. type_named (map type_item_of (drop n (i ∷ is))) name) s)

pub named_skip : (types : List TypeItem) (name : List ℕ) (place : ℕ) (x : TypeItem) → place < length types → x ≡ get_or types place x → bytes_eq x.name.text name ≡ false
    → Searched types name place → Searched types name (place + 1)
named_skip types name place x l e h s = record { within = omega arith; same = s.same ∙ skip_at types name place x l e h }

here_at : (types : List TypeItem) (name : List ℕ) (place : ℕ) (x : TypeItem) → place < length types → x ≡ get_or types place x → bytes_eq x.name.text name ≡ true
    → type_named (map type_item_of (drop place types)) name ≡ type_at types (Some place)
here_at [] name place x l e h = absurd (omega (arith, l))
here_at (i ∷ is) name zero x l e h = ap (λ y. if bytes_eq y.name.text name then Some (ty_of y.ty) else type_named (map type_item_of is) name) (sym e)
    ∙ ap (λ b. if b then Some (ty_of x.ty) else type_named (map type_item_of is) name) h ∙ ap (λ y. Some (ty_of y.ty)) e
here_at (i ∷ is) name (suc place) x l e h = here_at is name place x (omega (arith, l)) e h

pub named_here : (types : List TypeItem) (name : List ℕ) (place : ℕ) (x : TypeItem) → place < length types → x ≡ get_or types place x → bytes_eq x.name.text name ≡ true
    → Searched types name place → type_named (map type_item_of types) name ≡ type_at types (Some place)
named_here types name place x l e h s = s.same ∙ here_at types name place x l e h

none_at : (types : List TypeItem) (name : List ℕ) (place : ℕ) → length types ≤ place → type_named (map type_item_of (drop place types)) name ≡ None
none_at [] name zero l = refl
none_at [] name (suc place) l = refl
none_at (i ∷ is) name zero l = absurd (omega (arith, l))
none_at (i ∷ is) name (suc place) l = none_at is name place (omega (arith, l))

pub named_none : (types : List TypeItem) (name : List ℕ) (place : ℕ) → length types ≤ place → Searched types name place → type_named (map type_item_of types) name ≡ None
named_none types name place l s = s.same ∙ none_at types name place l

-- a name is void where its item is
pub void_item : (turns : ℕ) (types : List TypeItem) (n : Name) (place : ℕ) → type_named (map type_item_of types) n.text ≡ type_at types (Some place)
    → name_void turns (map type_item_of types) n.text ≡ item_void turns types place
unfolding name_void item_void
void_item zero types n place e = refl
void_item (suc turns) types n place e = ap (λ t. is_some_and t (λ u. void_within turns (map type_item_of types) u)) e

pub void_unknown : (turns : ℕ) (types : List TypeItem) (n : Name) → type_named (map type_item_of types) n.text ≡ None → name_void turns (map type_item_of types) n.text ≡ false
unfolding name_void
void_unknown zero types n e = refl
void_unknown (suc turns) types n e = ap (λ t. is_some_and t (λ u. void_within turns (map type_item_of types) u)) e

-- a turn more is the item's type
pub item_more : (turns : ℕ) (types : List TypeItem) (place : ℕ) (x : TypeItem) → place < length types → x ≡ get_or types place x
    → item_void (suc turns) types place ≡ void_within turns (map type_item_of types) (ty_of x.ty)
unfolding item_void
item_more turns types place x l e = ap (λ t. is_some_and t (λ u. void_within turns (map type_item_of types) u)) (at types place l e)
  where
    at : (all : List TypeItem) (place : ℕ) → place < length all → x ≡ get_or all place x → type_at all (Some place) ≡ Some (ty_of x.ty)
    at [] place l e = absurd (omega (arith, l))
    at (i ∷ is) zero l e = ap (λ y. Some (ty_of y.ty)) (sym e)
    at (i ∷ is) (suc place) l e = at is place (omega (arith, l)) e

length_types : (types : List TypeItem) → length (map type_item_of types) ≡ length types
length_types [] = refl
length_types (i ∷ is) = let e = length_types is in omega (arith, e)

pub void_end : (types : List TypeItem) (t : Ty) (r first : Resolved) (i : ℕ) → length types ≤ i
    → void_within (length types) (map type_item_of types) t ≡ resolved_void (length types) types first
    → resolved_void (length types - i) types r ≡ resolved_void (length types) types first → resolved_void 0 [] r ≡ is_void (map type_item_of types) t
unfolding is_void item_void
void_end types t r first i l a b =
    let z : length types - i ≡ 0 = omega (arith, l) in
    let n : length (map type_item_of types) ≡ length types = length_types types in
    none r ∙ ap (λ k. resolved_void k types r) (sym z) ∙ b ∙ sym a ∙ ap (λ k. void_within k (map type_item_of types) t) (sym n)
  where
    none : (r : Resolved) → resolved_void 0 [] r ≡ resolved_void 0 types r
    none Void = refl
    none (Item p) = refl
    none Other = refl
