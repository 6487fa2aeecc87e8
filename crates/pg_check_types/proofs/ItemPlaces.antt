-- Whether a name has a type item.
use Rattle.std.proofs.Common.{◌≡◌, ℕ, ◌+◌, Bool, true, false, cond, List, [], ◌∷◌, map, Some, is_some, refl}
use Rattle.std.specs.List.{position_from}
use Rattle.std.specs.Str.{bytes_eq}
use Rattle.pg_read_ast.specs.declared.nodes.TypeItem.{TypeItem}
use Rattle.pg_read_ast.specs.Numbers.{type_named}
use Rattle.pg_read_ast.specs.Views.{ty_of, type_item_of}
use Rattle.pg_check_types.specs.Items.{item_texts}

pub place_is_item : (text : List ℕ) (k : ℕ) (types : List TypeItem) → is_some (position_from (λ t. bytes_eq t text) k (item_texts types)) ≡ is_some (type_named (map type_item_of types) text)
place_is_item text k [] = refl
place_is_item text k (x ∷ types) = by (bytes_eq x.name.text text) (place_is_item text (k + 1) types)
  where
    by : (b : Bool) → is_some (position_from (λ t. bytes_eq t text) (k + 1) (item_texts types)) ≡ is_some (type_named (map type_item_of types) text)
        → is_some (cond b (Some k) (position_from (λ t. bytes_eq t text) (k + 1) (item_texts types))) ≡ is_some (cond b (Some (ty_of x.ty)) (type_named (map type_item_of types) text))
    by true h = refl
    by false h = h
