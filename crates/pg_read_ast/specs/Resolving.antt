-- Types whose names are looked up one after the other.
use Rattle.std.specs.Prelude.{ℕ, zero, suc, ◌<◌, Bool, true, false, Option, Some, None, List, map, slice_get}
use Rattle.std.specs.Option.{option_map}
use Rattle.pg_read_ast.specs.declared.nodes.TypeItem.{TypeItem}
use Rattle.pg_read_ast.specs.declared.print.voids.Resolved.{Resolved}
use Rattle.pg_read_ast.specs.declared.print.voids.Resolved.TheVariants.{Void, Item, Other}
use Rattle.pg_read_ast.specs.Syntax.{Ty}
use Rattle.pg_read_ast.specs.Numbers.{void_within, is_some_and}
use Rattle.pg_read_ast.specs.Views.{ty_of, type_item_of}

-- the type of the item at a place
abbrev pub type_at : List TypeItem → Option ℕ → Option Ty
type_at types None = None
type_at types (Some place) = option_map (λ i. ty_of i.ty) (slice_get types place)

-- whether the type of the item at a place is void, or a name for it
unfoldable pub item_void : ℕ → List TypeItem → ℕ → Bool
item_void zero types place = false
item_void (suc turns) types place = is_some_and (type_at types (Some place)) (λ t. void_within turns (map type_item_of types) t)

abbrev pub resolved_void : ℕ → List TypeItem → Resolved → Bool
resolved_void turns types Void = true
resolved_void turns types (Item place) = item_void turns types place
resolved_void turns types Other = false

abbrev pub IsPlaceIn : Resolved → ℕ → Type 0
IsPlaceIn Void size = Unit {0}
IsPlaceIn (Item place) size = place < size
IsPlaceIn Other size = Unit {0}
