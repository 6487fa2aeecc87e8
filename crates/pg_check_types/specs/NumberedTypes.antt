-- What contracts see of a program's types: the type items, and the types that have numbers.
use Rattle.std.specs.Prelude.{◌≡◌, ℕ, List, map, length, Option}
use Rattle.indexmap.specs.IndexMap.{IndexMap}
use denote.Ref.{Bor}
use Rattle.pg_read_ast.specs.declared.nodes.TypeItem.{TypeItem}
use Rattle.pg_read_ast.specs.Syntax.{NamedType}
use Rattle.pg_read_ast.specs.Views.{type_item_of}
use Rattle.pg_check_types.specs.declared.layout.Layout.{Layout}
use Rattle.pg_check_types.specs.declared.shape.Shape.{Shape}
use Rattle.pg_check_types.specs.Resolved.{ResolvedType, type_within}
use Rattle.pg_check_types.specs.NameIndex.{known_place, first_place}
use Rattle.pg_check_types.specs.Table.{types_of, IsTable}
use Rattle.pg_check_types.specs.Known.{AreWithin, Names, item_number}
use Rattle.pg_check_types.specs.Items.{item_texts}

pub record NumberedTypes : Type 0 where
  pub items : List TypeItem
  pub entries : List (Shape × Layout)

abbrev pub items_of : List TypeItem → List NamedType
items_of items = map type_item_of items

-- the type items, and the types by their numbers
abbrev pub named_types : NumberedTypes → List NamedType
named_types t = items_of t.items

abbrev pub table_of : NumberedTypes → List ResolvedType
table_of t = types_of t.entries

-- the items are found by their names, and each name stands for the type of its number
pub record AreNumbered {S : Type 0} (items : List TypeItem) (places : IndexMap (Bor (List ℕ)) ℕ S) (numbers : List (Option ℕ)) (entries : List (Shape × Layout)) : Type 0 where
  pub known : (text : List ℕ) → known_place places text ≡ first_place (item_texts items) text
  pub table : IsTable entries
  pub within : AreWithin (types_of entries) (item_number places numbers)
  pub names : Names (types_of entries) (item_number places numbers) (type_within (length (items_of items)) (items_of items))
