-- The numbers of type items while they are found.
use Rattle.std.specs.Prelude.{◌≡◌, ℕ, suc, ◌+◌, ◌<◌, List, [], ◌∷◌, map, length, slice_get, Option, Some, None}
use Rattle.pg_read_ast.specs.declared.nodes.TypeItem.{TypeItem}
use Rattle.pg_read_ast.specs.Views.{ty_of, type_item_of}
use Rattle.pg_check_types.specs.Resolved.{ResolvedType, type_by, type_within}
use Rattle.pg_check_types.specs.NameIndex.{first_place}
use Rattle.pg_check_types.specs.Known.{denoted, AreWithin}

abbrev pub item_text : TypeItem → List ℕ
item_text i = i.name.text

abbrev pub item_texts : List TypeItem → List (List ℕ)
item_texts types = map item_text types

-- how many items have a number
abbrev pub found_count : List (Option ℕ) → ℕ
found_count [] = 0
found_count (None ∷ items) = found_count items
found_count (Some n ∷ items) = suc (found_count items)

-- each number is that of the item's type, which is found through at most so many items
pub record AreFound (types : List TypeItem) (table : List ResolvedType) (number : List ℕ → Option ℕ) (count : ℕ) : Type 0 where
  pub within : AreWithin table number
  pub same : (text : List ℕ) (t : ℕ) → number text ≡ Some t → type_within count (map type_item_of types) text ≡ slice_get table t

-- what a name stands for by the numbers that are known
abbrev pub named_by : List ResolvedType → (List ℕ → Option ℕ) → List ℕ → Option ResolvedType
named_by table number text = denoted table (number text)

-- the item at a place is the first of its name, and has no number
pub record IsOpen (types : List TypeItem) (items : List (Option ℕ)) (place : ℕ) (i : TypeItem) : Type 0 where
  pub item : slice_get types place ≡ Some i
  pub first : first_place (item_texts types) (item_text i) ≡ Some place
  pub none : slice_get items place ≡ Some None

-- nothing is found of the item at a place
abbrev pub IsStuck : List TypeItem → List ResolvedType → (List ℕ → Option ℕ) → List (Option ℕ) → ℕ → Type 0
IsStuck types table number items place = (i : TypeItem) → IsOpen types items place i → type_by (named_by table number) (ty_of i.ty) ≡ None

-- the type of the item at a place is found, and has this number
pub record IsFoundAt (types : List TypeItem) (table : List ResolvedType) (items : List (Option ℕ)) (place t : ℕ) : Type 0 where
  pub item : TypeItem
  pub is_open : IsOpen types items place item
  pub within : t < length table
  pub same : type_within (found_count items + 1) (map type_item_of types) (item_text item) ≡ slice_get table t

-- nothing more is found
abbrev pub AreStuck : List TypeItem → List ResolvedType → (List ℕ → Option ℕ) → List (Option ℕ) → ℕ → Type 0
AreStuck types table number items end = (place : ℕ) → place < end → IsStuck types table number items place
