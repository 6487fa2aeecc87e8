-- Types by their numbers in a table, and the numbers of type items.
use Rattle.std.specs.Prelude.{◌≡◌, ℕ, ◌<◌, List, length, slice_get, Option, Some, None, IfSome}
use Rattle.std.specs.Option.{option_and_then}
use Rattle.indexmap.specs.IndexMap.{IndexMap}
use denote.Ref.{Bor}
use Rattle.pg_check_types.specs.Resolved.{ResolvedType}
use Rattle.pg_check_types.specs.NameIndex.{known_place}

-- the type of a number, if there is a number
abbrev pub denoted : List ResolvedType → Option ℕ → Option ResolvedType
denoted types None = None
denoted types (Some t) = slice_get types t

abbrev pub IsWithin : List ResolvedType → Option ℕ → Type 0
IsWithin types o = IfSome o (λ t. t < length types)

-- the number of the item of a name, where the items' numbers are known
unfoldable pub item_number : {S : Type 0} → IndexMap (Bor (List ℕ)) ℕ S → List (Option ℕ) → List ℕ → Option ℕ
item_number places items text = option_and_then (λ p. option_and_then (λ o. o) (slice_get items p)) (known_place places text)

-- each name's number is in the table
abbrev pub AreWithin : List ResolvedType → (List ℕ → Option ℕ) → Type 0
AreWithin types number = (text : List ℕ) → IsWithin types (number text)

-- what each name stands for is the type of its number
abbrev pub Names : List ResolvedType → (List ℕ → Option ℕ) → (List ℕ → Option ResolvedType) → Type 0
Names types number named = (text : List ℕ) → named text ≡ denoted types (number text)
