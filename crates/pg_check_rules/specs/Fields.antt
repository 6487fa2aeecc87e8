-- The fields of a structure by the numbers of their types.
use Rattle.std.specs.Prelude.{◌≡◌, ℕ, ◌+◌, ◌<◌, ◌≤◌, List, [], ◌++◌, reverse, length, map, slice_get, ℤ, pos, Option, Some, None}
use Rattle.pg_check_types.specs.Resolved.{ResolvedType, MoreFields}
use Rattle.pg_check_types.specs.Layout.{field_list, next_offset, size_of, fields_end}
use Rattle.pg_check_types.specs.Table.{type_at}
use Rattle.pg_check_rules.specs.ValueConditions.{field_at}
use Rattle.pg_check_rules.specs.Constants.{offset_at}
use Rattle.pg_check_rules.specs.declared.fields.LastField.{LastField}

abbrev pub HasNoFields : ResolvedType → Type 0
HasNoFields t = field_list t ≡ []

-- a structure is the fields before its last and that one
pub record IsLast (table : List ResolvedType) (number : ℕ) (last : LastField) : Type 0 where
  pub whole : type_at table number ≡ MoreFields (type_at table last.front) (type_at table last.field)
  pub below : last.front < number
  pub within : last.field < length table

abbrev pub field_type : List ResolvedType → ℕ → Option ResolvedType
field_type table n = slice_get table n

-- these are the numbers of the fields of a type
abbrev pub AreFields : List ResolvedType → ResolvedType → List ℕ → Type 0
AreFields table t fields = map (field_type table) fields ≡ map (λ u. Some u) (field_list t)

-- the place that an index chooses
abbrev pub place_of_index : Option ℤ → Option ℕ
place_of_index (Some (pos k)) = Some k
place_of_index _ = None

-- the field that an index chooses, and the structure of the fields before it
pub record IsChosen (table : List ResolvedType) (t : ResolvedType) (index : Option ℤ) (last : LastField) : Type 0 where
  pub front : last.front < length table
  pub field : last.field < length table
  pub chosen : field_at t index ≡ Some (type_at table last.field)
  pub offset : offset_at t index ≡ next_offset (type_at table last.front) (type_at table last.field)
  pub ends : next_offset (type_at table last.front) (type_at table last.field) + size_of (type_at table last.field) ≤ fields_end t

-- these are the fields of a type behind those of its front, the last first
abbrev pub FieldsBehind : List ResolvedType → ResolvedType → ResolvedType → List ℕ → Type 0
FieldsBehind table front t fields = map (λ u. Some u) (field_list front) ++ map (field_type table) (reverse fields) ≡ map (λ u. Some u) (field_list t)
