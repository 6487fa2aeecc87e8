-- When a type that is written is refused.
use Rattle.std.specs.Prelude.{ℕ, nat_lt, Bool, false, if◌then◌else◌, List, [], ◌∷◌, ◌++◌, Option, Some, None, is_some}
use Rattle.std.specs.List.{flat_map, list_any}
use Rattle.pg_read_ast.specs.pg_read_lex.declared.token.Span.{Span}
use Rattle.pg_num.specs.declared.limits.TheConstants.{SIZE_LIMIT}
use Rattle.pg_read_ast.specs.Syntax.{Ty, Array, Struct, Named, NamedType}
use Rattle.pg_read_ast.specs.Numbers.{type_named}
use Rattle.pg_check_types.specs.Resolved.{ResolvedType, resolved, element_count, is_void_type}
use Rattle.pg_check_types.specs.Layout.{size_or_none}
use Rattle.pg_check_types.specs.Kinds.{fails}
use Rattle.pg_check_rules.specs.Places.{type_span}
use Rattle.pg_check_rules.specs.Written.{type_list, types_within, Demand}

abbrev pub is_void_part : Option ResolvedType → Bool
is_void_part (Some t) = is_void_type t
is_void_part None = false

-- a name without an item
abbrev pub unknown_type : List NamedType → Ty → List Span
unknown_type types (Named n) = if is_some (type_named types n.text) then [] else n.span ∷ []
unknown_type types _ = []

-- an element or a field without a value
abbrev pub void_part : List NamedType → Ty → List Span
void_part types t = if is_void_part (resolved types t) then type_span t ∷ [] else []

-- a number of elements that doesn't fit
abbrev pub wrong_count : List ℕ → Span → List Span
wrong_count text span = if is_some (element_count text) then [] else span ∷ []

-- an array whose number of elements doesn't fit
abbrev pub array_count : Ty → List Span
array_count (Array s n t) = wrong_count n.text n.span
array_count _ = []

abbrev pub wrong_type : List NamedType → Ty → List Span
wrong_type types (Array s n t) = wrong_count n.text n.span ++ void_part types t
wrong_type types (Struct s ts) = flat_map (void_part types) (type_list ts)
wrong_type types _ = []

-- an aggregate that is larger than types may be
abbrev pub is_large : List NamedType → Ty → Bool
is_large types (Array s n t) = nat_lt SIZE_LIMIT (size_or_none (resolved types (Array s n t)))
is_large types (Struct s ts) = nat_lt SIZE_LIMIT (size_or_none (resolved types (Struct s ts)))
is_large types _ = false

-- ---- over all types that are written, and those within them

unfoldable pub unknown_types : List NamedType → List Ty → List Span
unknown_types types ts = flat_map (unknown_type types) (flat_map types_within ts)

unfoldable pub wrong_counts : List Ty → List Span
wrong_counts ts = flat_map array_count (flat_map types_within ts)

unfoldable pub wrong_types : List NamedType → List Ty → List Span
wrong_types types ts = flat_map (wrong_type types) (flat_map types_within ts)

unfoldable pub any_large : List NamedType → List Ty → Bool
any_large types ts = list_any (is_large types) (flat_map types_within ts)

-- a type that isn't what is asked of it
abbrev pub unmet : List NamedType → Demand → List Span
unmet types d = if fails d.test (resolved types d.ty) then type_span d.ty ∷ [] else []
