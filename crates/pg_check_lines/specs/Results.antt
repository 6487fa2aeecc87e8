-- What a function returns, by the kinds of types.
use Rattle.std.specs.Prelude.{Bool, true, false, Option, Some, None}
use Rattle.pg_check_types.specs.declared.kind.TypeKind.{TypeKind}
use Rattle.pg_check_types.specs.declared.kind.TypeKind.TheVariants.{Void}

-- a type that has values
abbrev pub is_value_kind : Option TypeKind → Bool
is_value_kind (Some Void) = false
is_value_kind (Some k) = true
is_value_kind None = false
