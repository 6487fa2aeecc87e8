-- A value at its type, by what is known of the registers' types.
use Rattle.std.specs.Prelude.{Bool, true, false, List, Option, Some, None}
use Rattle.pg_read_lex.specs.declared.token.Span.{Span}
use Rattle.pg_read_ast.specs.Syntax.{Typed, NamedType}
use Rattle.pg_read_ast.specs.Views.{ty_of, val_of}
use Rattle.pg_check_types.specs.Resolved.{ResolvedType, is_integer}
use Rattle.pg_check_types.specs.Kinds.{fails, is_as}
use Rattle.pg_check_rules.specs.Written.{Use, asks}
use Rattle.pg_check_rules.specs.TypeConditions.{unmet}
use Rattle.pg_check_values.specs.declared.placed_value.PlacedValue.{PlacedValue}

-- a register that has another type, or stands where none may
abbrev pub wrong_typed : Bool → Option ResolvedType → Option (Option ResolvedType) → Bool
wrong_typed constant t None = false
wrong_typed true t (Some r) = true
wrong_typed false t (Some r) = fails (is_as r) t

-- an index whose type isn't an integer
abbrev pub integer_row : List NamedType → Typed → List Span
integer_row types i = unmet types (asks is_integer i.ty)

-- a value by what is written
abbrev pub placed_use : PlacedValue → Use
placed_use v = record { constant = v.constant; ty = ty_of v.ty.now; value = val_of v.value.now }
