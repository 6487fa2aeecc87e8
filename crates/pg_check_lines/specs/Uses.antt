-- The values that stand in a line, each with the type at which it stands.
use Rattle.std.specs.Prelude.{List, map}
use Rattle.std.specs.List.{flat_map}
use Rattle.pg_read_lex.specs.declared.token.Span.{Span}
use Rattle.pg_read_ast.specs.Syntax.{Ty, Int}
use Rattle.pg_read_ast.specs.Views.{ty_of, val_of}
use Rattle.pg_check_rules.specs.Written.{Use, constant_at, with_inner, own_types}
use Rattle.pg_check_rules.specs.ValueConditions.{Scope, unknown_value, function_value}
use Rattle.pg_check_lines.specs.declared.operands.UseNode.{UseNode}
use Rattle.pg_check_lines.specs.declared.operands.UseNode.TheVariants.{Value, Count}

-- the number of elements of an alloca is a constant
abbrev pub use_of : UseNode → Use
use_of (Value c t v) = record { constant = c; ty = ty_of t.now; value = val_of v.now }
use_of (Count n) = constant_at (ty_of n.now.ty) (Int n.now.count)

abbrev pub uses_of : List UseNode → List Use
uses_of us = map use_of us

-- ---- what rows give for a value

abbrev pub unknown_row : Scope → Use → List Span
unknown_row g u = unknown_value g u.value

abbrev pub function_row : Scope → Use → List Span
function_row g u = function_value g u.value

abbrev pub type_row : Use → List Ty
type_row u = own_types u.value

-- what a row gives for a value and those within it
abbrev pub row_within : {X : Type 0} → (Use → List X) → Use → List X
row_within row u = flat_map row (with_inner u)
