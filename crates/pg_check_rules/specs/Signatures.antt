-- Whether one parameter has the type that it has to have.
use Rattle.std.specs.Prelude.{Bool, false, List}
use Rattle.pg_ir.specs.declared.value.Scalar.{Scalar}
use Rattle.pg_read_ast.specs.Syntax.{Param, Dparam, ParamOf, NamedType}
use Rattle.pg_check_types.specs.Resolved.{resolved, is_scalar}
use Rattle.pg_check_types.specs.Kinds.{fails}
use Rattle.pg_check_rules.specs.Conditions.{is_scalar_type}

abbrev pub is_param : List NamedType → Scalar → Dparam → Bool
is_param types s (ParamOf p) = is_scalar_type s (resolved types p.ty)
is_param types s _ = false

-- a parameter of a definition that isn't a scalar
abbrev pub is_wrong_param : List NamedType → Param → Bool
is_wrong_param types p = fails is_scalar (resolved types p.ty)
