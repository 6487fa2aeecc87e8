-- What checks ask of a type.
use Rattle.std.specs.Prelude.{nat_lt, Bool, true, false, not, Option, Some, None}
use Rattle.pg_read_ast.specs.pg_num.declared.limits.TheConstants.{SIZE_LIMIT}
use Rattle.pg_check_types.specs.declared.kind.TypeKind.{TypeKind}
use Rattle.pg_check_types.specs.declared.kind.TypeKind.TheVariants.{Integer, Pointer, Void, Aggregate}
use Rattle.pg_check_types.specs.Resolved.{ResolvedType, IntegerType, PointerType, VoidType, ArrayType, NoFields, MoreFields, same_type}
use Rattle.pg_check_types.specs.Layout.{size_or_none}

abbrev pub kind_of : ResolvedType → TypeKind
kind_of (IntegerType w) = Integer w
kind_of PointerType = Pointer
kind_of VoidType = Void
kind_of (ArrayType n t) = Aggregate
kind_of NoFields = Aggregate
kind_of (MoreFields s t) = Aggregate

-- a type that is one, and doesn't pass: what isn't resolved isn't judged
abbrev pub fails : (ResolvedType → Bool) → Option ResolvedType → Bool
fails test (Some t) = not (test t)
fails test None = false

-- the same as another type, where that is one
abbrev pub is_as : Option ResolvedType → ResolvedType → Bool
is_as None t = true
is_as (Some u) t = same_type u t

-- two types are the same, or one of them isn't a type
abbrev pub agree : Option ResolvedType → Option ResolvedType → Bool
agree t u = not (fails (is_as t) u)

-- larger than a type may be
abbrev pub is_oversize : Option ResolvedType → Bool
is_oversize t = nat_lt SIZE_LIMIT (size_or_none t)
