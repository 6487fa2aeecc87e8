-- The numbers of constants by what is known of their types.
use Rattle.std.specs.Prelude.{ℕ, ℤ, List, Option, Some, None}
use Rattle.std.specs.Option.{option_map}
use Rattle.pg_num.specs.Numbers.{signed}
use Rattle.pg_num.specs.declared.width.Width.{Width}
use Rattle.pg_read_ast.specs.Syntax.{Val, Typed, NamedType}
use Rattle.pg_check_types.specs.Resolved.{resolved}
use Rattle.pg_check_types.specs.declared.kind.TypeKind.{TypeKind}
use Rattle.pg_check_types.specs.declared.kind.TypeKind.TheVariants as kind
use Rattle.pg_check_rules.specs.ValueConditions.{constant_number, signed_at}

-- the number of a constant by the kind of its type
abbrev pub kind_number : Option TypeKind → Val → Option ℕ
kind_number (Some (kind.Integer w)) v = constant_number w v
kind_number _ v = None

abbrev pub signed_number : Width → Val → Option ℤ
signed_number w v = option_map (signed w) (constant_number w v)

abbrev pub kind_signed : Option TypeKind → Val → Option ℤ
kind_signed (Some (kind.Integer w)) v = signed_number w v
kind_signed _ v = None

-- an index as a signed number, where it is a constant
abbrev pub index_number : List NamedType → Typed → Option ℤ
index_number types i = signed_at (resolved types i.ty) i.value
