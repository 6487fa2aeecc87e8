-- Types of results by their kinds.
use Rattle.std.proofs.Common.{◌≡◌, Option, Some, None, refl}
use Rattle.std.specs.Option.{option_map}
use Rattle.pg_check_types.specs.Kinds.{kind_of, fails}
use Rattle.pg_check_types.specs.Resolved.{ResolvedType, IntegerType, PointerType, VoidType, ArrayType, NoFields, MoreFields, is_void_type}
use Rattle.pg_check_lines.specs.Results.{is_value_kind}

pub fails_void : (t : Option ResolvedType) → is_value_kind (option_map kind_of t) ≡ fails is_void_type t
fails_void None = refl
fails_void (Some (IntegerType w)) = refl
fails_void (Some PointerType) = refl
fails_void (Some VoidType) = refl
fails_void (Some (ArrayType n t)) = refl
fails_void (Some NoFields) = refl
fails_void (Some (MoreFields s t)) = refl
