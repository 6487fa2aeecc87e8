-- What keeps sizes and offsets within their limits.
use Rattle.std.specs.Prelude.{◌≡◌, ℕ, ◌≤◌, List, slice_get, Some, IfSome}
use Rattle.pg_num.specs.declared.limits.TheConstants.{SIZE_LIMIT}
use Rattle.pg_num.specs.declared.layout.TheConstants.{GLOBALS_END}
use Rattle.pg_read_ast.specs.Syntax.{Ty, Val, GepVal, Const, Consts, ValConst, BytesConst, ArrayConst, StructConst, NoConsts, MoreConsts, NamedType, Variable}
use Rattle.pg_check_types.specs.Resolved.{ResolvedType, ArrayType, MoreFields, resolved}
use Rattle.pg_check_types.specs.Layout.{size_of}
use Rattle.pg_check_rules.specs.Conditions.{globals_end}

-- neither a type nor an element or a field within it is larger than types may be
unfoldable mutual
  pub AllFit : ResolvedType → Type 0
  AllFit (ArrayType n t) = (size_of (ArrayType n t) ≤ SIZE_LIMIT) × AllFit t
  AllFit (MoreFields s t) = (size_of (MoreFields s t) ≤ SIZE_LIMIT) × FieldsFit s × AllFit t
  AllFit _ = Unit {0}

  -- the same of the fields of a structure
  pub FieldsFit : ResolvedType → Type 0
  FieldsFit (MoreFields s t) = FieldsFit s × AllFit t
  FieldsFit _ = Unit {0}

-- the same of a type that is written
abbrev pub TypeFits : List NamedType → Ty → Type 0
TypeFits types t = IfSome (resolved types t) AllFit

-- the same of the types into which a constant goes
unfoldable pub ValFits : List NamedType → Val → Type 0
ValFits types (GepVal s t u p is) = TypeFits types t × ValFits types p
ValFits types _ = Unit {0}

unfoldable mutual
  pub ConstFits : List NamedType → Const → Type 0
  ConstFits types (ValConst v) = ValFits types v
  ConstFits types (BytesConst b) = Unit {0}
  ConstFits types (ArrayConst s cs) = PartsFit types cs
  ConstFits types (StructConst s cs) = PartsFit types cs

  pub PartsFit : List NamedType → Consts → Type 0
  PartsFit types NoConsts = Unit {0}
  PartsFit types (MoreConsts t c cs) = ConstFits types c × PartsFit types cs

pub record GlobalFits (types : List NamedType) (v : Variable) : Type 0 where
  pub ty : TypeFits types v.ty
  pub value : ConstFits types v.value

-- globals of such types and constants end below the threads' memory
pub record GlobalsFit (types : List NamedType) (vs : List Variable) : Type 0 where
  pub each : (i : ℕ) (v : Variable) → slice_get vs i ≡ Some v → GlobalFits types v
  pub ended : globals_end types vs ≤ GLOBALS_END
