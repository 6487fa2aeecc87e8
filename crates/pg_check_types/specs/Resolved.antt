-- Types with their names read through (LLVM Language Reference, "Type System").
use Rattle.std.specs.Prelude.{ℕ, zero, suc, ◌-◌, ◌^◌, ◌==◌, ◌&&◌, Bool, true, false, List, length, ℤ, pos, Option, Some, None}
use Rattle.std.specs.Option.{option_and_then}
use Rattle.pg_read_ast.specs.pg_num.Decimal.{decimal_between}
use Rattle.pg_read_ast.specs.pg_num.Numbers.{width_bits}
use Rattle.pg_read_ast.specs.pg_num.declared.width.Width.{Width}
use Rattle.pg_read_ast.specs.pg_num.declared.width.Width.TheVariants.{W1, W8, W16, W32, W64}
use Rattle.pg_read_ast.specs.Syntax.{Ty, Tys, I1, I8, I16, I32, I64, Ptr, Void, Array, Struct, Named, NoTys, MoreTys, NamedType}
use Rattle.pg_read_ast.specs.Numbers.{type_named}

-- a structure has no fields, or those of another and one more
pub data ResolvedType : Type 0 where
  IntegerType : Width → ResolvedType
  PointerType : ResolvedType
  VoidType : ResolvedType
  ArrayType : ℕ → ResolvedType → ResolvedType
  NoFields : ResolvedType
  MoreFields : ResolvedType → ResolvedType → ResolvedType

-- ---- equal types

abbrev pub same_width : Width → Width → Bool
same_width v w = width_bits v == width_bits w

-- equal by structure
unfoldable pub same_type : ResolvedType → ResolvedType → Bool
same_type (IntegerType v) (IntegerType w) = same_width v w
same_type PointerType PointerType = true
same_type VoidType VoidType = true
same_type (ArrayType m t) (ArrayType n u) = m == n && same_type t u
same_type NoFields NoFields = true
same_type (MoreFields s t) (MoreFields r u) = same_type s r && same_type t u
same_type _ _ = false

-- ---- what a type is

abbrev pub natural_in : Option ℤ → Option ℕ
natural_in (Some (pos n)) = Some n
natural_in _ = None

-- the number of elements that is written: from 0 to 2 ^ 64 - 1
abbrev pub element_count : List ℕ → Option ℕ
element_count text = natural_in (decimal_between (pos 0) (pos (2 ^ 64 - 1)) text)

-- nothing is an element or a field that has no value
abbrev pub part_type : Option ResolvedType → Option ResolvedType
part_type (Some VoidType) = None
part_type t = t

abbrev pub array_type : Option ℕ → Option ResolvedType → Option ResolvedType
array_type (Some n) (Some t) = Some (ArrayType n t)
array_type _ _ = None

abbrev pub with_field : Option ResolvedType → Option ResolvedType → Option ResolvedType
with_field (Some s) (Some t) = Some (MoreFields s t)
with_field _ _ = None

-- a type, where it is known what its names stand for
unfoldable mutual
  pub type_by : (List ℕ → Option ResolvedType) → Ty → Option ResolvedType
  type_by named (I1 s) = Some (IntegerType W1)
  type_by named (I8 s) = Some (IntegerType W8)
  type_by named (I16 s) = Some (IntegerType W16)
  type_by named (I32 s) = Some (IntegerType W32)
  type_by named (I64 s) = Some (IntegerType W64)
  type_by named (Ptr s) = Some PointerType
  type_by named (Void s) = Some VoidType
  type_by named (Array s n t) = array_type (element_count n.text) (part_type (type_by named t))
  type_by named (Struct s ts) = fields_by named (Some NoFields) ts
  type_by named (Named n) = named n.text

  -- a structure with further fields
  pub fields_by : (List ℕ → Option ResolvedType) → Option ResolvedType → Tys → Option ResolvedType
  fields_by named front NoTys = front
  fields_by named front (MoreTys t ts) = fields_by named (with_field front (part_type (type_by named t))) ts

-- what a name stands for, through at most so many items: the type of the first item of that name
unfoldable pub type_within : ℕ → List NamedType → List ℕ → Option ResolvedType
type_within zero types name = None
type_within (suc n) types name = option_and_then (λ t. type_by (type_within n types) t) (type_named types name)

-- what a type is. It is nothing where a name has no item, a type contains itself, a number of elements
-- doesn't fit or an element or a field is void
unfoldable pub resolved : List NamedType → Ty → Option ResolvedType
resolved types t = type_by (type_within (length types) types) t

-- ---- kinds of types

abbrev pub is_integer : ResolvedType → Bool
is_integer (IntegerType w) = true
is_integer _ = false

abbrev pub is_pointer : ResolvedType → Bool
is_pointer PointerType = true
is_pointer _ = false

-- i1, the type of conditions
abbrev pub is_bit : ResolvedType → Bool
is_bit (IntegerType W1) = true
is_bit _ = false

-- the types of registers
abbrev pub is_scalar : ResolvedType → Bool
is_scalar (IntegerType w) = true
is_scalar PointerType = true
is_scalar _ = false

abbrev pub is_void_type : ResolvedType → Bool
is_void_type VoidType = true
is_void_type _ = false
