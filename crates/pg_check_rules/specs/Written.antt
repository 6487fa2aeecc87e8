-- What stands in a line or a constant: the types that are written, the types that are asked for, and the values at
-- their types.
use Rattle.std.specs.Prelude.{nat_lt, ◌||◌, Bool, true, false, List, [], ◌∷◌, ◌++◌, map, Option, Some, None}
use Rattle.pg_num.specs.Numbers.{width_bits}
use Rattle.pg_read_ast.specs.declared.names.Name.{Name}
use Rattle.pg_read_ast.specs.declared.ops.CastOp.{CastOp}
use Rattle.pg_read_ast.specs.declared.ops.CastOp.TheVariants.{Trunc, Zext, Sext, PtrToInt, IntToPtr}
use Rattle.pg_read_ast.specs.Syntax.{Ty, Tys, Array, Struct, NoTys, MoreTys, Val, Vals, Int, GepVal, IntToPtrVal, NoVals}
use Rattle.pg_read_ast.specs.Syntax.{MoreVals, Typed, Const, Consts, ValConst, BytesConst, ArrayConst, StructConst}
use Rattle.pg_read_ast.specs.Syntax.{NoConsts, MoreConsts, Incoming, Case, Written, Count, Op, Binary, Icmp, Cast, Select}
use Rattle.pg_read_ast.specs.Syntax.{Phi, Br, CondBr, Switch, Call, RetVoid, Ret, Unreachable, Alloca, Load, Store}
use Rattle.pg_read_ast.specs.Syntax.{GetElementPtr, NamedType}
use Rattle.pg_check_types.specs.Resolved.{ResolvedType, IntegerType, VoidType, resolved, is_integer, is_pointer, is_bit, is_scalar, is_void_type}
use Rattle.pg_check_types.specs.Kinds.{is_as}

-- ---- lists of the grammar

abbrev pub type_list : Tys → List Ty
type_list NoTys = []
type_list (MoreTys t ts) = t ∷ type_list ts

abbrev pub typed_list : Vals → List Typed
typed_list NoVals = []
typed_list (MoreVals t v vs) = record { ty = t; value = v } ∷ typed_list vs

-- ---- values

-- a value, the type at which it stands, and whether it stands where no register may
pub record Use : Type 0 where
  pub constant : Bool
  pub ty : Ty
  pub value : Val

abbrev pub operand : Ty → Val → Use
operand t v = record { constant = false; ty = t; value = v }

abbrev pub constant_at : Ty → Val → Use
constant_at t v = record { constant = true; ty = t; value = v }

abbrev pub typed_operand : Typed → Use
typed_operand v = operand v.ty v.value

-- the constants within a constant
unfoldable mutual
  pub inner_uses : Val → List Use
  inner_uses (GepVal s t u p is) = constant_at u p ∷ (inner_uses p ++ index_uses is)
  inner_uses (IntToPtrVal s t n u) = constant_at t (Int n) ∷ []
  inner_uses _ = []

  pub index_uses : Vals → List Use
  index_uses NoVals = []
  index_uses (MoreVals t v vs) = constant_at t v ∷ (inner_uses v ++ index_uses vs)

-- a value and those within it
abbrev pub with_inner : Use → List Use
with_inner u = u ∷ inner_uses u.value

abbrev pub count_uses : Option Count → List Use
count_uses None = []
count_uses (Some n) = constant_at n.ty (Int n.count) ∷ []

-- the operands of an instruction, in order
unfoldable pub operands : Op → List Use
operands (Binary s op t a b) = operand t a ∷ operand t b ∷ []
operands (Icmp s p t a b) = operand t a ∷ operand t b ∷ []
operands (Cast s op v t) = typed_operand v ∷ []
operands (Select s c a b) = typed_operand c ∷ typed_operand a ∷ typed_operand b ∷ []
operands (Phi s t i all) = map (λ (j : Incoming). operand t j.value) (i ∷ all)
operands (Br s b) = []
operands (CondBr s c a b) = typed_operand c ∷ []
operands (Switch s v b all) = typed_operand v ∷ map (λ (c : Case). constant_at c.value.ty c.value.value) all
operands (Call s t w f all) = map typed_operand all
operands (RetVoid s v) = []
operands (Ret s v) = typed_operand v ∷ []
operands (Unreachable s) = []
operands (Alloca s t n) = count_uses n
operands (Load s t p) = typed_operand p ∷ []
operands (Store s v p) = typed_operand v ∷ typed_operand p ∷ []
operands (GetElementPtr s t p all) = typed_operand p ∷ map typed_operand all

-- ---- types that are written

-- a type and those within it
unfoldable mutual
  pub types_within : Ty → List Ty
  types_within (Array s n t) = Array s n t ∷ types_within t
  types_within (Struct s ts) = Struct s ts ∷ types_within_all ts
  types_within t = t ∷ []

  pub types_within_all : Tys → List Ty
  types_within_all NoTys = []
  types_within_all (MoreTys t ts) = types_within t ++ types_within_all ts

-- the types that a constant writes by itself
abbrev pub own_types : Val → List Ty
own_types (GepVal s t u p is) = t ∷ u ∷ map (λ (i : Typed). i.ty) (typed_list is)
own_types (IntToPtrVal s t n u) = t ∷ u ∷ []
own_types _ = []

abbrev pub written_types : Option Written → List Ty
written_types None = []
written_types (Some w) = w.types

abbrev pub count_types : Option Count → List Ty
count_types None = []
count_types (Some n) = n.ty ∷ []

-- the types that an instruction writes outside of its operands' values
unfoldable pub op_types : Op → List Ty
op_types (Binary s op t a b) = t ∷ []
op_types (Icmp s p t a b) = t ∷ []
op_types (Cast s op v t) = v.ty ∷ t ∷ []
op_types (Select s c a b) = c.ty ∷ a.ty ∷ b.ty ∷ []
op_types (Phi s t i all) = t ∷ []
op_types (Br s b) = []
op_types (CondBr s c a b) = c.ty ∷ []
op_types (Switch s v b all) = v.ty ∷ map (λ (c : Case). c.value.ty) all
op_types (Call s t w f all) = t ∷ (written_types w ++ map (λ (a : Typed). a.ty) all)
op_types (RetVoid s v) = []
op_types (Ret s v) = v.ty ∷ []
op_types (Unreachable s) = []
op_types (Alloca s t n) = t ∷ count_types n
op_types (Load s t p) = t ∷ p.ty ∷ []
op_types (Store s v p) = v.ty ∷ p.ty ∷ []
op_types (GetElementPtr s t p all) = t ∷ p.ty ∷ map (λ (i : Typed). i.ty) all

-- ---- types that are asked for

-- a type that is written, and what it has to be
pub record Demand : Type 0 where
  pub ty : Ty
  pub test : ResolvedType → Bool

abbrev pub asks : (ResolvedType → Bool) → Ty → Demand
asks test t = record { ty = t; test = test }

abbrev pub asks_typed : (ResolvedType → Bool) → Typed → Demand
asks_typed test v = asks test v.ty

abbrev pub isnt_void : ResolvedType → Bool
isnt_void VoidType = false
isnt_void t = true

abbrev pub is_narrower : Option ResolvedType → ResolvedType → Bool
is_narrower (Some (IntegerType v)) (IntegerType w) = nat_lt (width_bits w) (width_bits v)
is_narrower _ t = is_integer t

abbrev pub is_wider : Option ResolvedType → ResolvedType → Bool
is_wider (Some (IntegerType v)) (IntegerType w) = nat_lt (width_bits v) (width_bits w)
is_wider _ t = is_integer t

abbrev pub cast_from : CastOp → ResolvedType → Bool
cast_from PtrToInt t = is_pointer t
cast_from _ t = is_integer t

-- trunc gives a narrower integer, zext and sext a wider one
abbrev pub cast_to : CastOp → Option ResolvedType → ResolvedType → Bool
cast_to Trunc from t = is_narrower from t
cast_to Zext from t = is_wider from t
cast_to Sext from t = is_wider from t
cast_to PtrToInt from t = is_integer t
cast_to IntToPtr from t = is_pointer t

-- a result is a scalar or void
abbrev pub is_returnable : ResolvedType → Bool
is_returnable t = is_scalar t || is_void_type t

abbrev pub count_demands : Option Count → List Demand
count_demands None = []
count_demands (Some n) = asks is_integer n.ty ∷ []

-- what an instruction asks of its types by itself, in a function with this result
unfoldable pub op_demands : List NamedType → Option ResolvedType → Op → List Demand
op_demands types r (Binary s op t a b) = asks is_integer t ∷ []
op_demands types r (Icmp s p t a b) = asks is_scalar t ∷ []
op_demands types r (Cast s op v t) = asks_typed (cast_from op) v ∷ asks (cast_to op (resolved types v.ty)) t ∷ []
op_demands types r (Select s c a b) = asks_typed is_bit c ∷ asks_typed is_scalar a ∷ asks_typed (is_as (resolved types a.ty)) b ∷ []
op_demands types r (Phi s t i all) = asks is_scalar t ∷ []
op_demands types r (Br s b) = []
op_demands types r (CondBr s c a b) = asks_typed is_bit c ∷ []
op_demands types r (Switch s v b all) = asks_typed is_integer v ∷ map (λ (c : Case). asks_typed (is_as (resolved types v.ty)) c.value) all
op_demands types r (Call s t w f all) = asks is_returnable t ∷ []
op_demands types r (RetVoid s v) = []
op_demands types r (Ret s v) = asks_typed (is_as r) v ∷ []
op_demands types r (Unreachable s) = []
op_demands types r (Alloca s t n) = asks isnt_void t ∷ count_demands n
op_demands types r (Load s t p) = asks is_scalar t ∷ asks_typed is_pointer p ∷ []
op_demands types r (Store s v p) = asks_typed is_scalar v ∷ asks_typed is_pointer p ∷ []
op_demands types r (GetElementPtr s t p all) = asks isnt_void t ∷ asks_typed is_pointer p ∷ map (asks_typed is_integer) all

-- what a constant asks of its types by itself
abbrev pub own_demands : Val → List Demand
own_demands (GepVal s t u p is) = asks isnt_void t ∷ asks is_pointer u ∷ map (asks_typed is_integer) (typed_list is)
own_demands (IntToPtrVal s t n u) = asks is_integer t ∷ asks is_pointer u ∷ []
own_demands _ = []

-- ---- constants of globals

-- the values of a constant, each at the type that is written before it
unfoldable mutual
  pub const_uses : Ty → Const → List Use
  const_uses t (ValConst v) = constant_at t v ∷ []
  const_uses t (BytesConst b) = []
  const_uses t (ArrayConst s cs) = part_uses cs
  const_uses t (StructConst s cs) = part_uses cs

  pub part_uses : Consts → List Use
  part_uses NoConsts = []
  part_uses (MoreConsts t c cs) = const_uses t c ++ part_uses cs

-- the types written before its parts
unfoldable mutual
  pub const_types : Const → List Ty
  const_types (ArrayConst s cs) = part_types cs
  const_types (StructConst s cs) = part_types cs
  const_types _ = []

  pub part_types : Consts → List Ty
  part_types NoConsts = []
  part_types (MoreConsts t c cs) = t ∷ (const_types c ++ part_types cs)

-- ---- labels

-- the labels of the basic blocks to which an instruction may go on
unfoldable pub label_targets : Op → List Name
label_targets (Br s b) = b ∷ []
label_targets (CondBr s c a b) = a ∷ b ∷ []
label_targets (Switch s v b all) = b ∷ map (λ (c : Case). c.block) all
label_targets _ = []

-- the labels that a phi lists
unfoldable pub label_sources : Op → List Name
label_sources (Phi s t i all) = map (λ (j : Incoming). j.block) (i ∷ all)
label_sources _ = []

abbrev pub is_phi_op : Op → Bool
is_phi_op (Phi s t i all) = true
is_phi_op _ = false

-- these end a basic block
abbrev pub is_ending : Op → Bool
is_ending (Br s b) = true
is_ending (CondBr s c a b) = true
is_ending (Switch s v b all) = true
is_ending (RetVoid s v) = true
is_ending (Ret s v) = true
is_ending (Unreachable s) = true
is_ending _ = false
