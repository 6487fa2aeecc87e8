-- Canonical text: one item a line, a label a line, an instruction a line, indented by two blanks.
use Rattle.std.specs.Prelude.{ℕ, List, [], ◌∷◌, ◌++◌, Option, Some, None, Bool, true, false, ◌||◌, ◌&&◌, ◌==◌, not}
use Rattle.std.specs.Prelude.{nat_lt, nat_le, if◌then◌else◌, flat_map, codes, ◌+◌, ◌/◌, ◌%◌}
use Rattle.std.specs.List.{list_all, join_by}
use Rattle.pg_read_lex.specs.Bytes.{is_name_byte}
use Rattle.pg_read_ast.specs.declared.names.Name.{Name}
use Rattle.pg_read_ast.specs.declared.names.Literal.{Literal}
use Rattle.pg_read_ast.specs.declared.ops.BinaryOp.{BinaryOp}
use Rattle.pg_read_ast.specs.declared.ops.BinaryOp.TheVariants.{Add, Sub, Mul, Udiv, Sdiv, Urem, Srem, Shl, Lshr, Ashr, And, Or, Xor}
use Rattle.pg_read_lex.specs.pg_num.declared.operations.Compare.{Compare}
use Rattle.pg_read_lex.specs.pg_num.declared.operations.Compare.TheVariants.{Eq, Ne, Ugt, Uge, Ult, Ule, Sgt, Sge, Slt, Sle}
use Rattle.pg_read_ast.specs.declared.ops.CastOp.{CastOp}
use Rattle.pg_read_ast.specs.declared.ops.CastOp.TheVariants.{Trunc, Zext, Sext, PtrToInt, IntToPtr}
use Rattle.pg_read_ast.specs.Syntax.{Ty, Tys, I1, I8, I16, I32, I64, Ptr, Void, Array, Struct, Named, NoTys, MoreTys, Val}
use Rattle.pg_read_ast.specs.Syntax.{Vals, Int, True, False, Null, Undef, Poison, ZeroInitializer, Local, Global, GepVal}
use Rattle.pg_read_ast.specs.Syntax.{IntToPtrVal, NoVals, MoreVals, Typed, Const, TypedC, Consts, ValConst, BytesConst}
use Rattle.pg_read_ast.specs.Syntax.{ArrayConst, StructConst, NoConsts, MoreConsts, Incoming, Case, Written, Count, Op}
use Rattle.pg_read_ast.specs.Syntax.{Binary, Icmp, Cast, Select, Phi, Br, CondBr, Switch, Call, RetVoid, Ret, Unreachable}
use Rattle.pg_read_ast.specs.Syntax.{Alloca, Load, Store, GetElementPtr, Line, Block, Param, Dparam, ParamOf, Metadata}
use Rattle.pg_read_ast.specs.Syntax.{Dots, NamedType, Variable, Declaration, Definition, Tree}

-- one of 0 to 9 and A to F
abbrev pub hexadecimal : ℕ → ℕ
hexadecimal d = if nat_lt d 10 then 48 + d else 55 + d

-- a quote, a backslash and a byte outside 32 to 126
abbrev pub is_escaped : ℕ → Bool
is_escaped b = b == 34 || b == 92 || not (nat_le 32 b && nat_le b 126)

abbrev pub escaped_byte : ℕ → List ℕ
escaped_byte b = if is_escaped b then 92 ∷ hexadecimal (b / 16) ∷ hexadecimal (b % 16) ∷ [] else b ∷ []

abbrev pub quoted : List ℕ → List ℕ
quoted bs = codes "\"" ++ (flat_map escaped_byte bs ++ codes "\"")

-- a name without quotes
abbrev pub is_bare : List ℕ → Bool
is_bare [] = false
is_bare (b ∷ bs) = list_all is_name_byte (b ∷ bs)

unfoldable pub name_text : List ℕ → List ℕ
name_text bs = if is_bare bs then bs else quoted bs

abbrev pub local_text : Name → List ℕ
local_text n = codes "%" ++ name_text n.text

abbrev pub global_text : Name → List ℕ
global_text n = codes "@" ++ name_text n.text

-- ---- types

unfoldable mutual
  pub type_text : Ty → List ℕ
  type_text (I1 s) = codes "i1"
  type_text (I8 s) = codes "i8"
  type_text (I16 s) = codes "i16"
  type_text (I32 s) = codes "i32"
  type_text (I64 s) = codes "i64"
  type_text (Ptr s) = codes "ptr"
  type_text (Void s) = codes "void"
  type_text (Array s n t) = codes "[" ++ (n.text ++ (codes " x " ++ (type_text t ++ codes "]")))
  type_text (Struct s ts) = codes "{" ++ fields_text ts
  type_text (Named n) = local_text n

  pub fields_text : Tys → List ℕ
  fields_text NoTys = codes "}"
  fields_text (MoreTys t ts) = codes " " ++ (type_text t ++ (more_fields_text ts ++ codes " }"))

  pub more_fields_text : Tys → List ℕ
  more_fields_text NoTys = []
  more_fields_text (MoreTys t ts) = codes ", " ++ (type_text t ++ more_fields_text ts)

-- ---- values

unfoldable pub int_to_ptr_text : Ty → Literal → Ty → List ℕ
int_to_ptr_text t n u = codes "inttoptr (" ++ (type_text t ++ (codes " " ++ (n.text ++ (codes " to " ++ (type_text u ++ codes ")")))))

unfoldable pub zero_text : List ℕ
zero_text = codes "zeroinitializer"

unfoldable pub gep_text : List ℕ
gep_text = codes "getelementptr "

-- what stands before the pointer of a constant getelementptr
unfoldable pub gep_head : Ty → Ty → List ℕ
gep_head t u = gep_text ++ (codes "(" ++ (type_text t ++ (codes ", " ++ (type_text u ++ codes " "))))

unfoldable mutual
  pub val_text : Val → List ℕ
  val_text (Int n) = n.text
  val_text (True s) = codes "true"
  val_text (False s) = codes "false"
  val_text (Null s) = codes "null"
  val_text (Undef s) = codes "undef"
  val_text (Poison s) = codes "poison"
  val_text (ZeroInitializer s) = zero_text
  val_text (Local n) = local_text n
  val_text (Global n) = global_text n
  val_text (GepVal s t u p vs) = gep_head t u ++ (val_text p ++ (more_vals_text vs ++ codes ")"))
  val_text (IntToPtrVal s t n u) = int_to_ptr_text t n u

  pub more_vals_text : Vals → List ℕ
  more_vals_text NoVals = []
  more_vals_text (MoreVals t v vs) = (codes ", " ++ (type_text t ++ (codes " " ++ val_text v))) ++ more_vals_text vs

unfoldable pub typed_text : Typed → List ℕ
typed_text t = type_text t.ty ++ (codes " " ++ val_text t.value)

abbrev pub more_typed_text : Typed → List ℕ
more_typed_text t = codes ", " ++ typed_text t

-- ---- constants

-- a blank inside the braces of a structure that has members
unfoldable pub padding_text : Consts → List ℕ
padding_text NoConsts = []
padding_text (MoreConsts t c cs) = codes " "

unfoldable mutual
  pub const_text : Const → List ℕ
  const_text (ValConst v) = val_text v
  const_text (BytesConst b) = codes "c" ++ quoted b.text
  const_text (ArrayConst s cs) = codes "[" ++ (consts_text cs ++ codes "]")
  const_text (StructConst s cs) = codes "{" ++ (padding_text cs ++ (consts_text cs ++ (padding_text cs ++ codes "}")))

  pub consts_text : Consts → List ℕ
  consts_text NoConsts = []
  consts_text (MoreConsts t c cs) = (type_text t ++ (codes " " ++ const_text c)) ++ more_consts_text cs

  pub more_consts_text : Consts → List ℕ
  more_consts_text NoConsts = []
  more_consts_text (MoreConsts t c cs) = (codes ", " ++ (type_text t ++ (codes " " ++ const_text c))) ++ more_consts_text cs

unfoldable pub typed_const_text : TypedC → List ℕ
typed_const_text t = type_text t.ty ++ (codes " " ++ const_text t.value)

abbrev pub more_const_text : TypedC → List ℕ
more_const_text t = codes ", " ++ typed_const_text t

-- ---- instructions

abbrev pub binary_word : BinaryOp → List ℕ
binary_word Add = codes "add"
binary_word Sub = codes "sub"
binary_word Mul = codes "mul"
binary_word Udiv = codes "udiv"
binary_word Sdiv = codes "sdiv"
binary_word Urem = codes "urem"
binary_word Srem = codes "srem"
binary_word Shl = codes "shl"
binary_word Lshr = codes "lshr"
binary_word Ashr = codes "ashr"
binary_word And = codes "and"
binary_word Or = codes "or"
binary_word Xor = codes "xor"

abbrev pub predicate_word : Compare → List ℕ
predicate_word Eq = codes "eq"
predicate_word Ne = codes "ne"
predicate_word Ugt = codes "ugt"
predicate_word Uge = codes "uge"
predicate_word Ult = codes "ult"
predicate_word Ule = codes "ule"
predicate_word Sgt = codes "sgt"
predicate_word Sge = codes "sge"
predicate_word Slt = codes "slt"
predicate_word Sle = codes "sle"

abbrev pub cast_word : CastOp → List ℕ
cast_word Trunc = codes "trunc"
cast_word Zext = codes "zext"
cast_word Sext = codes "sext"
cast_word PtrToInt = codes "ptrtoint"
cast_word IntToPtr = codes "inttoptr"

unfoldable pub label_text : Name → List ℕ
label_text n = codes "label " ++ local_text n

abbrev pub more_label_text : Name → List ℕ
more_label_text n = codes ", " ++ label_text n

-- a type and two values
unfoldable pub pair_text : Ty → Val → Val → List ℕ
pair_text t a b = codes " " ++ (type_text t ++ (codes " " ++ (val_text a ++ (codes ", " ++ val_text b))))

unfoldable pub incoming_text : Incoming → List ℕ
incoming_text i = codes "[ " ++ (val_text i.value ++ (codes ", " ++ (local_text i.block ++ codes " ]")))

unfoldable pub case_text : Case → List ℕ
case_text i = codes " " ++ (typed_text i.value ++ more_label_text i.block)

abbrev pub dots_text : Bool → List Ty → List ℕ
dots_text false ts = []
dots_text true [] = codes "..."
dots_text true (t ∷ ts) = codes ", ..."

-- the types that a call writes
unfoldable pub written_text : Written → List ℕ
written_text w = codes " (" ++ (join_by type_text (codes ", ") w.types ++ (dots_text w.dots w.types ++ codes ")"))

abbrev pub types_written_text : Option Written → List ℕ
types_written_text None = []
types_written_text (Some w) = written_text w

abbrev pub count_text : Option Count → List ℕ
count_text None = []
count_text (Some n) = codes ", " ++ (type_text n.ty ++ (codes " " ++ n.count.text))

abbrev pub more_incoming_text : Incoming → List ℕ
more_incoming_text i = codes ", " ++ incoming_text i

unfoldable pub cast_text : CastOp → Typed → Ty → List ℕ
cast_text op v t = cast_word op ++ (codes " " ++ (typed_text v ++ (codes " to " ++ type_text t)))

unfoldable pub phi_text : Ty → Incoming → List Incoming → List ℕ
phi_text t i all = codes "phi " ++ (type_text t ++ (codes " " ++ (incoming_text i ++ flat_map more_incoming_text all)))

unfoldable pub switch_text : Typed → Name → List Case → List ℕ
switch_text v b all = codes "switch " ++ (typed_text v ++ (more_label_text b ++ (codes " [" ++ (flat_map case_text all ++ codes " ]"))))

-- the callee and its arguments
unfoldable pub called_text : Name → List Typed → List ℕ
called_text f all = codes " " ++ (global_text f ++ (codes "(" ++ (join_by typed_text (codes ", ") all ++ codes ")")))

unfoldable pub gep_op_text : Ty → Typed → List Typed → List ℕ
gep_op_text t p all = gep_text ++ (type_text t ++ (more_typed_text p ++ flat_map more_typed_text all))

unfoldable pub op_text : Op → List ℕ
op_text (Binary s op t a b) = binary_word op ++ pair_text t a b
op_text (Icmp s p t a b) = codes "icmp " ++ (predicate_word p ++ pair_text t a b)
op_text (Cast s op v t) = cast_text op v t
op_text (Select s c a b) = codes "select " ++ (typed_text c ++ (more_typed_text a ++ more_typed_text b))
op_text (Phi s t i all) = phi_text t i all
op_text (Br s b) = codes "br " ++ label_text b
op_text (CondBr s c a b) = codes "br " ++ (typed_text c ++ (more_label_text a ++ more_label_text b))
op_text (Switch s v b all) = switch_text v b all
op_text (Call s t w f all) = codes "call " ++ (type_text t ++ (types_written_text w ++ called_text f all))
op_text (RetVoid s v) = codes "ret void"
op_text (Ret s v) = codes "ret " ++ typed_text v
op_text (Unreachable s) = codes "unreachable"
op_text (Alloca s t n) = codes "alloca " ++ (type_text t ++ count_text n)
op_text (Load s t p) = codes "load " ++ (type_text t ++ more_typed_text p)
op_text (Store s v p) = codes "store " ++ (typed_text v ++ more_typed_text p)
op_text (GetElementPtr s t p all) = gep_op_text t p all

-- ---- items

abbrev pub result_text : Option Name → List ℕ
result_text None = []
result_text (Some n) = local_text n ++ codes " = "

unfoldable pub line_text : Line → List ℕ
line_text l = codes "  " ++ (result_text l.name ++ (op_text l.op ++ codes "\n"))

abbrev pub label_line : Option Name → List ℕ
label_line None = []
label_line (Some n) = name_text n.text ++ codes ":\n"

unfoldable pub block_text : Block → List ℕ
block_text b = label_line b.label ++ flat_map line_text b.lines

abbrev pub param_name_text : Option Name → List ℕ
param_name_text None = []
param_name_text (Some n) = codes " " ++ local_text n

unfoldable pub param_text : Param → List ℕ
param_text p = type_text p.ty ++ param_name_text p.name

unfoldable pub dparam_text : Dparam → List ℕ
dparam_text (ParamOf p) = param_text p
dparam_text (Metadata s) = codes "metadata"
dparam_text (Dots s) = codes "..."

unfoldable pub type_item_text : NamedType → List ℕ
type_item_text i = local_text i.name ++ (codes " = type " ++ (type_text i.ty ++ codes "\n"))

unfoldable pub constancy_text : Bool → List ℕ
constancy_text true = codes " = constant "
constancy_text false = codes " = global "

unfoldable pub global_item_text : Variable → List ℕ
global_item_text g = global_text g.name ++ (constancy_text g.is_constant ++ (type_text g.ty ++ (codes " " ++ (const_text g.value ++ codes "\n"))))

unfoldable pub declare_text : Declaration → List ℕ
declare_text d = codes "declare " ++ (type_text d.result ++ (codes " " ++ (global_text d.name ++ (codes "(" ++ (join_by dparam_text (codes ", ") d.params ++ codes ")\n")))))

-- the line before the blocks
unfoldable pub head_text : Ty → Name → List Param → List ℕ
head_text t n ps = codes "define " ++ (type_text t ++ (codes " " ++ (global_text n ++ (codes "(" ++ (join_by param_text (codes ", ") ps ++ codes ") {\n")))))

unfoldable pub define_text : Definition → List ℕ
define_text d = head_text d.result d.name d.params ++ (flat_map block_text d.blocks ++ codes "}\n")

-- the text of a tree in which each parameter, block and result of a definition has a name
abbrev pub tree_text : Tree → List ℕ
tree_text m = flat_map type_item_text m.types ++ (flat_map global_item_text m.globals ++ (flat_map declare_text m.declares ++ flat_map define_text m.functions))
