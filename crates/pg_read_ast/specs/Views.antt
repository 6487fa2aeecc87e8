-- What the nodes are as trees.
use Rattle.std.specs.Prelude.{map}
use Rattle.std.specs.Option.{option_map}
use Rattle.pg_read_ast.specs.Syntax as syntax
use Rattle.pg_read_ast.specs.Syntax.{Ty, Val, Typed, Const, TypedC, tys, vals, consts, Op, Line, Block, Param, Dparam, NamedType, Variable, Declaration, Definition, Tree, Incoming, Case}
use Rattle.pg_read_ast.specs.Syntax.{Written, Count}
use Rattle.pg_read_ast.specs.declared.types.TypeNode.{TypeNode}
use Rattle.pg_read_ast.specs.declared.types.TypeNode.TheOpen.{TypeNode-F, I1, I8, I16, I32, I64, Ptr, Void, Array, Struct, Named}
use Rattle.pg_read_ast.specs.declared.types.TypeNode.TheFolds.{fold-TypeNode}
use Rattle.pg_read_ast.specs.declared.values.ValNode.{ValNode}
use Rattle.pg_read_ast.specs.declared.values.ValNode.TheOpen.{ValNode-F, Int, True, False, Null, Undef, Poison, ZeroInitializer, Local, Global, GetElementPtr, IntToPtr}
use Rattle.pg_read_ast.specs.declared.values.ValNode.TheFolds.{fold-ValNode}
use Rattle.pg_read_ast.specs.declared.values.TypedVal.{TypedVal, TypedVal-F, fold-TypedVal}
use Rattle.pg_read_ast.specs.declared.values.ConstNode.{ConstNode}
use Rattle.pg_read_ast.specs.declared.values.ConstNode.TheOpen as constants
use Rattle.pg_read_ast.specs.declared.values.ConstNode.TheFolds.{fold-ConstNode}
use Rattle.pg_read_ast.specs.declared.values.TypedConst.{TypedConst, TypedConst-F, fold-TypedConst}
use Rattle.pg_read_ast.specs.declared.ops.OpNode.{OpNode}
use Rattle.pg_read_ast.specs.declared.ops.OpNode.TheVariants as ops
use Rattle.pg_read_ast.specs.declared.ops.IncomingNode.{IncomingNode}
use Rattle.pg_read_ast.specs.declared.ops.CaseNode.{CaseNode}
use Rattle.pg_read_ast.specs.declared.ops.CallTypes.{CallTypes}
use Rattle.pg_read_ast.specs.declared.ops.CountNode.{CountNode}
use Rattle.pg_read_ast.specs.declared.nodes.LineNode.{LineNode}
use Rattle.pg_read_ast.specs.declared.nodes.BlockNode.{BlockNode}
use Rattle.pg_read_ast.specs.declared.nodes.ParamNode.{ParamNode}
use Rattle.pg_read_ast.specs.declared.nodes.DparamNode.{DparamNode}
use Rattle.pg_read_ast.specs.declared.nodes.DparamNode.TheVariants as dparams
use Rattle.pg_read_ast.specs.declared.nodes.TypeItem.{TypeItem}
use Rattle.pg_read_ast.specs.declared.nodes.GlobalItem.{GlobalItem}
use Rattle.pg_read_ast.specs.declared.nodes.DeclareItem.{DeclareItem}
use Rattle.pg_read_ast.specs.declared.nodes.DefineItem.{DefineItem}
use Rattle.pg_read_ast.specs.declared.nodes.Module.{Module}

-- one layer of a type, with what each type in it is
abbrev pub ty_step : TypeNode-F Ty → Ty
ty_step (I1 s) = syntax.I1 s
ty_step (I8 s) = syntax.I8 s
ty_step (I16 s) = syntax.I16 s
ty_step (I32 s) = syntax.I32 s
ty_step (I64 s) = syntax.I64 s
ty_step (Ptr s) = syntax.Ptr s
ty_step (Void s) = syntax.Void s
ty_step (Array s n t) = syntax.Array s n t.value
ty_step (Struct s all) = syntax.Struct s (tys all.items)
ty_step (Named n) = syntax.Named n

abbrev pub ty_of : TypeNode → Ty
ty_of = fold-TypeNode Ty ty_step

abbrev pub val_step : ValNode-F Val Typed → Val
val_step (Int n) = syntax.Int n
val_step (True s) = syntax.True s
val_step (False s) = syntax.False s
val_step (Null s) = syntax.Null s
val_step (Undef s) = syntax.Undef s
val_step (Poison s) = syntax.Poison s
val_step (ZeroInitializer s) = syntax.ZeroInitializer s
val_step (Local n) = syntax.Local n
val_step (Global n) = syntax.Global n
val_step (GetElementPtr s t u p all) = syntax.GepVal s (ty_of t) (ty_of u) p.value (vals all.items)
val_step (IntToPtr s t n u) = syntax.IntToPtrVal s (ty_of t) n (ty_of u)

abbrev pub typed_step : TypedVal-F Val Typed → Typed
typed_step t = record { ty = ty_of t.ty; value = t.value }

abbrev pub val_of : ValNode → Val
val_of = fold-ValNode Val Typed val_step typed_step

abbrev pub typed_of : TypedVal → Typed
typed_of = fold-TypedVal Val Typed val_step typed_step

abbrev pub const_step : constants.ConstNode-F Const TypedC → Const
const_step (constants.Val v) = syntax.ValConst (val_of v)
const_step (constants.Bytes b) = syntax.BytesConst b
const_step (constants.Array s all) = syntax.ArrayConst s (consts all.items)
const_step (constants.Struct s all) = syntax.StructConst s (consts all.items)

abbrev pub typed_const_step : TypedConst-F Const TypedC → TypedC
typed_const_step t = record { ty = ty_of t.ty; value = t.value }

abbrev pub const_of : ConstNode → Const
const_of = fold-ConstNode Const TypedC const_step typed_const_step

abbrev pub typed_const_of : TypedConst → TypedC
typed_const_of = fold-TypedConst Const TypedC const_step typed_const_step

abbrev pub incoming_of : IncomingNode → Incoming
incoming_of i = record { value = val_of i.value; block = i.block }

abbrev pub case_of : CaseNode → Case
case_of i = record { value = typed_of i.value; block = i.block }

abbrev pub written_of : CallTypes → Written
written_of w = record { types = map ty_of w.types.items; dots = w.dots }

abbrev pub count_of : CountNode → Count
count_of n = record { ty = ty_of n.ty; count = n.count }

abbrev pub op_of : OpNode → Op
op_of (ops.Binary s op t a b) = syntax.Binary s op (ty_of t) (val_of a) (val_of b)
op_of (ops.Icmp s op t a b) = syntax.Icmp s op (ty_of t) (val_of a) (val_of b)
op_of (ops.Cast s op v t) = syntax.Cast s op (typed_of v) (ty_of t)
op_of (ops.Select s c a b) = syntax.Select s (typed_of c) (typed_of a) (typed_of b)
op_of (ops.Phi s t i all) = syntax.Phi s (ty_of t) (incoming_of i) (map incoming_of all.items)
op_of (ops.Br s b) = syntax.Br s b
op_of (ops.CondBr s c a b) = syntax.CondBr s (typed_of c) a b
op_of (ops.Switch s v b all) = syntax.Switch s (typed_of v) b (map case_of all.items)
op_of (ops.Call s t w f all) = syntax.Call s (ty_of t) (option_map written_of w) f (map typed_of all.items)
op_of (ops.RetVoid s v) = syntax.RetVoid s v
op_of (ops.Ret s v) = syntax.Ret s (typed_of v)
op_of (ops.Unreachable s) = syntax.Unreachable s
op_of (ops.Alloca s t n) = syntax.Alloca s (ty_of t) (option_map count_of n)
op_of (ops.Load s t v) = syntax.Load s (ty_of t) (typed_of v)
op_of (ops.Store s v p) = syntax.Store s (typed_of v) (typed_of p)
op_of (ops.GetElementPtr s t p all) = syntax.GetElementPtr s (ty_of t) (typed_of p) (map typed_of all.items)

abbrev pub line_of : LineNode → Line
line_of l = record { name = l.name; op = op_of l.op }

abbrev pub block_of : BlockNode → Block
block_of b = record { label = b.label; lines = map line_of b.lines.items }

abbrev pub param_of : ParamNode → Param
param_of p = record { ty = ty_of p.ty; name = p.name }

abbrev pub dparam_of : DparamNode → Dparam
dparam_of (dparams.Param p) = syntax.ParamOf (param_of p)
dparam_of (dparams.Metadata s) = syntax.Metadata s
dparam_of (dparams.Dots s) = syntax.Dots s

abbrev pub type_item_of : TypeItem → NamedType
type_item_of i = record { name = i.name; ty = ty_of i.ty }

abbrev pub global_of : GlobalItem → Variable
global_of g = record { name = g.name; is_constant = g.is_constant; ty = ty_of g.ty; value = const_of g.value }

abbrev pub declare_of : DeclareItem → Declaration
declare_of d = record { result = ty_of d.result; name = d.name; params = map dparam_of d.params.items }

abbrev pub define_of : DefineItem → Definition
define_of d = record { result = ty_of d.result; name = d.name; params = map param_of d.params.items; blocks = map block_of d.blocks.items }

-- the tree that a module is
abbrev pub tree_of : Module → Tree
tree_of m = record { types = map type_item_of m.types.items; globals = map global_of m.globals.items; declares = map declare_of m.declares.items; functions = map define_of m.functions.items }
