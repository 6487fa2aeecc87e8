-- The numbered program of a tree that isn't refused: functions, basic blocks, instructions and globals in text order,
-- each register and label by its number, sizes and offsets in bytes.
use Rattle.std.specs.Prelude.{ℕ, ◌+◌, ◌*◌, if◌then◌else◌, List, [], ◌∷◌, map, length, Option, Some, None, unwrap_or}
use Rattle.std.specs.List.{flat_map, filter_map, enumerate_from, position}
use Rattle.std.specs.Str.{bytes_eq}
use Rattle.pg_num.specs.declared.width.Width.{Width}
use Rattle.pg_num.specs.declared.width.Width.TheVariants.{W64}
use Rattle.pg_num.specs.declared.operations.Division.TheVariants as division
use Rattle.pg_num.specs.declared.operations.Shift.TheVariants as shift
use Rattle.pg_num.specs.declared.operations.Bits.TheVariants as bits
use Rattle.pg_ir.specs.declared.ids.BlockNo.{BlockNo}
use Rattle.pg_ir.specs.declared.value.Scalar.{Scalar}
use Rattle.pg_ir.specs.declared.value.Scalar.TheVariants as scalar
use Rattle.pg_ir.specs.declared.value.Value.{Value}
use Rattle.pg_ir.specs.declared.value.Value.TheVariants as value
use Rattle.pg_ir.specs.declared.value.Scale.{Scale}
use Rattle.pg_ir.specs.declared.value.Index.{Index}
use Rattle.pg_ir.specs.declared.edge.Case as numbered_case
use Rattle.pg_ir.specs.declared.edge.Incoming as numbered_incoming
use Rattle.pg_ir.specs.declared.function.Function.{Function}
use Rattle.pg_ir.specs.declared.function.Block as numbered_block
use Rattle.pg_ir.specs.declared.function.GlobalInfo.{GlobalInfo}
use Rattle.pg_ir.specs.declared.library_call.LibraryCall.{LibraryCall}
use Rattle.pg_ir.specs.declared.instr.Op as numbered_op
use Rattle.pg_ir.specs.declared.instr.Op.TheVariants as op
use Rattle.pg_ir.specs.declared.instr.Instr.{Instr}
use Rattle.pg_ir.specs.Program.{NumberedProgram, numbered_program}
use Rattle.pg_read_ast.specs.declared.names.Name.{Name}
use Rattle.pg_read_ast.specs.declared.ops.BinaryOp.{BinaryOp}
use Rattle.pg_read_ast.specs.declared.ops.BinaryOp.TheVariants.{Add, Sub, Mul, Udiv, Sdiv, Urem, Srem, Shl, Lshr, Ashr, And, Or, Xor}
use Rattle.pg_read_ast.specs.declared.ops.CastOp.{CastOp}
use Rattle.pg_read_ast.specs.declared.ops.CastOp.TheVariants.{Trunc, Zext, Sext, PtrToInt, IntToPtr}
use Rattle.pg_read_ast.specs.Syntax.{Ty, Val, Int, Local, Global, Typed, Incoming, Case, Count, Op, Binary, Icmp, Cast}
use Rattle.pg_read_ast.specs.Syntax.{Select, Phi, Br, CondBr, Switch, Call, RetVoid, Ret, Unreachable, Alloca, Load, Store}
use Rattle.pg_read_ast.specs.Syntax.{GetElementPtr, Line, Block, Variable, Definition, Tree}
use Rattle.pg_read_ast.specs.Numbers.{gives, numbered}
use Rattle.pg_check_types.specs.Resolved.{ResolvedType, IntegerType, PointerType, resolved}
use Rattle.pg_check_types.specs.Layout.{size_or_none}
use Rattle.pg_check_rules.specs.Names.{Symbol, VariableOf, DefinitionOf, symbol, Register, registers_of, register_number, label_number, first_block, first_line}
use Rattle.pg_check_rules.specs.CallConditions.{known_of}
use Rattle.pg_check_rules.specs.Conditions.{scope_of, main_name}
use Rattle.pg_check_rules.specs.ValueConditions.{Scope, number_at}
use Rattle.pg_check_rules.specs.Constants.{constant_word, index_scales, start_granule, bytes_at, trimmed}

-- ---- types

abbrev pub scalar_in : Option ResolvedType → Option Scalar
scalar_in (Some (IntegerType w)) = Some (scalar.Int w)
scalar_in (Some PointerType) = Some scalar.Ptr
scalar_in _ = None

abbrev pub width_in : Option ResolvedType → Width
width_in (Some (IntegerType w)) = w
width_in _ = W64

-- ---- operands

abbrev pub symbol_value : Symbol → Value
symbol_value (VariableOf i v) = value.Global i
symbol_value (DefinitionOf f d) = value.Function f
symbol_value _ = value.Const 0

-- a register, a global or a function by its number, and else a constant
unfoldable pub value_of : Scope → Option ResolvedType → Val → Value
value_of g t (Local n) = value.Register (unwrap_or (register_number g.registers n.text) 0)
value_of g t (Global n) = symbol_value (symbol g.tree n.text)
value_of g t v = value.Const (constant_word g.tree t v)

abbrev pub type_in : Scope → Ty → Option ResolvedType
type_in g t = resolved g.tree.types t

abbrev pub value_at : Scope → Ty → Val → Value
value_at g t v = value_of g (type_in g t) v

abbrev pub typed_value : Scope → Typed → Value
typed_value g v = value_at g v.ty v.value

-- the block of a label; `first` is the first of the function
abbrev pub block_at : Scope → ℕ → Name → BlockNo
block_at g first n = record { 0 = first + unwrap_or (label_number g.labels n.text) 0 }

-- ---- operations

abbrev pub binary_op : BinaryOp → Width → Value → Value → numbered_op.Op
binary_op Add w a b = op.Add w a b
binary_op Sub w a b = op.Sub w a b
binary_op Mul w a b = op.Mul w a b
binary_op Udiv w a b = op.Divide division.Udiv w a b
binary_op Sdiv w a b = op.Divide division.Sdiv w a b
binary_op Urem w a b = op.Divide division.Urem w a b
binary_op Srem w a b = op.Divide division.Srem w a b
binary_op Shl w a b = op.Shift shift.Shl w a b
binary_op Lshr w a b = op.Shift shift.Lshr w a b
binary_op Ashr w a b = op.Shift shift.Ashr w a b
binary_op And w a b = op.Bits bits.And w a b
binary_op Or w a b = op.Bits bits.Or w a b
binary_op Xor w a b = op.Bits bits.Xor w a b

abbrev pub cast_op : CastOp → Width → Width → Value → numbered_op.Op
cast_op Trunc from to v = op.Trunc from to v
cast_op Zext from to v = op.Zext from to v
cast_op Sext from to v = op.Sext from to v
cast_op PtrToInt from to v = op.PtrToInt from to v
cast_op IntToPtr from to v = op.IntToPtr from to v

abbrev pub incoming_at : Scope → ℕ → Ty → Incoming → numbered_incoming.Incoming
incoming_at g first t i = record { block = block_at g first i.block; value = value_at g t i.value }

-- a case is read at the width of the switch
abbrev pub case_at : Scope → ℕ → Ty → Case → numbered_case.Case
case_at g first t c = record { value = unwrap_or (number_at (type_in g t) c.value.value) 0; to = block_at g first c.block }

-- a count is read at its own width, and is 1 where none is written
abbrev pub count_in : Scope → Option Count → ℕ
count_in g None = 1
count_in g (Some n) = unwrap_or (number_at (type_in g n.ty) (Int n.count)) 0

abbrev pub index_at : Scope → Typed → Scale → Index
index_at g i s = record { value = typed_value g i; width = width_in (type_in g i.ty); scale = s }

abbrev pub indices_at : Scope → List Typed → List Scale → List Index
indices_at g (i ∷ is) (s ∷ ss) = index_at g i s ∷ indices_at g is ss
indices_at g _ _ = []

abbrev pub library_call : Option LibraryCall → List Value → numbered_op.Op
library_call (Some k) all = op.CallLibrary k all
library_call None all = op.Unreachable

abbrev pub call_of : Symbol → List Value → numbered_op.Op
call_of (DefinitionOf f d) all = op.Call f all
call_of s all = library_call (known_of s) all

unfoldable pub op_at : Scope → ℕ → Op → numbered_op.Op
op_at g first (Binary s o t a b) = binary_op o (width_in (type_in g t)) (value_at g t a) (value_at g t b)
op_at g first (Icmp s p t a b) = op.Compare p (width_in (type_in g t)) (value_at g t a) (value_at g t b)
op_at g first (Cast s o v t) = cast_op o (width_in (type_in g v.ty)) (width_in (type_in g t)) (typed_value g v)
op_at g first (Select s c a b) = op.Select (typed_value g c) (typed_value g a) (typed_value g b)
op_at g first (Phi s t i all) = op.Phi (map (incoming_at g first t) (i ∷ all))
op_at g first (Br s b) = op.Br (block_at g first b)
op_at g first (CondBr s c a b) = op.CondBr (typed_value g c) (block_at g first a) (block_at g first b)
op_at g first (Switch s v b all) = op.Switch (width_in (type_in g v.ty)) (typed_value g v) (block_at g first b) (map (case_at g first v.ty) all)
op_at g first (Call s t w f all) = call_of (symbol g.tree f.text) (map (typed_value g) all)
op_at g first (RetVoid s v) = op.Ret None
op_at g first (Ret s v) = op.Ret (Some (typed_value g v))
op_at g first (Unreachable s) = op.Unreachable
op_at g first (Alloca s t n) = op.Alloca (size_or_none (type_in g t) * count_in g n)
op_at g first (Load s t p) = op.Load (width_in (type_in g t)) (typed_value g p)
op_at g first (Store s v p) = op.Store (width_in (type_in g v.ty)) (typed_value g v) (typed_value g p)
op_at g first (GetElementPtr s t p all) = op.Gep (typed_value g p) (indices_at g all (index_scales g.tree.types t all))

-- ---- instructions, blocks, functions

abbrev pub number_of_name : Scope → Option Name → Option ℕ
number_of_name g None = None
number_of_name g (Some n) = register_number g.registers n.text

-- the register that an instruction sets
abbrev pub result_at : Scope → Line → Option ℕ
result_at g l = if gives g.tree.types l.op then number_of_name g l.name else None

abbrev pub instr_at : Scope → ℕ → ℕ → Line → Instr
instr_at g first b l = record { op = op_at g first l.op; block = record { 0 = first + b }; result = result_at g l }

-- the instructions of a function, whose blocks are numbered from `first` on
abbrev pub function_instrs : Tree → ℕ → Definition → List Instr
function_instrs m first d = flat_map (λ (b : ℕ × Block). map (instr_at (scope_of m d) first b.0) b.1.lines) (enumerate_from 0 d.blocks)

-- the blocks of function `f`, whose instructions are numbered from `at` on
abbrev pub blocks_from : ℕ → ℕ → List Block → List numbered_block.Block
blocks_from f at [] = []
blocks_from f at (b ∷ bs) = record { function = f; first = record { 0 = at }; count = length b.lines } ∷ blocks_from f (at + length b.lines) bs

abbrev pub function_at : Tree → ℕ → Definition → Function
function_at m first d = record {
  params = length d.params;
  registers = filter_map (λ (r : Register). scalar_in r.ty) (registers_of m.types d);
  first_block = record { 0 = first };
  blocks = length d.blocks;
  result = scalar_in (resolved m.types d.result);
}

-- ---- globals

-- the bytes of the initialiser without zeros at the end: what isn't kept is 0
abbrev pub global_at : Tree → ℕ → Variable → GlobalInfo
global_at m i v = record {
  start = start_granule m i;
  size = size_or_none (resolved m.types v.ty);
  bytes = trimmed (bytes_at m (resolved m.types v.ty) v.value);
}

-- ---- the whole

abbrev pub named_functions : Tree → List Definition
named_functions m = map (numbered m.types) m.functions

unfoldable pub program_of : Tree → NumberedProgram
program_of m = numbered_program
    (map (λ (d : ℕ × Definition). function_at m (first_block m.functions d.0) d.1) (enumerate_from 0 (named_functions m)))
    (flat_map (λ (d : ℕ × Definition). blocks_from d.0 (first_line m.functions d.0) d.1.blocks) (enumerate_from 0 (named_functions m)))
    (flat_map (λ (d : ℕ × Definition). function_instrs m (first_block m.functions d.0) d.1) (enumerate_from 0 (named_functions m)))
    (map (λ (v : ℕ × Variable). global_at m v.0 v.1) (enumerate_from 0 m.globals))
    (unwrap_or (position (λ (d : Definition). bytes_eq d.name.text main_name) m.functions) 0)
