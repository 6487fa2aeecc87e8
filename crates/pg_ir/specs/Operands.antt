-- Where the operands of an operation stand: what a step needs so as to read them and to go on.
use Rattle.std.specs.Prelude.{ℕ, ◌<◌, ◌≤◌, ◌^◌, length, Option, Some, None, IfSome}
use Rattle.std.specs.List.{AllByRecursion}
use Rattle.pg_num.specs.declared.limits.TheConstants.{FUNCTION_REGISTER_LIMIT}
use Rattle.pg_ir.specs.declared.value.Value.{Value}
use Rattle.pg_ir.specs.declared.value.Value.TheVariants as value
use Rattle.pg_ir.specs.declared.value.Index.{Index}
use Rattle.pg_ir.specs.declared.edge.Incoming.{Incoming}
use Rattle.pg_ir.specs.declared.instr.Op.{Op}
use Rattle.pg_ir.specs.declared.instr.Op.TheVariants as op
use Rattle.pg_ir.specs.declared.instr.Instr.{Instr}
use Rattle.pg_ir.specs.Program.{NumberedProgram}
use Rattle.pg_ir.specs.Edges.{targets_of, incoming_of, phis_of}

-- in a frame of n registers
abbrev pub CanRead : NumberedProgram → ℕ → Value → Type 0
CanRead p n (value.Register r) = r < n
CanRead p n (value.Const c) = c < 2 ^ 64
CanRead p n (value.Global g) = g < length p.globals
CanRead p n (value.Function f) = f < length p.functions

abbrev pub CanReadReturned : NumberedProgram → ℕ → Option Value → Type 0
CanReadReturned p n None = Unit {0}
CanReadReturned p n (Some v) = CanRead p n v

abbrev pub CanReadAll : NumberedProgram → ℕ → Op → Type 0
CanReadAll p n (op.Add w a b) = CanRead p n a × CanRead p n b
CanReadAll p n (op.Sub w a b) = CanRead p n a × CanRead p n b
CanReadAll p n (op.Mul w a b) = CanRead p n a × CanRead p n b
CanReadAll p n (op.Divide d w a b) = CanRead p n a × CanRead p n b
CanReadAll p n (op.Shift s w a b) = CanRead p n a × CanRead p n b
CanReadAll p n (op.Bits o w a b) = CanRead p n a × CanRead p n b
CanReadAll p n (op.Compare c w a b) = CanRead p n a × CanRead p n b
CanReadAll p n (op.Trunc from to v) = CanRead p n v
CanReadAll p n (op.Zext from to v) = CanRead p n v
CanReadAll p n (op.Sext from to v) = CanRead p n v
CanReadAll p n (op.PtrToInt from to v) = CanRead p n v
CanReadAll p n (op.IntToPtr from to v) = CanRead p n v
CanReadAll p n (op.Select c a b) = CanRead p n c × CanRead p n a × CanRead p n b
CanReadAll p n (op.Phi from) = AllByRecursion (λ (i : Incoming). CanRead p n i.value) from
CanReadAll p n (op.Br to) = Unit {0}
CanReadAll p n (op.CondBr c a b) = CanRead p n c
CanReadAll p n (op.Switch w on other cases) = CanRead p n on
CanReadAll p n (op.Call f args) = AllByRecursion (CanRead p n) args
CanReadAll p n (op.Ret v) = CanReadReturned p n v
CanReadAll p n op.Unreachable = Unit {0}
CanReadAll p n (op.Alloca bytes) = Unit {0}
CanReadAll p n (op.Load w from) = CanRead p n from
CanReadAll p n (op.Store w v at) = CanRead p n v × CanRead p n at
CanReadAll p n (op.Gep base indices) = CanRead p n base × AllByRecursion (λ (i : Index). CanRead p n i.value) indices
CanReadAll p n (op.CallLibrary k args) = AllByRecursion (CanRead p n) args

-- a phi's values can be read, and its register is one of the frame's
pub record CanTakePhi (p : NumberedProgram) (n : ℕ) (x : Instr) : Type 0 where
  pub target : IfSome x.result (λ r. r < n)
  pub values : AllByRecursion (λ (i : Incoming). CanRead p n i.value) (incoming_of x.op)

-- the block can be entered with these registers
pub record CanEnter (p : NumberedProgram) (n b : ℕ) : Type 0 where
  pub block : b < length p.blocks
  pub phis : AllByRecursion (CanTakePhi p n) (phis_of p b)
  pub few : length (phis_of p b) ≤ FUNCTION_REGISTER_LIMIT

-- each block to which the operation may go on can be entered
abbrev pub CanGoOn : NumberedProgram → ℕ → Op → Type 0
CanGoOn p n op = AllByRecursion (CanEnter p n) (targets_of op)
