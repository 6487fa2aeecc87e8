-- What holds of each numbered program: every number is that of a part, and the types fit (LLVM
-- Language Reference).
use Rattle.std.specs.Prelude.{◌≡◌, ℕ, ◌+◌, ◌/◌, ◌<◌, ◌≤◌, max, ◌↔◌, ◌⊎◌, List, [], ◌∷◌, length, IsTrue, Option, Some, None, IfSome, IsSomeAnd}
use Rattle.std.specs.Prelude.{Contains, ◌≢◌, take, slice_get}
use Rattle.std.specs.List.{AllByRecursion}
use Rattle.pg_num.specs.Numbers.{modulus, width_bits}
use Rattle.pg_num.specs.declared.limits.TheConstants.{FUNCTION_LIMIT, GLOBAL_LIMIT, INSTRUCTION_LIMIT, FUNCTION_REGISTER_LIMIT, SIZE_LIMIT}
use Rattle.pg_num.specs.declared.layout.TheConstants.{GLOBALS_END}
use Rattle.pg_num.specs.declared.width.Width.{Width}
use Rattle.pg_num.specs.declared.width.Width.TheVariants.{W1, W32, W64}
use Rattle.pg_ir.specs.declared.value.Scalar.{Scalar}
use Rattle.pg_ir.specs.declared.value.Scalar.TheVariants.{Int, Ptr}
use Rattle.pg_ir.specs.declared.value.Value.{Value}
use Rattle.pg_ir.specs.declared.value.Value.TheVariants as value
use Rattle.pg_ir.specs.declared.library_call.LibraryCall.{LibraryCall}
use Rattle.pg_ir.specs.declared.library_call.LibraryCall.TheVariants.{PthreadCreate}
use Rattle.pg_ir.specs.declared.function.Function.{Function}
use Rattle.pg_ir.specs.declared.function.Block.{Block}
use Rattle.pg_ir.specs.declared.function.GlobalInfo.{GlobalInfo}
use Rattle.pg_ir.specs.declared.instr.Op.{Op}
use Rattle.pg_ir.specs.declared.instr.Op.TheVariants as op
use Rattle.pg_ir.specs.declared.instr.Instr.{Instr}
use Rattle.pg_ir.specs.declared.edge.Case.{Case}
use Rattle.pg_ir.specs.declared.edge.Incoming.{Incoming}
use Rattle.pg_ir.specs.declared.value.Index.{Index}
use Rattle.pg_ir.specs.Program.{NumberedProgram, types_of, parameter_count, result_of, function_of, first_block_of, first_of, end_of}
use Rattle.pg_ir.specs.Edges.{is_terminator, is_phi, sources_of, targets_of, successors, phis_of}
use Rattle.pg_ir.specs.Signatures.{parameters_of, returned_by}

-- a pointer has 64 bits
abbrev pub width_of : Scalar → Width
width_of (Int w) = w
width_of Ptr = W64

-- a function's name is no value but of a create
abbrev pub HasType : NumberedProgram → List Scalar → Scalar → Value → Type 0
HasType p types s (value.Register r) = slice_get types r ≡ Some s
HasType p types s (value.Const n) = n < modulus (width_of s)
HasType p types s (value.Global g) = (s ≡ Ptr) × (g < length p.globals)
HasType p types s (value.Function f) = ⊥

-- the arguments are as many as the parameters, and each has its parameter's type
abbrev pub HaveTypes : NumberedProgram → List Scalar → List Scalar → List Value → Type 0
HaveTypes p types [] [] = Unit {0}
HaveTypes p types [] (v ∷ vs) = ⊥
HaveTypes p types (s ∷ ss) [] = ⊥
HaveTypes p types (s ∷ ss) (v ∷ vs) = HasType p types s v × HaveTypes p types ss vs

-- a thread begins with a function from a pointer to a pointer
abbrev pub BeginsThread : Option Function → Type 0
BeginsThread None = ⊥
BeginsThread (Some f) = (f.params ≡ 1) × (slice_get f.registers 0 ≡ Some Ptr) × (f.result ≡ Some Ptr)

abbrev pub StartsThread : NumberedProgram → Value → Type 0
StartsThread p (value.Function f) = BeginsThread (slice_get p.functions f)
StartsThread p _ = ⊥

-- the third operand of a create is a function's name
abbrev pub FitCreate : NumberedProgram → List Scalar → List Value → Type 0
FitCreate p types (at ∷ attribute ∷ function ∷ argument ∷ []) =
    HasType p types Ptr at × HasType p types Ptr attribute × StartsThread p function × HasType p types Ptr argument
FitCreate p types _ = ⊥

abbrev pub FitLibraryCall : NumberedProgram → List Scalar → LibraryCall → List Value → Type 0
FitLibraryCall p types PthreadCreate args = FitCreate p types args
FitLibraryCall p types k args = HaveTypes p types (parameters_of k) args

-- a value is returned exactly where the function has a result
abbrev pub FitsReturn : NumberedProgram → List Scalar → Option Scalar → Option Value → Type 0
FitsReturn p types None None = Unit {0}
FitsReturn p types (Some s) (Some v) = HasType p types s v
FitsReturn p types _ _ = ⊥

-- the types of a function's parameters, the first of its registers
abbrev pub parameter_types : NumberedProgram → ℕ → List Scalar
parameter_types p f = take (parameter_count p f) (types_of p f)

-- a type of this width: its integer, or at 64 bits a pointer
abbrev pub HasWidth : Width → Option Scalar → Type 0
HasWidth w None = ⊥
HasWidth w (Some s) = width_of s ≡ w

abbrev pub BothHaveType : NumberedProgram → List Scalar → Scalar → Value → Value → Type 0
BothHaveType p types s a b = HasType p types s a × HasType p types s b

-- an operation on two integers of a width that gives one
abbrev pub FitsBinary : NumberedProgram → List Scalar → Option Scalar → Width → Value → Value → Type 0
FitsBinary p types result w a b = (result ≡ Some (Int w)) × BothHaveType p types (Int w) a b

-- integers of a width are compared, or pointers
abbrev pub FitsCompare : NumberedProgram → List Scalar → Width → Value → Value → Type 0
FitsCompare p types w a b = BothHaveType p types (Int w) a b ⊎ ((w ≡ W64) × BothHaveType p types Ptr a b)

-- an integer of a width is stored, or a pointer
abbrev pub FitsStored : NumberedProgram → List Scalar → Width → Value → Type 0
FitsStored p types w v = HasType p types (Int w) v ⊎ ((w ≡ W64) × HasType p types Ptr v)

abbrev pub IsNarrower : Width → Width → Type 0
IsNarrower a b = width_bits a < width_bits b

abbrev pub FitsIndex : NumberedProgram → List Scalar → Index → Type 0
FitsIndex p types i = HasType p types (Int i.width) i.value

abbrev pub FitsIncoming : NumberedProgram → List Scalar → Scalar → Incoming → Type 0
FitsIncoming p types s i = (i.block.0 < length p.blocks) × HasType p types s i.value

-- the operands and the result of an operation have the types that it takes and gives: `returns` is
-- what the function returns, and `result` is the type of the register that is set
abbrev pub FitsOp : NumberedProgram → List Scalar → Option Scalar → Option Scalar → Op → Type 0
FitsOp p types returns result (op.Add w a b) = FitsBinary p types result w a b
FitsOp p types returns result (op.Sub w a b) = FitsBinary p types result w a b
FitsOp p types returns result (op.Mul w a b) = FitsBinary p types result w a b
FitsOp p types returns result (op.Divide d w a b) = FitsBinary p types result w a b
FitsOp p types returns result (op.Shift s w a b) = FitsBinary p types result w a b
FitsOp p types returns result (op.Bits o w a b) = FitsBinary p types result w a b
FitsOp p types returns result (op.Compare c w a b) = (result ≡ Some (Int W1)) × FitsCompare p types w a b
FitsOp p types returns result (op.Trunc from to v) = (result ≡ Some (Int to)) × IsNarrower to from × HasType p types (Int from) v
FitsOp p types returns result (op.Zext from to v) = (result ≡ Some (Int to)) × IsNarrower from to × HasType p types (Int from) v
FitsOp p types returns result (op.Sext from to v) = (result ≡ Some (Int to)) × IsNarrower from to × HasType p types (Int from) v
FitsOp p types returns result (op.PtrToInt from to v) = (result ≡ Some (Int to)) × (from ≡ W64) × HasType p types Ptr v
FitsOp p types returns result (op.IntToPtr from to v) = (result ≡ Some Ptr) × (to ≡ W64) × HasType p types (Int from) v
FitsOp p types returns result (op.Select c a b) = HasType p types (Int W1) c × IsSomeAnd result (λ s. BothHaveType p types s a b)
FitsOp p types returns result (op.Phi from) = IsSomeAnd result (λ s. AllByRecursion (FitsIncoming p types s) from)
FitsOp p types returns result (op.Br to) = result ≡ None
FitsOp p types returns result (op.CondBr c a b) = (result ≡ None) × HasType p types (Int W1) c
FitsOp p types returns result (op.Switch w on other cases) = (result ≡ None) × HasType p types (Int w) on × AllByRecursion (λ (c : Case). c.value < modulus w) cases
FitsOp p types returns result (op.Call f args) = (result ≡ result_of p f) × (f < length p.functions) × HaveTypes p types (parameter_types p f) args
FitsOp p types returns result (op.Ret v) = (result ≡ None) × FitsReturn p types returns v
FitsOp p types returns result op.Unreachable = result ≡ None
FitsOp p types returns result (op.Alloca bytes) = result ≡ Some Ptr
FitsOp p types returns result (op.Load w from) = HasWidth w result × HasType p types Ptr from
FitsOp p types returns result (op.Store w v at) = (result ≡ None) × FitsStored p types w v × HasType p types Ptr at
FitsOp p types returns result (op.Gep base indices) = (result ≡ Some Ptr) × HasType p types Ptr base × AllByRecursion (FitsIndex p types) indices
FitsOp p types returns result (op.CallLibrary k args) = (result ≡ returned_by k) × FitLibraryCall p types k args

abbrev pub type_at : List Scalar → Option ℕ → Option Scalar
type_at types None = None
type_at types (Some r) = slice_get types r

abbrev pub IsPhi : Option Instr → Type 0
IsPhi None = ⊥
IsPhi (Some x) = IsTrue (is_phi x.op)

abbrev pub IsInFunction : ℕ → Option Block → Type 0
IsInFunction f None = ⊥
IsInFunction f (Some b) = b.function ≡ f

-- a phi stands only before its block's other instructions, never in a function's first block, and
-- lists just the blocks that go on to its own
pub record FitsPhi (p : NumberedProgram) (i : ℕ) (x : Instr) : Type 0 where
  pub first : (j : ℕ) → first_of p x.block.0 ≤ j → j < i → IsPhi (slice_get p.instrs j)
  pub entered : x.block.0 ≢ first_block_of p (function_of p x.block.0)
  pub sources : (b : ℕ) → b < length p.blocks → Contains (sources_of x.op) b ↔ Contains (successors p b) x.block.0

pub record FitsInstr (p : NumberedProgram) (i : ℕ) (x : Instr) : Type 0 where
  pub block : x.block.0 < length p.blocks
  pub from : first_of p x.block.0 ≤ i
  pub before : i < end_of p x.block.0
  pub ends : IsTrue (is_terminator x.op) ↔ (i + 1 ≡ end_of p x.block.0)
  pub target : IfSome x.result (λ r. r < length (types_of p (function_of p x.block.0)))
  pub targets : AllByRecursion (λ (b : ℕ). IsInFunction (function_of p x.block.0) (slice_get p.blocks b)) (targets_of x.op)
  pub phi : IsTrue (is_phi x.op) → FitsPhi p i x
  pub op : FitsOp p (types_of p (function_of p x.block.0)) (result_of p (function_of p x.block.0)) (type_at (types_of p (function_of p x.block.0)) x.result) x.op

abbrev pub IsInBlock : ℕ → Option Instr → Type 0
IsInBlock b None = ⊥
IsInBlock b (Some x) = x.block.0 ≡ b

pub record FitsBlock (p : NumberedProgram) (b : ℕ) (x : Block) : Type 0 where
  pub function : x.function < length p.functions
  pub some : 0 < x.count
  pub within : x.first.0 + x.count ≤ length p.instrs
  pub holds : (i : ℕ) → x.first.0 ≤ i → i < x.first.0 + x.count → IsInBlock b (slice_get p.instrs i)
  pub few_phis : length (phis_of p b) ≤ FUNCTION_REGISTER_LIMIT

pub record FitsFunction (p : NumberedProgram) (f : ℕ) (x : Function) : Type 0 where
  pub some : 0 < x.blocks
  pub within : x.first_block.0 + x.blocks ≤ length p.blocks
  pub holds : (b : ℕ) → x.first_block.0 ≤ b → b < x.first_block.0 + x.blocks → IsInFunction f (slice_get p.blocks b)
  pub params : x.params ≤ length x.registers
  pub few : length x.registers ≤ FUNCTION_REGISTER_LIMIT

-- a global takes the granules of 8 bytes that its size needs, and at least one
abbrev pub granules_for : ℕ → ℕ
granules_for size = max 1 ((size + 7) / 8)

-- globals lie one after another from this granule on, below the threads' memory
abbrev pub LieFrom : ℕ → List GlobalInfo → Type 0
LieFrom at [] = at ≤ GLOBALS_END
LieFrom at (g ∷ gs) = (g.start ≡ at) × (g.size ≤ SIZE_LIMIT) × (length g.bytes ≤ g.size) × LieFrom (at + granules_for g.size) gs

-- one global by itself
pub record FitsGlobal (g : GlobalInfo) : Type 0 where
  pub below : g.start + granules_for g.size ≤ GLOBALS_END
  pub size : g.size ≤ SIZE_LIMIT
  pub bytes : length g.bytes ≤ g.size

-- main takes nothing, and returns an integer of 32 bits
abbrev pub IsMain : Option Function → Type 0
IsMain None = ⊥
IsMain (Some f) = (f.params ≡ 0) × (f.result ≡ Some (Int W32))

-- a thread begins with main or with a function from a pointer to a pointer
abbrev pub StartsAs : NumberedProgram → ℕ → Type 0
StartsAs p f = (f ≡ p.main) ⊎ BeginsThread (slice_get p.functions f)

-- an instruction of this function
abbrev pub StandsIn : NumberedProgram → ℕ → Option Instr → Type 0
StandsIn p f None = ⊥
StandsIn p f (Some x) = function_of p x.block.0 ≡ f

pub record IsProgram (p : NumberedProgram) : Type 0 where
  pub functions : (f : ℕ) (x : Function) → slice_get p.functions f ≡ Some x → FitsFunction p f x
  pub blocks : (b : ℕ) (x : Block) → slice_get p.blocks b ≡ Some x → FitsBlock p b x
  pub instrs : (i : ℕ) (x : Instr) → slice_get p.instrs i ≡ Some x → FitsInstr p i x
  pub main : IsMain (slice_get p.functions p.main)
  pub globals : LieFrom 1 p.globals
  pub few_functions : length p.functions ≤ FUNCTION_LIMIT
  pub few_instrs : length p.instrs ≤ INSTRUCTION_LIMIT
  pub few_globals : length p.globals ≤ GLOBAL_LIMIT
