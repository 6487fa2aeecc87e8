-- What the code of a step asks of the operands and of the state: that each number has its width, and
-- that the step can be taken.
use Rattle.std.specs.Prelude.{◌≡◌, ℕ, ◌+◌, ◌<◌, ◌&&◌, true, ◌≤◌, ◌^◌, List, [], ◌∷◌, length, Bool, IsTrue, Option, Some, None, IfSome, slice_get}
use Rattle.std.specs.Prelude.{if◌then◌else◌}
use Rattle.std.specs.List.{AllByRecursion}
use Rattle.pg_ir.specs.pg_num.Numbers.{modulus}
use Rattle.pg_ir.specs.pg_num.declared.layout.TheConstants.{THREAD_GRANULES}
use Rattle.pg_ir.specs.pg_num.declared.limits.TheConstants.{CALL_DEPTH_LIMIT, THREAD_LIMIT, THREAD_REGISTER_LIMIT, FUNCTION_REGISTER_LIMIT, INSTRUCTION_LIMIT}
use Rattle.pg_ir.specs.pg_num.declared.width.Width.{Width}
use Rattle.pg_ir.specs.declared.library_call.LibraryCall.{LibraryCall}
use Rattle.pg_ir.specs.declared.library_call.LibraryCall.TheVariants as known
use Rattle.pg_ir.specs.declared.request.Request.{Request}
use Rattle.pg_ir.specs.declared.request.Request.TheVariants as requests
use Rattle.pg_ir.specs.declared.value.Index.{Index}
use Rattle.pg_ir.specs.declared.value.Value.{Value}
use Rattle.pg_ir.specs.declared.instr.Op.{Op}
use Rattle.pg_ir.specs.declared.instr.Op.TheVariants as op
use Rattle.pg_ir.specs.declared.instr.Instr.{Instr}
use Rattle.pg_ir.specs.Program.{NumberedProgram, types_of}
use Rattle.pg_ir.specs.Operands.{CanReadAll, CanGoOn}
use Rattle.pg_ir.specs.WellFormed.{granules_for}
use Rattle.pg_ir.specs.Edges.{is_terminator, successors, targets_of, case_of, phis_of}
use Rattle.pg_ir.specs.Tables.{block_cases, cases_of}
use Rattle.pg_ir.specs.pg_num.Pointers.{moved_by}
use Rattle.pg_run_thread.specs.LocalState.{Frame, LocalState, own_memory, top_height}
use Rattle.pg_run_thread.specs.Operands.{operand, given, number_at}
use Rattle.pg_run_thread.specs.Compute.{index_bytes, chosen, with_value}
use Rattle.pg_run_thread.specs.EdgeStep.{is_set, have_values}
use Rattle.pg_run_thread.specs.Told.{place_in}
use Rattle.pg_run_thread.specs.Step.{total, has_room, top_registers, under_top}

-- ---- operands

-- the number of an operand is one of the width
abbrev pub HasWidth : NumberedProgram → List (Option ℕ) → Width → Value → Type 0
HasWidth p rs w v = given (operand p rs v) < modulus w

-- the third operand of a create is the number of a function, that of a barrier's init has 32 bits
abbrev pub KnownWidths : NumberedProgram → List (Option ℕ) → LibraryCall → List Value → Type 0
KnownWidths p rs known.PthreadCreate args = number_at p rs args 2 < 2 ^ 32
KnownWidths p rs known.PthreadBarrierInit args = number_at p rs args 2 < 2 ^ 32
KnownWidths p rs k args = Unit {0}

-- the operands have the widths that the operation takes, and a called function is one of the program's
abbrev pub OperandsFit : NumberedProgram → List (Option ℕ) → Op → Type 0
OperandsFit p rs (op.Divide d w a b) = HasWidth p rs w a × HasWidth p rs w b
OperandsFit p rs (op.Shift s w a b) = HasWidth p rs w a
OperandsFit p rs (op.Compare c w a b) = HasWidth p rs w a × HasWidth p rs w b
OperandsFit p rs (op.Sext from to v) = HasWidth p rs from v
OperandsFit p rs (op.Gep base indices) = AllByRecursion (λ (i : Index). HasWidth p rs i.width i.value) indices
OperandsFit p rs (op.Call g args) = g < length p.functions
OperandsFit p rs (op.CallLibrary k args) = KnownWidths p rs k args
OperandsFit p rs _ = Unit {0}

-- a pointer moved along the indices, one after another
abbrev pub moved_each : NumberedProgram → List (Option ℕ) → ℕ → List Index → ℕ
moved_each p rs word [] = word
moved_each p rs word (i ∷ is) = moved_each p rs (moved_by word (index_bytes i i.scale (given (operand p rs i.value)))) is

-- the same where an index may have no value
abbrev pub moved_each_if : NumberedProgram → List (Option ℕ) → ℕ → List Index → Option ℕ
moved_each_if p rs word [] = Some word
moved_each_if p rs word (i ∷ is) = with_value (operand p rs i.value) (λ n. moved_each_if p rs (moved_by word (index_bytes i i.scale n)) is)

-- operations that have a kind of their own
abbrev pub HasKind : Op → Type 0
HasKind (op.Divide d w a b) = Unit {0}
HasKind (op.Shift s w a b) = Unit {0}
HasKind (op.Bits o w a b) = Unit {0}
HasKind (op.Compare c w a b) = Unit {0}
HasKind _ = ⊥

-- operations that only compute with their operands, and can't trap but for one that was never set
abbrev pub IsPlain : Op → Type 0
IsPlain (op.Add w a b) = Unit {0}
IsPlain (op.Sub w a b) = Unit {0}
IsPlain (op.Mul w a b) = Unit {0}
IsPlain (op.Shift s w a b) = Unit {0}
IsPlain (op.Bits o w a b) = Unit {0}
IsPlain (op.Compare c w a b) = Unit {0}
IsPlain (op.Trunc from to v) = Unit {0}
IsPlain (op.Zext from to v) = Unit {0}
IsPlain (op.Sext from to v) = Unit {0}
IsPlain (op.PtrToInt from to v) = Unit {0}
IsPlain (op.IntToPtr from to v) = Unit {0}
IsPlain (op.Select c a b) = Unit {0}
IsPlain (op.Gep base indices) = Unit {0}
IsPlain _ = ⊥

-- known functions that take one number and name no object
abbrev pub TakesNumber : LibraryCall → Type 0
TakesNumber known.PgIn = Unit {0}
TakesNumber known.PgOut = Unit {0}
TakesNumber known.PgPrint = Unit {0}
TakesNumber known.Putchar = Unit {0}
TakesNumber known.Malloc = Unit {0}
TakesNumber known.Free = Unit {0}
TakesNumber known.PthreadExit = Unit {0}
TakesNumber _ = ⊥

-- known functions that name one object, and take nothing else
abbrev pub NamesObject : LibraryCall → Type 0
NamesObject known.PthreadMutexLock = Unit {0}
NamesObject known.PthreadMutexTrylock = Unit {0}
NamesObject known.PthreadMutexUnlock = Unit {0}
NamesObject known.PthreadMutexDestroy = Unit {0}
NamesObject known.PthreadCondSignal = Unit {0}
NamesObject known.PthreadCondBroadcast = Unit {0}
NamesObject known.PthreadCondDestroy = Unit {0}
NamesObject known.PthreadBarrierWait = Unit {0}
NamesObject known.PthreadBarrierDestroy = Unit {0}
NamesObject _ = ⊥

-- what a call that names one object asks of it
abbrev pub object_request : Bool → LibraryCall → ℕ → Request
object_request halfway known.PthreadMutexInit o = requests.MutexInit o
object_request halfway known.PthreadMutexLock o = requests.Lock o
object_request halfway known.PthreadMutexTrylock o = requests.Trylock o
object_request halfway known.PthreadMutexUnlock o = requests.Unlock o
object_request halfway known.PthreadMutexDestroy o = requests.MutexDestroy o
object_request halfway known.PthreadCondInit o = requests.CondInit o
object_request halfway known.PthreadCondSignal o = requests.Signal o
object_request halfway known.PthreadCondBroadcast o = requests.Broadcast o
object_request halfway known.PthreadCondDestroy o = requests.CondDestroy o
object_request halfway known.PthreadBarrierDestroy o = requests.BarrierDestroy o
object_request halfway k o = if halfway then requests.Leave o else requests.Arrive o

-- ---- edges

-- whether each of them is a value
abbrev pub are_given : List (Option ℕ) → Bool
are_given [] = true
are_given (v ∷ vs) = is_set v && are_given vs

abbrev pub IsBranch : Op → Type 0
IsBranch (op.Br to) = Unit {0}
IsBranch (op.CondBr c a b) = Unit {0}
IsBranch (op.Switch w on other cases) = Unit {0}
IsBranch _ = ⊥

abbrev pub IsNoBranch : Op → Type 0
IsNoBranch (op.Br to) = ⊥
IsNoBranch (op.CondBr c a b) = ⊥
IsNoBranch (op.Switch w on other cases) = ⊥
IsNoBranch _ = Unit {0}

-- the block to which a branch goes on, by the number of its condition
abbrev pub block_taken : ℕ → Op → ℕ
block_taken n (op.Br to) = to.0
block_taken n (op.CondBr c a b) = chosen n a.0 b.0
block_taken n (op.Switch w on other cases) = case_of cases other.0 n
block_taken n _ = 0

-- an instruction of a block of the program, which tells its targets where it ends it
pub record EndsBlock (p : NumberedProgram) (x : Instr) : Type 0 where
  pub block : x.block.0 < length p.blocks
  pub targets : is_terminator x.op ≡ true → successors p x.block.0 ≡ targets_of x.op
  pub cases : is_terminator x.op ≡ true → block_cases p x.block.0 ≡ cases_of x.op

-- ---- the state

-- the present instruction of a thread that has begun
pub record IsPresent (p : NumberedProgram) (l : LocalState) (x : Instr) : Type 0 where
  pub going : 0 < length l.frames
  pub place : place_in l.frames < INSTRUCTION_LIMIT
  pub target : IfSome x.result (λ r. r < length (top_registers l.frames))
  pub operands : CanReadAll p (length (top_registers l.frames)) x.op
  pub edges : CanGoOn p (length (top_registers l.frames)) x.op
  pub widths : OperandsFit p (top_registers l.frames) x.op
  pub thread : l.thread < THREAD_LIMIT
  pub memory : top_height l.frames + l.heap ≤ THREAD_GRANULES
  pub ends : EndsBlock p x

-- a new frame has room
pub record CanCall (p : NumberedProgram) (l : LocalState) (g : ℕ) (vs : List Value) : Type 0 where
  pub function : g < length p.functions
  pub depth : length l.frames < CALL_DEPTH_LIMIT
  pub room : total l.frames + length (types_of p g) ≤ THREAD_REGISTER_LIMIT
  pub args : length vs ≤ length (types_of p g)
  pub few : length vs ≤ FUNCTION_REGISTER_LIMIT

abbrev pub ResultFits : List (Option ℕ) → Option Instr → Type 0
ResultFits rs None = ⊥
ResultFits rs (Some x) = IfSome x.result (λ r. r < length rs)

-- the caller waits at an instruction of the program, whose register is one of its frame
abbrev pub CallerFits : NumberedProgram → List Frame → Type 0
CallerFits p [] = Unit {0}
CallerFits p (f ∷ fs) = ResultFits f.registers (slice_get p.instrs f.place)

-- the operation can be done: it has the room that it takes, and a place to go back to
abbrev pub CanDo : NumberedProgram → LocalState → Op → Type 0
CanDo p l (op.Call g args) = CanCall p l g args
CanDo p l (op.Ret v) = CallerFits p (under_top l.frames)
CanDo p l (op.Alloca bytes) = IsTrue (has_room (own_memory l) (granules_for bytes))
CanDo p l op.Unreachable = ⊥
CanDo p l _ = Unit {0}

-- each phi of the block that is entered has a value
abbrev pub CanTake : NumberedProgram → LocalState → ℕ → Op → Type 0
CanTake p l block (op.Br to) = have_values p (top_registers l.frames) block (phis_of p to.0) ≡ true
CanTake p l block (op.CondBr c a b) = have_values p (top_registers l.frames) block (phis_of p (chosen (given (operand p (top_registers l.frames) c)) a.0 b.0)) ≡ true
CanTake p l block (op.Switch w on other cases) = have_values p (top_registers l.frames) block (phis_of p (case_of cases other.0 (given (operand p (top_registers l.frames) on)))) ≡ true
CanTake p l block _ = Unit {0}

-- operations whose number doesn't depend on the thread's memory
abbrev pub NeedsNoMemory : Op → Type 0
NeedsNoMemory (op.Alloca bytes) = ⊥
NeedsNoMemory (op.CallLibrary k args) = ⊥
NeedsNoMemory _ = Unit {0}

-- operations that set their register and go on to the next instruction, and do nothing else
abbrev pub IsStraight : Op → Type 0
IsStraight (op.Br to) = ⊥
IsStraight (op.CondBr c a b) = ⊥
IsStraight (op.Switch w on other cases) = ⊥
IsStraight (op.Call g args) = ⊥
IsStraight (op.Ret v) = ⊥
IsStraight (op.Alloca bytes) = ⊥
IsStraight (op.CallLibrary k args) = ⊥
IsStraight _ = Unit {0}
