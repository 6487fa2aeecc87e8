-- A thread by itself: its next action, and its state after the step, as a table over instructions
-- (LLVM Language Reference, "Instruction Reference"; POSIX.1-2017).
use Rattle.std.specs.Prelude.{ℕ, ◌+◌, ◌-◌, ◌%◌, ◌==◌, List, [], ◌∷◌, ◌++◌, length, map, replicate, Bool, true, false, not, ◌&&◌, nat_le, Option, Some, None}
use Rattle.std.specs.Prelude.{Result, Ok, Err, slice_get, slice_set, if◌then◌else◌}
use Rattle.pg_ir.specs.pg_num.Numbers.{signed, modulus, divided}
use Rattle.pg_ir.specs.pg_num.Places.{ByteRange}
use Rattle.pg_ir.specs.pg_num.Pointers as pointers
use Rattle.pg_ir.specs.pg_num.declared.layout.TheConstants.{THREAD_GRANULES}
use Rattle.pg_ir.specs.pg_num.declared.limits.TheConstants.{CALL_DEPTH_LIMIT, THREAD_REGISTER_LIMIT}
use Rattle.pg_ir.specs.pg_num.declared.operations.DivideFault.{DivideFault}
use Rattle.pg_ir.specs.pg_num.declared.operations.DivideFault.TheVariants as divide
use Rattle.pg_ir.specs.pg_num.declared.places.PlaceFault.{PlaceFault}
use Rattle.pg_ir.specs.pg_num.declared.places.PlaceFault.TheVariants as fault
pub use Rattle.pg_ir.specs.pg_num.Numbers.{bytes_of}
use Rattle.pg_ir.specs.pg_num.declared.width.Width.TheVariants.{W64}
use Rattle.pg_ir.specs.declared.value.Value.{Value}
use Rattle.pg_ir.specs.declared.value.Scalar.{Scalar}
use Rattle.pg_ir.specs.declared.library_call.LibraryCall.{LibraryCall}
use Rattle.pg_ir.specs.declared.library_call.LibraryCall.TheVariants as known
use Rattle.pg_ir.specs.declared.instr.Op.{Op}
use Rattle.pg_ir.specs.declared.instr.Op.TheVariants as op
use Rattle.pg_ir.specs.declared.instr.Instr.{Instr}
use Rattle.pg_ir.specs.declared.request.Request.{Request}
use Rattle.pg_ir.specs.declared.request.Request.TheVariants as requests
use Rattle.pg_ir.specs.declared.request.TrapName.TheVariants as traps
use Rattle.pg_ir.specs.Program.{NumberedProgram, types_of, entry_of, parameter_count}
use Rattle.pg_ir.specs.Edges.{phis_of, body_of}
use Rattle.pg_ir.specs.Signatures.{returned_by}
use Rattle.pg_ir.specs.WellFormed.{width_of, granules_for}
use Rattle.pg_run_thread.specs.declared.action.Action.{Action}
use Rattle.pg_run_thread.specs.declared.action.Action.TheVariants as actions
use Rattle.pg_run_thread.specs.declared.thread_memory.ThreadMemory.{ThreadMemory}
use Rattle.pg_run_thread.specs.LocalState.{Frame, LocalState, own_memory, memory_start}
use Rattle.pg_run_thread.specs.Operands.{operand, argument, given, number_at, operands_of}
use Rattle.pg_run_thread.specs.Compute.{computed, chosen}
use Rattle.pg_run_thread.specs.EdgeStep.{have_values, is_set, over_edge, set_register, case_of}

-- ---- the next action: operands are read left to right, and one that was never set traps

abbrev pub on_value : Option ℕ → (ℕ → Action) → Action
on_value None act = actions.Trap traps.Unset
on_value (Some n) act = act n

abbrev pub are_set : NumberedProgram → List (Option ℕ) → List Value → Bool
are_set p rs [] = true
are_set p rs (v ∷ vs) = is_set (operand p rs v) && are_set p rs vs

abbrev pub on_all : NumberedProgram → List (Option ℕ) → List Value → Action → Action
on_all p rs vs act = if are_set p rs vs then act else actions.Trap traps.Unset

-- ---- memory

abbrev pub placed : Result ByteRange PlaceFault → (ByteRange → Action) → Action
placed (Ok r) act = act r
placed (Err fault.OutOfRange) act = actions.Trap traps.OutOfRange
placed (Err fault.Misaligned) act = actions.Trap traps.Misaligned

-- an access of so many bytes by a pointer
abbrev pub on_place : ℕ → ℕ → (ByteRange → Action) → Action
on_place word bytes act = placed (pointers.place_of word bytes) act

-- a mutex, condition variable or barrier is named by the byte place of its pointer
abbrev pub on_object : ℕ → (ℕ → Action) → Action
on_object word act = on_place word 8 (λ r. act r.start)

-- only null attributes are known
abbrev pub on_null : ℕ → Action → Action
on_null attribute act = if attribute == 0 then act else actions.Trap traps.BadAttribute

-- stack and heap together have room for so many granules more
abbrev pub has_room : ThreadMemory → ℕ → Bool
has_room r granules = nat_le (r.stack + granules + r.heap) THREAD_GRANULES

-- ---- calls of known functions

-- a call that names one object
abbrev pub object_action : NumberedProgram → List (Option ℕ) → List Value → (ℕ → Request) → Action
object_action p rs args request = on_value (argument p rs args 0) (λ w. on_object w (λ o. actions.Event (request o)))

-- a call that names one object and its attributes
abbrev pub init_action : NumberedProgram → List (Option ℕ) → List Value → (ℕ → Request) → Action
init_action p rs args request =
    on_value (argument p rs args 0) (λ w. on_value (argument p rs args 1) (λ a. on_object w (λ o. on_null a (actions.Event (request o)))))

abbrev pub barrier_init_action : NumberedProgram → List (Option ℕ) → List Value → Action
barrier_init_action p rs args =
    on_value (argument p rs args 0) (λ w. on_value (argument p rs args 1) (λ a. on_value (argument p rs args 2) (λ n. on_object w (λ o. on_null a (actions.Event (requests.BarrierInit o n))))))

abbrev pub create_action : NumberedProgram → List (Option ℕ) → List Value → Action
create_action p rs args =
    on_value (argument p rs args 0) (λ w. on_value (argument p rs args 1)
    (λ a. on_value (argument p rs args 2) (λ f. on_value (argument p rs args 3) (λ n. on_place w 8 (λ r. on_null a (actions.Event (requests.Create r f n)))))))

-- the value of the joined thread is written unless the pointer is null
abbrev pub join_at : ℕ → ℕ → Action
join_at target w = if w == 0 then actions.Event (requests.Join target None) else on_place w 8 (λ r. actions.Event (requests.Join target (Some r)))

abbrev pub join_action : NumberedProgram → List (Option ℕ) → List Value → Action
join_action p rs args = on_value (argument p rs args 0) (λ t. on_value (argument p rs args 1) (λ w. join_at t w))

-- `pthread_exit` in main ends main with 0
abbrev pub exit_value : ℕ → ℕ → ℕ
exit_value t n = if t == 0 then 0 else n

-- a wait on a condition is two steps: the mutex is given back, and taken again
abbrev pub wait_request : Bool → ℕ → ℕ → Request
wait_request halfway c m = if halfway then requests.Wake c m else requests.Wait c m

abbrev pub wait_action : NumberedProgram → Bool → List (Option ℕ) → List Value → Action
wait_action p halfway rs args =
    on_value (argument p rs args 0) (λ c. on_value (argument p rs args 1) (λ m. on_object c (λ x. on_object m (λ y. actions.Event (wait_request halfway x y)))))

-- a barrier's wait is two steps: arrive, and leave
abbrev pub barrier_request : Bool → ℕ → Request
barrier_request halfway o = if halfway then requests.Leave o else requests.Arrive o

abbrev pub library_action : NumberedProgram → ℕ → Bool → List (Option ℕ) → LibraryCall → List Value → Action
library_action p t halfway rs known.PgIn args = on_value (argument p rs args 0) (λ n. actions.In (signed W64 n))
library_action p t halfway rs known.PgInLen args = actions.InLen
library_action p t halfway rs known.PgOut args = on_value (argument p rs args 0) (λ n. actions.Event (requests.Out n true))
library_action p t halfway rs known.PgPrint args = on_value (argument p rs args 0) (λ n. actions.Event (requests.Out n false))
library_action p t halfway rs known.Putchar args = on_value (argument p rs args 0) (λ n. actions.Event (requests.Putchar n))
library_action p t halfway rs known.Malloc args = on_value (argument p rs args 0) (λ n. actions.Local)
library_action p t halfway rs known.Free args = on_value (argument p rs args 0) (λ n. actions.Local)
library_action p t halfway rs known.PthreadCreate args = create_action p rs args
library_action p t halfway rs known.PthreadJoin args = join_action p rs args
library_action p t halfway rs known.PthreadExit args = on_value (argument p rs args 0) (λ n. actions.Event (requests.Exit (exit_value t n) false))
library_action p t halfway rs known.PthreadMutexInit args = init_action p rs args (λ o. requests.MutexInit o)
library_action p t halfway rs known.PthreadMutexLock args = object_action p rs args (λ o. requests.Lock o)
library_action p t halfway rs known.PthreadMutexTrylock args = object_action p rs args (λ o. requests.Trylock o)
library_action p t halfway rs known.PthreadMutexUnlock args = object_action p rs args (λ o. requests.Unlock o)
library_action p t halfway rs known.PthreadMutexDestroy args = object_action p rs args (λ o. requests.MutexDestroy o)
library_action p t halfway rs known.PthreadCondInit args = init_action p rs args (λ o. requests.CondInit o)
library_action p t halfway rs known.PthreadCondWait args = wait_action p halfway rs args
library_action p t halfway rs known.PthreadCondSignal args = object_action p rs args (λ o. requests.Signal o)
library_action p t halfway rs known.PthreadCondBroadcast args = object_action p rs args (λ o. requests.Broadcast o)
library_action p t halfway rs known.PthreadCondDestroy args = object_action p rs args (λ o. requests.CondDestroy o)
library_action p t halfway rs known.PthreadBarrierInit args = barrier_init_action p rs args
library_action p t halfway rs known.PthreadBarrierWait args = object_action p rs args (λ o. barrier_request halfway o)
library_action p t halfway rs known.PthreadBarrierDestroy args = object_action p rs args (λ o. requests.BarrierDestroy o)

-- ---- the other instructions

-- the phis of the target are read at the branch
unfoldable pub edge_action : NumberedProgram → List (Option ℕ) → ℕ → ℕ → Action
edge_action p rs from to = if have_values p rs from (phis_of p to) then actions.Local else actions.Trap traps.Unset

abbrev pub total : List Frame → ℕ
total [] = 0
total (f ∷ fs) = length f.registers + total fs

-- a call of g where there are this many frames, with this many registers together
unfoldable pub call_action : NumberedProgram → ℕ → ℕ → ℕ → Action
call_action p g depth used =
    if nat_le CALL_DEPTH_LIMIT depth then actions.Trap traps.CallDepth
    else if nat_le (used + length (types_of p g)) THREAD_REGISTER_LIMIT then actions.Local
    else actions.Trap traps.Registers

-- in the first frame a return is the exit
abbrev pub return_action : ℕ → ℕ → Action
return_action depth n = if depth == 1 then actions.Event (requests.Exit n true) else actions.Local

abbrev pub returning_action : NumberedProgram → List (Option ℕ) → ℕ → Option Value → Action
returning_action p rs depth None = return_action depth 0
returning_action p rs depth (Some v) = on_value (operand p rs v) (λ n. return_action depth n)

abbrev pub divided_action : Result ℕ DivideFault → Action
divided_action (Ok n) = actions.Local
divided_action (Err divide.Zero) = actions.Trap traps.DivideByZero
divided_action (Err divide.Overflow) = actions.Trap traps.DivideOverflow

-- the action of an operation that stands in a block: by the thread's number and memory, the present
-- frame's registers, and how many frames there are, with how many registers together
abbrev pub op_action : NumberedProgram → ThreadMemory → Bool → List (Option ℕ) → ℕ → ℕ → ℕ → Op → Action
op_action p r halfway rs depth used block (op.Divide d w a b) = on_value (operand p rs a) (λ m. on_value (operand p rs b) (λ n. divided_action (divided d w m n)))
op_action p r halfway rs depth used block (op.Phi from) = actions.Ended
op_action p r halfway rs depth used block (op.Br to) = edge_action p rs block to.0
op_action p r halfway rs depth used block (op.CondBr c a b) = on_value (operand p rs c) (λ n. edge_action p rs block (chosen n a.0 b.0))
op_action p r halfway rs depth used block (op.Switch w on other cases) = on_value (operand p rs on) (λ n. edge_action p rs block (case_of cases other.0 n))
op_action p r halfway rs depth used block (op.Call g args) = on_all p rs args (call_action p g depth used)
op_action p r halfway rs depth used block (op.Ret v) = returning_action p rs depth v
op_action p r halfway rs depth used block op.Unreachable = actions.Trap traps.Unreachable
op_action p r halfway rs depth used block (op.Alloca bytes) = if has_room r (granules_for bytes) then actions.Local else actions.Trap traps.StackFull
op_action p r halfway rs depth used block (op.Load w from) = on_value (operand p rs from) (λ a. on_place a (bytes_of w) (λ q. actions.Load q))
op_action p r halfway rs depth used block (op.Store w v at) = on_value (operand p rs v) (λ n. on_value (operand p rs at) (λ a. on_place a (bytes_of w) (λ q. actions.Store q n)))
op_action p r halfway rs depth used block (op.CallLibrary k args) = library_action p r.thread halfway rs k args
op_action p r halfway rs depth used block o = on_all p rs (operands_of o) actions.Local

abbrev pub instr_action : NumberedProgram → LocalState → Frame → List Frame → Option Instr → Action
instr_action p l f fs None = actions.Ended
instr_action p l f fs (Some x) = op_action p (own_memory l) l.halfway f.registers (length (f ∷ fs)) (total (f ∷ fs)) x.block.0 x.op

-- a thread's first step is its start
abbrev pub frames_action : NumberedProgram → LocalState → Bool → List Frame → Action
frames_action p l begun [] = actions.Ended
frames_action p l false (f ∷ fs) = actions.Event requests.Start
frames_action p l true (f ∷ fs) = instr_action p l f fs (slice_get p.instrs f.place)

unfoldable pub next : NumberedProgram → LocalState → Action
next p l = frames_action p l l.begun l.frames

-- a number, where the action is a step by itself
abbrev pub if_local : Action → ℕ → Option ℕ
if_local actions.Local n = Some n
if_local _ n = None

-- ---- the number that an instruction gives its register

-- the pointer to a new range of the stack
abbrev pub pushed : ThreadMemory → ℕ → ℕ
pushed r bytes = pointers.word_of (record { start = memory_start r.thread + r.stack; length = bytes; offset = 0 })

-- the pointer to a new range of the heap, or null where there is no room
abbrev pub allocated : ThreadMemory → ℕ → ℕ
allocated r bytes =
    if has_room r (granules_for bytes)
    then pointers.word_of (record { start = memory_start r.thread + (THREAD_GRANULES - r.heap - granules_for bytes); length = bytes; offset = 0 })
    else 0

-- an answer cut to the width of what a call returns
abbrev pub cut_to : Option Scalar → ℕ → ℕ
cut_to None n = n
cut_to (Some s) n = n % modulus (width_of s)

abbrev pub library_number : ThreadMemory → LibraryCall → ℕ → ℕ → ℕ
library_number r known.Malloc n answer = allocated r n
library_number r k n answer = cut_to (returned_by k) answer

-- the result, by the number of each operand and the answer
abbrev pub result_of_op : ThreadMemory → Op → (ℕ → ℕ) → ℕ → ℕ
result_of_op r (op.Alloca bytes) n answer = pushed r bytes
result_of_op r (op.Load w from) n answer = answer % modulus w
result_of_op r (op.CallLibrary k args) n answer = library_number r k (n 0) answer
result_of_op r o n answer = computed o n

abbrev pub result_number : NumberedProgram → ThreadMemory → List (Option ℕ) → Op → ℕ → ℕ
result_number p r rs o answer = result_of_op r o (number_at p rs (operands_of o)) answer

-- ---- the state after the step, with the answer of memory, of the input or of the event

abbrev pub on_top : (Frame → Frame) → List Frame → List Frame
on_top g [] = []
on_top g (f ∷ fs) = g f ∷ fs

abbrev pub under_top : List Frame → List Frame
under_top [] = []
under_top (f ∷ fs) = fs

abbrev pub top_registers : List Frame → List (Option ℕ)
top_registers [] = []
top_registers (f ∷ fs) = f.registers

abbrev pub top_function : List Frame → ℕ
top_function [] = 0
top_function (f ∷ fs) = f.function

-- the register is set, and the next instruction is the present one
abbrev pub stepped : Frame → Option ℕ → ℕ → Frame
stepped f target n = record f { place = f.place + 1; registers = set_register f.registers target (Some n) }

abbrev pub moved : NumberedProgram → Frame → ℕ → ℕ → Frame
moved p f from to = record f { place = body_of p to; registers = over_edge p f.registers from to }

-- a new frame of g, whose parameters have these values
unfoldable pub entered : NumberedProgram → ℕ → ℕ → List (Option ℕ) → Frame
entered p g height values =
    record { function = g; place = entry_of p g; registers = values ++ replicate (length (types_of p g) - length values) None; height = height }

abbrev pub target_in : Option Instr → Option ℕ
target_in None = None
target_in (Some x) = x.result

-- the caller's register is set, and the caller goes on
abbrev pub returned : NumberedProgram → List Frame → ℕ → List Frame
returned p [] n = []
returned p (f ∷ fs) n = stepped f (target_in (slice_get p.instrs f.place)) n ∷ fs

abbrev pub top_height_of : List Frame → ℕ
top_height_of [] = 0
top_height_of (f ∷ fs) = f.height

abbrev pub taken : Frame → ℕ → Frame
taken f granules = record f { height = f.height + granules }

-- the first half of a wait leaves the thread at its instruction
abbrev pub library_after : Bool → LibraryCall → List Frame → List Frame → List Frame
library_after halfway known.PthreadExit fs next_fs = []
library_after halfway known.PthreadCondWait fs next_fs = if halfway then next_fs else fs
library_after halfway known.PthreadBarrierWait fs next_fs = if halfway then next_fs else fs
library_after halfway k fs next_fs = next_fs

abbrev pub op_after : NumberedProgram → LocalState → Instr → ℕ → Op → List Frame
op_after p l x answer (op.Br to) = on_top (λ f. moved p f x.block.0 to.0) l.frames
op_after p l x answer (op.CondBr c a b) = on_top (λ f. moved p f x.block.0 (chosen (given (operand p (top_registers l.frames) c)) a.0 b.0)) l.frames
op_after p l x answer (op.Switch w on other cases) = on_top (λ f. moved p f x.block.0 (case_of cases other.0 (given (operand p (top_registers l.frames) on)))) l.frames
op_after p l x answer (op.Call g args) = entered p g (top_height_of l.frames) (map (operand p (top_registers l.frames)) args) ∷ l.frames
op_after p l x answer (op.Ret v) = returned p (under_top l.frames) (number_at p (top_registers l.frames) (operands_of (op.Ret v)) 0)
op_after p l x answer (op.Alloca bytes) = on_top (λ f. taken (stepped f x.result (pushed (own_memory l) bytes)) (granules_for bytes)) l.frames
op_after p l x answer (op.CallLibrary k args) = library_after l.halfway k l.frames
    (on_top (λ f. stepped f x.result (result_number p (own_memory l) (top_registers l.frames) (op.CallLibrary k args) answer)) l.frames)
op_after p l x answer o = on_top (λ f. stepped f x.result (result_number p (own_memory l) (top_registers l.frames) o answer)) l.frames

abbrev pub library_halfway : Bool → LibraryCall → Bool
library_halfway halfway known.PthreadCondWait = not halfway
library_halfway halfway known.PthreadBarrierWait = not halfway
library_halfway halfway k = false

abbrev pub halfway_after : Bool → Op → Bool
halfway_after halfway (op.CallLibrary k args) = library_halfway halfway k
halfway_after halfway o = false

-- the granules of the heap after an allocation
abbrev pub heap_with : ThreadMemory → ℕ → ℕ
heap_with r bytes = if has_room r (granules_for bytes) then r.heap + granules_for bytes else r.heap

abbrev pub library_heap : ThreadMemory → LibraryCall → ℕ → ℕ
library_heap r known.Malloc n = heap_with r n
library_heap r k n = r.heap

abbrev pub heap_after : NumberedProgram → ThreadMemory → List (Option ℕ) → Op → ℕ
heap_after p r rs (op.CallLibrary k args) = library_heap r k (number_at p rs args 0)
heap_after p r rs o = r.heap

abbrev pub instr_after : NumberedProgram → LocalState → ℕ → Option Instr → LocalState
instr_after p l answer None = l
instr_after p l answer (Some x) = record l {
  halfway = halfway_after l.halfway x.op;
  frames = op_after p l x answer x.op;
  heap = heap_after p (own_memory l) (top_registers l.frames) x.op;
}

-- a start gives the function's parameter, if it has one, its argument
abbrev pub begun_registers : ℕ → List (Option ℕ) → ℕ → List (Option ℕ)
begun_registers parameters registers answer = if parameters == 0 then registers else slice_set registers 0 (Some answer)

abbrev pub begun_frame : NumberedProgram → ℕ → Frame → Frame
begun_frame p answer f = record f { registers = begun_registers (parameter_count p f.function) f.registers answer }

abbrev pub frames_after : NumberedProgram → LocalState → Bool → List Frame → ℕ → LocalState
frames_after p l begun [] answer = l
frames_after p l false (f ∷ fs) answer = record l { begun = true; frames = begun_frame p answer f ∷ fs }
frames_after p l true (f ∷ fs) answer = instr_after p l answer (slice_get p.instrs f.place)

unfoldable pub after : NumberedProgram → LocalState → ℕ → LocalState
after p l answer = frames_after p l l.begun l.frames answer
