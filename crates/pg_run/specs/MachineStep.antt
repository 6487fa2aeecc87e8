-- One step of the machine: one instruction of one thread.
use Rattle.std.specs.Prelude.{◌≡◌, ℕ, ◌==◌, ◌&&◌, not, ℤ, List, [], ◌∷◌, ◌++◌, length, Bool, true, false, Option, Some, None, Result, Ok, Err, slice_get}
use Rattle.std.specs.Prelude.{slice_set, slice_index, if◌then◌else◌}
use Rattle.std.specs.List.{list_any}
use Rattle.pg_run_trace.specs.pg_num.Places.{ByteRange}
use Rattle.pg_run_trace.specs.pg_ir.declared.ids.InstrId.{InstrId}
use Rattle.pg_run_trace.specs.pg_ir.declared.library_call.LibraryCall.{LibraryCall}
use Rattle.pg_run_trace.specs.pg_ir.declared.library_call.LibraryCall.TheVariants as known
use Rattle.pg_run_trace.specs.pg_ir.declared.instr.Op.{Op}
use Rattle.pg_run_trace.specs.pg_ir.declared.instr.Op.TheVariants as op
use Rattle.pg_run_trace.specs.pg_ir.declared.instr.Instr.{Instr}
use Rattle.pg_run_trace.specs.pg_ir.declared.request.Request.{Request}
use Rattle.pg_run_trace.specs.pg_ir.declared.request.Request.TheVariants as requests
use Rattle.pg_run_trace.specs.pg_ir.declared.request.TrapName.{TrapName}
use Rattle.pg_run_trace.specs.pg_ir.Program.{NumberedProgram}
use Rattle.pg_run_memory.specs.Memory as memory
use Rattle.pg_run_objects.specs.declared.reply.Reply.{Reply}
use Rattle.pg_run_objects.specs.Sync as sync
use Rattle.pg_run_thread.specs.declared.action.Action.{Action}
use Rattle.pg_run_thread.specs.declared.action.Action.TheVariants as actions
use Rattle.pg_run_thread.specs.LocalState.{LocalState, fresh}
use Rattle.pg_run_thread.specs.Step.{after}
use Rattle.pg_run_thread.specs.Told.{number_given, operand_values, no_operands}
use Rattle.pg_run_trace.specs.declared.turn.TurnKind.{TurnKind}
use Rattle.pg_run_trace.specs.declared.turn.TurnKind.TheVariants as kinds
use Rattle.pg_run_trace.specs.declared.turn.Turn.{Turn}
use Rattle.pg_run_trace.specs.declared.step.Step.{Step}
use Rattle.pg_run_trace.specs.declared.step.StepKind.{StepKind}
use Rattle.pg_run_trace.specs.declared.step.StepKind.TheVariants as told
use Rattle.pg_run_trace.specs.declared.step.Write.{Write}
use Rattle.pg_run_trace.specs.declared.step.Happening.{Happening}
use Rattle.pg_run_trace.specs.Kinds.{kind_of, object_of}
use Rattle.pg_run_trace.specs.Recording.{happening_of as request_happening}
use Rattle.pg_run.specs.State.{State, next_of, instr_of}
use Rattle.pg_run.specs.Texts.{printed_by}
use Rattle.pg_run_trace.specs.pg_num.Inputs.{input_at}

-- ---- readiness

-- a thread whose next action traps is ready
abbrev pub may_act : State → ℕ → Action → Bool
may_act s t actions.Ended = false
may_act s t (actions.Event r) = sync.ready s.sync t r
may_act s t action = true

-- while the run isn't over, thread t is made, hasn't ended, and its next action is ready
unfoldable pub ready : NumberedProgram → State → ℕ → Bool
ready p s t = not (sync.over s.sync) && may_act s t (next_of p s t)

-- an action is the next of a thread that is ready
abbrev pub MayTake : NumberedProgram → State → ℕ → Action → Type 0
MayTake p s t action = (action ≡ next_of p s t) × (ready p s t ≡ true)

-- a thread that isn't made or has ended has no action left
abbrev pub is_ended : Action → Bool
is_ended actions.Ended = true
is_ended action = false

-- the trap of the next action, if it traps: the thread's own, or that of a check on the objects
abbrev pub trap_of : State → ℕ → Action → Option TrapName
trap_of s t (actions.Trap name) = Some name
trap_of s t (actions.Event r) = sync.check s.sync t r
trap_of s t action = None

-- ---- events

abbrev pub is_gated : List InstrId → ℕ → Bool
is_gated gated i = list_any (λ (g : InstrId). g.0 == i) gated

abbrev pub happening_if : Bool → TurnKind → ℕ → Option Happening
happening_if true kind object = Some (record { kind = kind; object = object })
happening_if false kind object = None

-- the event that an action is, if it is one: what is asked of other threads, and gated accesses
abbrev pub happening_of : List InstrId → State → ℕ → Action → Option Happening
happening_of gated s t (actions.Event r) = Some (request_happening t (length s.sync.threads) r)
happening_of gated s t (actions.Load r) = happening_if (is_gated gated (instr_of s t)) kinds.Load r.start
happening_of gated s t (actions.Store r n) = happening_if (is_gated gated (instr_of s t)) kinds.Store r.start
happening_of gated s t action = None

abbrev pub turn_with : State → ℕ → Option Happening → Option Turn
turn_with s t None = None
turn_with s t (Some h) = Some (record { thread = record { 0 = t }; instr = record { 0 = instr_of s t }; kind = h.kind; object = h.object })

-- the turn that the next step of thread t is, if it is an event
unfoldable pub turn_of : List InstrId → NumberedProgram → State → ℕ → Option Turn
turn_of gated p s t = turn_with s t (happening_of gated s t (next_of p s t))

-- ---- what an action leaves, and its answer

abbrev pub written_if : Option ByteRange → ℕ → memory.Words → memory.Words
written_if None n m = m
written_if (Some r) n m = memory.written m r n

-- main's value is that of its exit
abbrev pub value_with : ℕ → ℕ → ℕ → ℕ
value_with t n old = if t == 0 then n else old

-- what a request of thread t leaves beside the objects
abbrev pub requested : NumberedProgram → State → ℕ → Request → State
requested p s t (requests.Exit n is_return) = record s { words = slice_set s.words t n; value = value_with t n s.value }
requested p s t (requests.Create r f n) = record s {
  locals = s.locals ++ fresh p (length s.locals) f ∷ [];
  memory = memory.written s.memory r (length s.locals);
  words = s.words ++ n ∷ [];
}
requested p s t (requests.Join n r) = record s { memory = written_if r (slice_index s.words n) s.memory }
requested p s t r = record s { printed = s.printed ++ printed_by r }

-- a start is answered by the thread's argument
abbrev pub answer_of : State → ℕ → Reply → Request → ℕ
answer_of s t reply requests.Start = slice_index s.words t
answer_of s t reply r = reply.value

abbrev pub Answered : Type 0
Answered = State × Result ℕ TrapName

abbrev pub on_applied : NumberedProgram → State → ℕ → Request → sync.Sync × Result Reply TrapName → Answered
on_applied p s t r (y, Err name) = (record s { sync = y }, Err name)
on_applied p s t r (y, Ok reply) = (requested p (record s { sync = y }) t r, Ok (answer_of s t reply r))

-- the state but for the thread's own, and the answer to its action, or a trap
unfoldable pub answered : NumberedProgram → List ℤ → State → ℕ → Action → Answered
answered p input s t (actions.In i) = (s, Ok (input_at input i))
answered p input s t actions.InLen = (s, Ok (length input))
answered p input s t (actions.Load r) = (s, Ok (memory.read s.memory r))
answered p input s t (actions.Store r n) = (record s { memory = memory.written s.memory r n }, Ok 0)
answered p input s t (actions.Event r) = on_applied p s t r (sync.applied s.sync t r)
answered p input s t (actions.Trap name) = (s, Err name)
answered p input s t action = (s, Ok 0)

-- ---- the thread's own part

abbrev pub local_after : NumberedProgram → List LocalState → ℕ → ℕ → Option LocalState → List LocalState
local_after p ls t answer None = ls
local_after p ls t answer (Some l) = slice_set ls t (after p l answer)

abbrev pub operands_in : NumberedProgram → Option LocalState → List ℕ
operands_in p None = no_operands
operands_in p (Some l) = operand_values p l

abbrev pub number_in : NumberedProgram → Option LocalState → ℕ → ℕ
number_in p None answer = 0
number_in p (Some l) answer = number_given p l answer

-- ---- what the trace tells of a step, by the numbers of its operands, the answer to its action, and the number
-- that its instruction's own register gets

-- an access through the pointer that is this word
abbrev pub access_told : List InstrId → State → ℕ → ℕ → ByteRange → Bool → ℕ → StepKind
access_told gated s t pointer r writes number = told.Access (record { pointer = pointer; number = number; bytes = r.bytes; writes = writes; event = is_gated gated (instr_of s t) })

-- the write of a create through its first operand, and of a join with a place through its second
abbrev pub write_told : State → List ℕ → Request → Option Write
write_told s ns (requests.Create r f n) = Some (record { pointer = slice_index ns 0; number = length s.locals })
write_told s ns (requests.Join n (Some r)) = Some (record { pointer = slice_index ns 1; number = slice_index s.words n })
write_told s ns r = None

abbrev pub event_told : State → ℕ → List ℕ → ℕ → Request → StepKind
event_told s t ns number r = told.Event (record { kind = kind_of r; object = object_of t (length s.sync.threads) r; operands = ns; reply = number; write = write_told s ns r })

abbrev pub library_told : List ℕ → ℕ → LibraryCall → StepKind
library_told ns number known.Malloc = told.Allocation (slice_index ns 0) number
library_told ns number k = told.Other

-- of the steps that only the thread's own state decides: a branch by its condition, and an allocation
abbrev pub op_told : List ℕ → ℕ → Op → StepKind
op_told ns number (op.CondBr c a b) = told.Branch (slice_index ns 0)
op_told ns number (op.Switch w on other cases) = told.Branch (slice_index ns 0)
op_told ns number (op.Alloca bytes) = told.Allocation 0 number
op_told ns number (op.CallLibrary k args) = library_told ns number k
op_told ns number o = told.Other

abbrev pub instr_told : List ℕ → ℕ → Option Instr → StepKind
instr_told ns number None = told.Other
instr_told ns number (Some x) = op_told ns number x.op

abbrev pub kind_told : List InstrId → NumberedProgram → State → ℕ → List ℕ → ℕ → ℕ → Action → StepKind
kind_told gated p s t ns answer number actions.Local = instr_told ns number (slice_get p.instrs (instr_of s t))
kind_told gated p s t ns answer number (actions.Load r) = access_told gated s t (slice_index ns 0) r false answer
kind_told gated p s t ns answer number (actions.Store r n) = access_told gated s t (slice_index ns 1) r true n
kind_told gated p s t ns answer number (actions.Event r) = event_told s t ns number r
kind_told gated p s t ns answer number action = told.Other

-- what the trace tells of the step of thread t, whose action is answered so
abbrev pub step_told : List InstrId → NumberedProgram → State → ℕ → ℕ → Step
step_told gated p s t answer =
    let o = slice_get s.locals t in
    record {
      thread = record { 0 = t };
      instr = record { 0 = instr_of s t };
      kind = kind_told gated p s t (operands_in p o) answer (number_in p o answer) (next_of p s t);
    }

-- ---- the step

-- the step that was done and the state after it, or the trap and the state
pub data Stepped : Type 0 where
  Did : Step → State → Stepped
  Trapped : TrapName → ℕ → Stepped

-- after the answer the thread goes on
abbrev pub taken : NumberedProgram → State → ℕ → Answered → Answered
taken p s t (s', Err name) = (s', Err name)
taken p s t (s', Ok answer) = (record s' { locals = local_after p s'.locals t answer (slice_get s.locals t) }, Ok answer)

abbrev pub settled : List InstrId → NumberedProgram → State → ℕ → Answered → Stepped
settled gated p s t (s', Err name) = Trapped name (instr_of s t)
settled gated p s t (s', Ok answer) = Did (step_told gated p s t answer) s'

-- the step of thread t, where it is ready
unfoldable pub step : List InstrId → NumberedProgram → List ℤ → State → ℕ → Stepped
step gated p input s t = settled gated p s t (taken p s t (answered p input s t (next_of p s t)))
