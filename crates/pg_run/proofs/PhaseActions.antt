-- In what phase a thread does an action, and in what phase it is afterwards.
use Rattle.std.proofs.Common.{◌≡◌, ℕ, suc, List, [], ◌∷◌, length, Bool, true, false, Option, Some, None, arith, refl, ◌∙◌, ap}
use Rattle.std.specs.Prelude.{slice_get, ◌==◌, if◌then◌else◌}
use Rattle.std.proofs.lemmas.Bool.Decides.{nat_tests}
use Rattle.pg_run_trace.specs.pg_num.Numbers.{divided}
use Rattle.pg_run_trace.specs.pg_ir.declared.library_call.LibraryCall.{LibraryCall}
use Rattle.pg_run_trace.specs.pg_ir.declared.library_call.LibraryCall.TheVariants as known
use Rattle.pg_run_trace.specs.pg_ir.declared.value.Value.{Value}
use Rattle.pg_run_trace.specs.pg_ir.declared.instr.Op.{Op}
use Rattle.pg_run_trace.specs.pg_ir.declared.instr.Op.TheVariants as op
use Rattle.pg_run_trace.specs.pg_ir.declared.instr.Instr.{Instr}
use Rattle.pg_run_trace.specs.pg_ir.declared.request.Request.TheVariants as requests
use Rattle.pg_run_trace.specs.pg_ir.Program.{NumberedProgram}
use Rattle.pg_run_trace.specs.pg_ir.WellFormed.{granules_for}
use Rattle.pg_run_thread.specs.declared.action.Action.{Action}
use Rattle.pg_run_thread.specs.declared.action.Action.TheVariants as actions
use Rattle.pg_run_thread.specs.declared.thread_memory.ThreadMemory.{ThreadMemory}
use Rattle.pg_run_thread.specs.LocalState.{Frame, LocalState, own_memory}
use Rattle.pg_run_thread.specs.Operands.{operand, operands_of}
use Rattle.pg_run_thread.specs.Compute.{chosen}
use Rattle.pg_run_thread.specs.EdgeStep.{case_of}
use Rattle.pg_run_thread.specs.Step.{next, after, frames_action, instr_action, op_action, library_action, return_action, returning_action, bytes_of, total, has_room, halfway_after, op_after}
use Rattle.pg_run_thread.specs.Step.{instr_after, frames_after, begun_frame, returned}
use Rattle.pg_run_thread.specs.States.{CanStep}
use Rattle.pg_run.specs.Phases.{Phase, Going, InCondition, InBarrier, Over, library_phase, op_phase, instr_phase, frames_phase, phase_of, phase_before, phase_after}
use Rattle.pg_run.proofs.Actions.{OfTraps, on_value_is, on_all_is, on_place_is, number_is, object_is, init_is, barrier_init_is, wait_is, create_is, join_is, either, edge_is, call_is}
use Rattle.pg_run.proofs.Actions.{divided_is, room_is}

-- ---- before

-- an action that can be done is done in this phase
abbrev Before : Phase → Action → Type 0
Before x act = CanStep act → x ≡ phase_before act

traps_before : (x : Phase) → OfTraps (Before x)
traps_before x n c = absurd c

known_before : (p : NumberedProgram) (t : ℕ) (halfway : Bool) (rs : List (Option ℕ)) (k : LibraryCall) (args : List Value) → Before (library_phase halfway k) (library_action p t halfway rs k args)
known_before p t halfway rs known.PgIn args = number_is (Before Going) p rs args _ (traps_before Going) (λ n c. refl)
known_before p t halfway rs known.PgInLen args = λ c. refl
known_before p t halfway rs known.PgOut args = number_is (Before Going) p rs args _ (traps_before Going) (λ n c. refl)
known_before p t halfway rs known.PgPrint args = number_is (Before Going) p rs args _ (traps_before Going) (λ n c. refl)
known_before p t halfway rs known.Putchar args = number_is (Before Going) p rs args _ (traps_before Going) (λ n c. refl)
known_before p t halfway rs known.Malloc args = number_is (Before Going) p rs args _ (traps_before Going) (λ n c. refl)
known_before p t halfway rs known.Free args = number_is (Before Going) p rs args _ (traps_before Going) (λ n c. refl)
known_before p t halfway rs known.PthreadCreate args = create_is (Before Going) p rs args (traps_before Going) (λ r f n k e c. refl)
known_before p t halfway rs known.PthreadJoin args = join_is (Before Going) p rs args (traps_before Going) (λ n c. refl) (λ n r k c. refl)
known_before p t halfway rs known.PthreadExit args = number_is (Before Going) p rs args _ (traps_before Going) (λ n c. refl)
known_before p t halfway rs known.PthreadMutexInit args = init_is (Before Going) p rs args _ (traps_before Going) (λ o c. refl)
known_before p t halfway rs known.PthreadMutexLock args = object_is (Before Going) p rs args _ (traps_before Going) (λ o c. refl)
known_before p t halfway rs known.PthreadMutexTrylock args = object_is (Before Going) p rs args _ (traps_before Going) (λ o c. refl)
known_before p t halfway rs known.PthreadMutexUnlock args = object_is (Before Going) p rs args _ (traps_before Going) (λ o c. refl)
known_before p t halfway rs known.PthreadMutexDestroy args = object_is (Before Going) p rs args _ (traps_before Going) (λ o c. refl)
known_before p t halfway rs known.PthreadCondInit args = init_is (Before Going) p rs args _ (traps_before Going) (λ o c. refl)
known_before p t true rs known.PthreadCondWait args = wait_is (Before InCondition) p true rs args (traps_before InCondition) (λ x y c. refl)
known_before p t false rs known.PthreadCondWait args = wait_is (Before Going) p false rs args (traps_before Going) (λ x y c. refl)
known_before p t halfway rs known.PthreadCondSignal args = object_is (Before Going) p rs args _ (traps_before Going) (λ o c. refl)
known_before p t halfway rs known.PthreadCondBroadcast args = object_is (Before Going) p rs args _ (traps_before Going) (λ o c. refl)
known_before p t halfway rs known.PthreadCondDestroy args = object_is (Before Going) p rs args _ (traps_before Going) (λ o c. refl)
known_before p t halfway rs known.PthreadBarrierInit args = barrier_init_is (Before Going) p rs args (traps_before Going) (λ o n c. refl)
known_before p t true rs known.PthreadBarrierWait args = object_is (Before InBarrier) p rs args _ (traps_before InBarrier) (λ o c. refl)
known_before p t false rs known.PthreadBarrierWait args = object_is (Before Going) p rs args _ (traps_before Going) (λ o c. refl)
known_before p t halfway rs known.PthreadBarrierDestroy args = object_is (Before Going) p rs args _ (traps_before Going) (λ o c. refl)

return_before : (depth n : ℕ) → Before Going (return_action depth n)
return_before depth n = either (Before Going) (depth == 1) _ _ (λ c. refl) (λ c. refl)

returning_before : (p : NumberedProgram) (rs : List (Option ℕ)) (depth : ℕ) (v : Option Value) → Before Going (returning_action p rs depth v)
returning_before p rs depth None = return_before depth 0
returning_before p rs depth (Some v) = on_value_is (Before Going) (operand p rs v) _ (traps_before Going) (λ n e. return_before depth n)

op_before : (p : NumberedProgram) (r : ThreadMemory) (halfway : Bool) (rs : List (Option ℕ)) (depth used block : ℕ) (o : Op) → Before (op_phase halfway o) (op_action p r halfway rs depth used block o)
op_before p r halfway rs depth used block (op.Divide d w a b) =
    on_value_is (Before Going) (operand p rs a) _ (traps_before Going)
    (λ m e. on_value_is (Before Going) (operand p rs b) _ (traps_before Going) (λ n f. divided_is (Before Going) (divided d w m n) (traps_before Going) (λ c. refl)))
op_before p r halfway rs depth used block (op.Phi from) = λ c. absurd c
op_before p r halfway rs depth used block (op.Br to) = edge_is (Before Going) p rs block to.0 (traps_before Going) (λ c. refl)
op_before p r halfway rs depth used block (op.CondBr c a b) = on_value_is (Before Going) (operand p rs c) _ (traps_before Going)
    (λ n e. edge_is (Before Going) p rs block (chosen n a.0 b.0) (traps_before Going) (λ k. refl))
op_before p r halfway rs depth used block (op.Switch w on other cases) =
    on_value_is (Before Going) (operand p rs on) _ (traps_before Going) (λ n e. edge_is (Before Going) p rs block (case_of cases other.0 n) (traps_before Going) (λ c. refl))
op_before p r halfway rs depth used block (op.Call g args) = on_all_is (Before Going) p rs args _ (traps_before Going) (call_is (Before Going) p g depth used (traps_before Going) (λ c. refl))
op_before p r halfway rs depth used block (op.Ret v) = returning_before p rs depth v
op_before p r halfway rs depth used block op.Unreachable = λ c. absurd c
op_before p r halfway rs depth used block (op.Alloca bytes) = room_is (Before Going) (has_room r (granules_for bytes)) (traps_before Going) (λ c. refl)
op_before p r halfway rs depth used block (op.Load w from) = on_value_is (Before Going) (operand p rs from) _ (traps_before Going)
    (λ a e. on_place_is (Before Going) a (bytes_of w) _ (traps_before Going) (λ q k c. refl))
op_before p r halfway rs depth used block (op.Store w v at) =
    on_value_is (Before Going) (operand p rs v) _ (traps_before Going) (λ n e.
    on_value_is (Before Going) (operand p rs at) _ (traps_before Going) (λ a f.
    on_place_is (Before Going) a (bytes_of w) _ (traps_before Going) (λ q k c. refl)))
op_before p r halfway rs depth used block (op.CallLibrary k args) = known_before p r.thread halfway rs k args
op_before p r halfway rs depth used block o = on_all_is (Before Going) p rs (operands_of o) _ (traps_before Going) (λ c. refl)

instr_before : (p : NumberedProgram) (l : LocalState) (f : Frame) (fs : List Frame) (o : Option Instr) → Before (instr_phase l.halfway o) (instr_action p l f fs o)
instr_before p l f fs None = λ c. absurd c
instr_before p l f fs (Some x) = op_before p (own_memory l) l.halfway f.registers (length (f ∷ fs)) (total (f ∷ fs)) x.block.0 x.op

frames_before : (p : NumberedProgram) (l : LocalState) (begun : Bool) (fs : List Frame) → Before (frames_phase p begun l.halfway fs) (frames_action p l begun fs)
frames_before p l begun [] = λ c. absurd c
frames_before p l false (f ∷ fs) = λ c. refl
frames_before p l true (f ∷ fs) = instr_before p l f fs (slice_get p.instrs f.place)

pub phase_before_next : (p : NumberedProgram) (l : LocalState) → CanStep (next p l) → phase_of p l ≡ phase_before (next p l)
unfolding next phase_of
phase_before_next p l can = frames_before p l l.begun l.frames can

-- ---- after

-- after an action that was done the phase is this one
abbrev After : Phase → Action → Type 0
After x act = CanStep act → x ≡ phase_after act

traps_after : (x : Phase) → OfTraps (After x)
traps_after x n c = absurd c

-- a frame that isn't between the halves of a wait
known_goes : (k : LibraryCall) → library_phase false k ≡ Going
known_goes known.PthreadCondWait = refl
known_goes known.PthreadBarrierWait = refl
known_goes k = refl

op_goes : (o : Op) → op_phase false o ≡ Going
op_goes (op.CallLibrary k args) = known_goes k
op_goes o = refl

instr_goes : (o : Option Instr) → instr_phase false o ≡ Going
instr_goes None = refl
instr_goes (Some x) = op_goes x.op

-- a thread that has begun
abbrev running : ℕ → Bool → Frame → List Frame → ℕ → LocalState
running t hw f fs heap = record { thread = t; begun = true; halfway = hw; frames = f ∷ fs; heap = heap }

-- the phase after an operation
abbrev phase_then : NumberedProgram → LocalState → Instr → ℕ → Op → Phase
phase_then p l x answer o = frames_phase p true (halfway_after l.halfway o) (op_after p l x answer o)

-- the phase after a call of a known function
known_then : (p : NumberedProgram) (t : ℕ) (hw : Bool) (f : Frame) (fs : List Frame) (heap : ℕ) (x : Instr) (answer : ℕ) (k : LibraryCall) (args : List Value)
    → slice_get p.instrs f.place ≡ Some x → x.op ≡ op.CallLibrary k args → After (phase_then p (running t hw f fs heap) x answer (op.CallLibrary k args)) (library_action p t hw f.registers k args)
known_then p t hw f fs heap x answer known.PgIn args e g = number_is (After _) p f.registers args _ (traps_after _) (λ n c. instr_goes _)
known_then p t hw f fs heap x answer known.PgOut args e g = number_is (After _) p f.registers args _ (traps_after _) (λ n c. instr_goes _)
known_then p t hw f fs heap x answer known.PgPrint args e g = number_is (After _) p f.registers args _ (traps_after _) (λ n c. instr_goes _)
known_then p t hw f fs heap x answer known.Putchar args e g = number_is (After _) p f.registers args _ (traps_after _) (λ n c. instr_goes _)
known_then p t hw f fs heap x answer known.Malloc args e g = number_is (After _) p f.registers args _ (traps_after _) (λ n c. instr_goes _)
known_then p t hw f fs heap x answer known.Free args e g = number_is (After _) p f.registers args _ (traps_after _) (λ n c. instr_goes _)
known_then p t hw f fs heap x answer known.PgInLen args e g = λ c. instr_goes _
known_then p t hw f fs heap x answer known.PthreadExit args e g = number_is (After Over) p f.registers args _ (traps_after Over) (λ n c. refl)
known_then p t hw f fs heap x answer known.PthreadCreate args e g = create_is (After _) p f.registers args (traps_after _) (λ r h n k q c. instr_goes _)
known_then p t hw f fs heap x answer known.PthreadJoin args e g = join_is (After _) p f.registers args (traps_after _) (λ n c. instr_goes _) (λ n r k c. instr_goes _)
known_then p t hw f fs heap x answer known.PthreadMutexInit args e g = init_is (After _) p f.registers args _ (traps_after _) (λ o c. instr_goes _)
known_then p t hw f fs heap x answer known.PthreadCondInit args e g = init_is (After _) p f.registers args _ (traps_after _) (λ o c. instr_goes _)
known_then p t hw f fs heap x answer known.PthreadMutexLock args e g = object_is (After _) p f.registers args _ (traps_after _) (λ o c. instr_goes _)
known_then p t hw f fs heap x answer known.PthreadMutexTrylock args e g = object_is (After _) p f.registers args _ (traps_after _) (λ o c. instr_goes _)
known_then p t hw f fs heap x answer known.PthreadMutexUnlock args e g = object_is (After _) p f.registers args _ (traps_after _) (λ o c. instr_goes _)
known_then p t hw f fs heap x answer known.PthreadMutexDestroy args e g = object_is (After _) p f.registers args _ (traps_after _) (λ o c. instr_goes _)
known_then p t hw f fs heap x answer known.PthreadCondSignal args e g = object_is (After _) p f.registers args _ (traps_after _) (λ o c. instr_goes _)
known_then p t hw f fs heap x answer known.PthreadCondBroadcast args e g = object_is (After _) p f.registers args _ (traps_after _) (λ o c. instr_goes _)
known_then p t hw f fs heap x answer known.PthreadCondDestroy args e g = object_is (After _) p f.registers args _ (traps_after _) (λ o c. instr_goes _)
known_then p t hw f fs heap x answer known.PthreadBarrierDestroy args e g = object_is (After _) p f.registers args _ (traps_after _) (λ o c. instr_goes _)
known_then p t hw f fs heap x answer known.PthreadBarrierInit args e g = barrier_init_is (After _) p f.registers args (traps_after _) (λ o n c. instr_goes _)
known_then p t true f fs heap x answer known.PthreadCondWait args e g = wait_is (After _) p true f.registers args (traps_after _) (λ o m c. instr_goes _)
known_then p t false f fs heap x answer known.PthreadCondWait args e g = wait_is (After _) p false f.registers args (traps_after _) (λ o m c. ap (instr_phase true) e ∙ ap (op_phase true) g)
known_then p t true f fs heap x answer known.PthreadBarrierWait args e g = object_is (After _) p f.registers args _ (traps_after _) (λ o c. instr_goes _)
known_then p t false f fs heap x answer known.PthreadBarrierWait args e g = object_is (After _) p f.registers args _ (traps_after _) (λ o c. ap (instr_phase true) e ∙ ap (op_phase true) g)

-- in the first frame a return ends the thread, else its caller goes on
deeper : (n : ℕ) (b : Bool) → (suc (suc n) == 1) ≡ b → b ≡ false
deeper n false e = refl
deeper n true e = let k : suc (suc n) ≡ 1 = grind (arith, nat_tests) in absurd (omega (arith, k))

goes_on : (x : Phase) (m : ℕ) (b : Bool) → b ≡ false → x ≡ Going → x ≡ phase_after (if b then actions.Event (requests.Exit m true) else actions.Local)
goes_on x m true e g = absurd cc
goes_on x m false e g = g

return_then : (p : NumberedProgram) (fs : List Frame) (f : Frame) (n m : ℕ) → After (frames_phase p true false (returned p fs n)) (return_action (length (f ∷ fs)) m)
return_then p [] f n m c = refl
return_then p (g ∷ gs) f n m c = goes_on _ m (length (f ∷ g ∷ gs) == 1) (deeper (length gs) _ refl) (instr_goes _)

returning_then : (p : NumberedProgram) (f : Frame) (fs : List Frame) (n : ℕ) (v : Option Value)
    → After (frames_phase p true false (returned p fs n)) (returning_action p f.registers (length (f ∷ fs)) v)
returning_then p f fs n None = return_then p fs f n 0
returning_then p f fs n (Some v) = on_value_is (After _) (operand p f.registers v) _ (traps_after _) (λ m e. return_then p fs f n m)

op_then : (p : NumberedProgram) (t : ℕ) (hw : Bool) (f : Frame) (fs : List Frame) (heap : ℕ) (x : Instr) (answer : ℕ) (depth used block : ℕ) (o : Op)
    → slice_get p.instrs f.place ≡ Some x → x.op ≡ o → depth ≡ length (f ∷ fs)
    → After (phase_then p (running t hw f fs heap) x answer o) (op_action p (own_memory (running t hw f fs heap)) hw f.registers depth used block o)
op_then p t hw f fs heap x answer depth used block (op.Divide d w a b) e g k =
    on_value_is (After _) (operand p f.registers a) _ (traps_after _)
    (λ m q. on_value_is (After _) (operand p f.registers b) _ (traps_after _) (λ n r. divided_is (After _) (divided d w m n) (traps_after _) (λ c. instr_goes _)))
op_then p t hw f fs heap x answer depth used block (op.Phi from) e g k = λ c. absurd c
op_then p t hw f fs heap x answer depth used block (op.Br to) e g k = edge_is (After _) p f.registers block to.0 (traps_after _) (λ c. instr_goes _)
op_then p t hw f fs heap x answer depth used block (op.CondBr n a b) e g k =
    on_value_is (After _) (operand p f.registers n) _ (traps_after _) (λ m q. edge_is (After _) p f.registers block (chosen m a.0 b.0) (traps_after _) (λ c. instr_goes _))
op_then p t hw f fs heap x answer depth used block (op.Switch w on other cases) e g k =
    on_value_is (After _) (operand p f.registers on) _ (traps_after _) (λ m q. edge_is (After _) p f.registers block (case_of cases other.0 m) (traps_after _) (λ c. instr_goes _))
op_then p t hw f fs heap x answer depth used block (op.Call h args) e g k =
    on_all_is (After _) p f.registers args _ (traps_after _) (call_is (After _) p h depth used (traps_after _) (λ c. instr_goes _))
op_then p t hw f fs heap x answer depth used block (op.Ret v) e g k = rw k (returning_then p f fs _ v)
op_then p t hw f fs heap x answer depth used block op.Unreachable e g k = λ c. absurd c
op_then p t hw f fs heap x answer depth used block (op.Alloca bytes) e g k = room_is (After _) (has_room (own_memory (running t hw f fs heap)) (granules_for bytes)) (traps_after _) (λ c. instr_goes _)
op_then p t hw f fs heap x answer depth used block (op.Load w from) e g k =
    on_value_is (After _) (operand p f.registers from) _ (traps_after _) (λ a q. on_place_is (After _) a (bytes_of w) _ (traps_after _) (λ r s c. instr_goes _))
op_then p t hw f fs heap x answer depth used block (op.Store w v at) e g k =
    on_value_is (After _) (operand p f.registers v) _ (traps_after _) (λ n q.
    on_value_is (After _) (operand p f.registers at) _ (traps_after _) (λ a r.
    on_place_is (After _) a (bytes_of w) _ (traps_after _) (λ s z c. instr_goes _)))
op_then p t hw f fs heap x answer depth used block (op.CallLibrary n args) e g k = known_then p t hw f fs heap x answer n args e g
op_then p t hw f fs heap x answer depth used block o e g k = on_all_is (After _) p f.registers (operands_of o) _ (traps_after _) (λ c. instr_goes _)

instr_then : (p : NumberedProgram) (t : ℕ) (hw : Bool) (f : Frame) (fs : List Frame) (heap answer : ℕ) (o : Option Instr) → slice_get p.instrs f.place ≡ o
    → After (phase_of p (instr_after p (running t hw f fs heap) answer o)) (instr_action p (running t hw f fs heap) f fs o)
unfolding phase_of
instr_then p t hw f fs heap answer None e = λ c. absurd c
instr_then p t hw f fs heap answer (Some x) e = op_then p t hw f fs heap x answer (length (f ∷ fs)) (total (f ∷ fs)) x.block.0 x.op e refl refl

frames_then : (p : NumberedProgram) (t : ℕ) (b hw : Bool) (fs : List Frame) (heap answer : ℕ) → (b ≡ false → hw ≡ false)
    → After (phase_of p (frames_after p (record { thread = t; begun = b; halfway = hw; frames = fs; heap = heap }) b fs answer))
    (frames_action p (record { thread = t; begun = b; halfway = hw; frames = fs; heap = heap }) b fs)
unfolding phase_of
frames_then p t b hw [] heap answer h = λ c. absurd c
frames_then p t false hw (f ∷ fs) heap answer h = λ c. ap (λ (q : Bool). frames_phase p true q (begun_frame p answer f ∷ fs)) (h refl) ∙ instr_goes _
frames_then p t true hw (f ∷ fs) heap answer h = instr_then p t hw f fs heap answer (slice_get p.instrs f.place) refl

pub phase_after_next : (p : NumberedProgram) (l : LocalState) (answer : ℕ) → (l.begun ≡ false → l.halfway ≡ false) → CanStep (next p l)
    → phase_of p (after p l answer) ≡ phase_after (next p l)
unfolding next after
phase_after_next p l answer h can = frames_then p l.thread l.begun l.halfway l.frames l.heap answer h can

-- a thread that has taken a step has begun
frames_begun : (p : NumberedProgram) (l : LocalState) (b : Bool) (fs : List Frame) (answer : ℕ) → l.begun ≡ b → CanStep (frames_action p l b fs)
    → (frames_after p l b fs answer).begun ≡ true
frames_begun p l b [] answer e c = absurd c
frames_begun p l false (f ∷ fs) answer e c = refl
frames_begun p l true (f ∷ fs) answer e c = go (slice_get p.instrs f.place)
  where
    go : (o : Option Instr) → (instr_after p l answer o).begun ≡ true
    go None = e
    go (Some x) = e

pub begun_after : (p : NumberedProgram) (l : LocalState) (answer : ℕ) → CanStep (next p l) → (after p l answer).begun ≡ true
unfolding next after
begun_after p l answer can = frames_begun p l l.begun l.frames answer refl can
