-- The function of a thread that is made is the third operand of the step that makes it.
use Rattle.std.proofs.Common.{◌≡◌, ℕ, List, [], ◌∷◌, length, Bool, true, false, Option, Some, None, refl, sym, ap}
use Rattle.std.specs.Prelude.{slice_get, slice_index, ◌==◌}
use Rattle.pg_num.specs.Numbers.{divided}
use Rattle.pg_ir.specs.declared.library_call.LibraryCall.{LibraryCall}
use Rattle.pg_ir.specs.declared.library_call.LibraryCall.TheVariants as known
use Rattle.pg_ir.specs.declared.request.Request.TheVariants as requests
use Rattle.pg_ir.specs.declared.value.Value.{Value}
use Rattle.pg_ir.specs.declared.instr.Op.{Op}
use Rattle.pg_ir.specs.declared.instr.Op.TheVariants as op
use Rattle.pg_ir.specs.declared.instr.Instr.{Instr}
use Rattle.pg_ir.specs.Program.{NumberedProgram}
use Rattle.pg_ir.specs.WellFormed.{granules_for}
use Rattle.pg_run_thread.specs.declared.action.Action.{Action}
use Rattle.pg_run_thread.specs.declared.action.Action.TheVariants as actions
use Rattle.pg_run_thread.specs.declared.thread_memory.ThreadMemory.{ThreadMemory}
use Rattle.pg_run_thread.specs.LocalState.{Frame, LocalState, own_memory}
use Rattle.pg_run_thread.specs.Operands.{first_four, given, operand, operands_of}
use Rattle.pg_run_thread.specs.Compute.{chosen}
use Rattle.pg_run_thread.specs.EdgeStep.{case_of}
use Rattle.pg_run_thread.specs.Step.{bytes_of, frames_action, has_room, instr_action, library_action, next, op_action, returning_action, total}
use Rattle.pg_run_thread.specs.Told.{frames_operands, operand_values}
use Rattle.pg_run.specs.MachineStep.{operands_in}
use Rattle.pg_ir.specs.declared.request.Request.{Request}
use Rattle.pg_run.specs.State.{State, action_in, next_of}
use Rattle.pg_run.proofs.Actions.{create_is, join_is, on_place_is, on_value_is, on_all_is, number_is, object_is, init_is, barrier_init_is, wait_is, either, edge_is, call_is, divided_is, room_is}

abbrev is_given_to : List ℕ → Request → Type 0
is_given_to ns (requests.Create r f n) = f ≡ slice_index ns 2
is_given_to ns r = Unit {0}

abbrev pub IsCreateNamed : List ℕ → Action → Type 0
IsCreateNamed ns (actions.Event r) = is_given_to ns r
IsCreateNamed ns action = Unit {0}

known_named : (p : NumberedProgram) (t : ℕ) (halfway : Bool) (rs : List (Option ℕ)) (k : LibraryCall) (args : List Value) → IsCreateNamed (first_four p rs args) (library_action p t halfway rs k args)
known_named p t halfway rs known.PgIn args = number_is (IsCreateNamed (first_four p rs args)) p rs args _ (λ k. tt) (λ n. tt)
known_named p t halfway rs known.PgInLen args = tt
known_named p t halfway rs known.PgOut args = number_is (IsCreateNamed (first_four p rs args)) p rs args _ (λ k. tt) (λ n. tt)
known_named p t halfway rs known.PgPrint args = number_is (IsCreateNamed (first_four p rs args)) p rs args _ (λ k. tt) (λ n. tt)
known_named p t halfway rs known.Putchar args = number_is (IsCreateNamed (first_four p rs args)) p rs args _ (λ k. tt) (λ n. tt)
known_named p t halfway rs known.Malloc args = number_is (IsCreateNamed (first_four p rs args)) p rs args _ (λ k. tt) (λ n. tt)
known_named p t halfway rs known.Free args = number_is (IsCreateNamed (first_four p rs args)) p rs args _ (λ k. tt) (λ n. tt)
known_named p t halfway rs known.PthreadCreate args = create_is (IsCreateNamed (first_four p rs args)) p rs args (λ k. tt) (λ r f n k e. sym (ap given e))
known_named p t halfway rs known.PthreadJoin args = join_is (IsCreateNamed (first_four p rs args)) p rs args (λ k. tt) (λ n. tt) (λ n r k. tt)
known_named p t halfway rs known.PthreadExit args = number_is (IsCreateNamed (first_four p rs args)) p rs args _ (λ k. tt) (λ n. tt)
known_named p t halfway rs known.PthreadMutexInit args = init_is (IsCreateNamed (first_four p rs args)) p rs args _ (λ k. tt) (λ o. tt)
known_named p t halfway rs known.PthreadMutexLock args = object_is (IsCreateNamed (first_four p rs args)) p rs args _ (λ k. tt) (λ o. tt)
known_named p t halfway rs known.PthreadMutexTrylock args = object_is (IsCreateNamed (first_four p rs args)) p rs args _ (λ k. tt) (λ o. tt)
known_named p t halfway rs known.PthreadMutexUnlock args = object_is (IsCreateNamed (first_four p rs args)) p rs args _ (λ k. tt) (λ o. tt)
known_named p t halfway rs known.PthreadMutexDestroy args = object_is (IsCreateNamed (first_four p rs args)) p rs args _ (λ k. tt) (λ o. tt)
known_named p t halfway rs known.PthreadCondInit args = init_is (IsCreateNamed (first_four p rs args)) p rs args _ (λ k. tt) (λ o. tt)
known_named p t true rs known.PthreadCondWait args = wait_is (IsCreateNamed (first_four p rs args)) p true rs args (λ k. tt) (λ c m. tt)
known_named p t false rs known.PthreadCondWait args = wait_is (IsCreateNamed (first_four p rs args)) p false rs args (λ k. tt) (λ c m. tt)
known_named p t halfway rs known.PthreadCondSignal args = object_is (IsCreateNamed (first_four p rs args)) p rs args _ (λ k. tt) (λ o. tt)
known_named p t halfway rs known.PthreadCondBroadcast args = object_is (IsCreateNamed (first_four p rs args)) p rs args _ (λ k. tt) (λ o. tt)
known_named p t halfway rs known.PthreadCondDestroy args = object_is (IsCreateNamed (first_four p rs args)) p rs args _ (λ k. tt) (λ o. tt)
known_named p t halfway rs known.PthreadBarrierInit args = barrier_init_is (IsCreateNamed (first_four p rs args)) p rs args (λ k. tt) (λ o n. tt)
known_named p t true rs known.PthreadBarrierWait args = object_is (IsCreateNamed (first_four p rs args)) p rs args _ (λ k. tt) (λ o. tt)
known_named p t false rs known.PthreadBarrierWait args = object_is (IsCreateNamed (first_four p rs args)) p rs args _ (λ k. tt) (λ o. tt)
known_named p t halfway rs known.PthreadBarrierDestroy args = object_is (IsCreateNamed (first_four p rs args)) p rs args _ (λ k. tt) (λ o. tt)

-- ---- operations

returning_named : (p : NumberedProgram) (rs : List (Option ℕ)) (ns : List ℕ) (depth : ℕ) (v : Option Value) → IsCreateNamed ns (returning_action p rs depth v)
returning_named p rs ns depth None = either (IsCreateNamed ns) (depth == 1) _ _ tt tt
returning_named p rs ns depth (Some v) = on_value_is (IsCreateNamed ns) (operand p rs v) _ (λ k. tt) (λ n e. either (IsCreateNamed ns) (depth == 1) _ _ tt tt)

op_named : (p : NumberedProgram) (rs : List (Option ℕ)) (r : ThreadMemory) (halfway : Bool) (depth used block : ℕ) (o : Op)
    → IsCreateNamed (first_four p rs (operands_of o)) (op_action p r halfway rs depth used block o)
op_named p rs r halfway depth used block (op.Divide d w a b) =
    let Q = IsCreateNamed (first_four p rs (operands_of (op.Divide d w a b))) in
    on_value_is Q (operand p rs a) _ (λ k. tt) (λ m e. on_value_is Q (operand p rs b) _ (λ k. tt) (λ n f. divided_is Q (divided d w m n) (λ k. tt) tt))
op_named p rs r halfway depth used block (op.Phi from) = tt
op_named p rs r halfway depth used block (op.Br to) = edge_is (IsCreateNamed (first_four p rs [])) p rs block to.0 (λ k. tt) tt
op_named p rs r halfway depth used block (op.CondBr c a b) =
    let Q = IsCreateNamed (first_four p rs (c ∷ [])) in
    on_value_is Q (operand p rs c) _ (λ k. tt) (λ n e. edge_is Q p rs block (chosen n a.0 b.0) (λ k. tt) tt)
op_named p rs r halfway depth used block (op.Switch w on other cases) =
    let Q = IsCreateNamed (first_four p rs (operands_of (op.Switch w on other cases))) in
    on_value_is Q (operand p rs on) _ (λ k. tt) (λ n e. edge_is Q p rs block (case_of cases other.0 n) (λ k. tt) tt)
op_named p rs r halfway depth used block (op.Call g args) =
    let Q = IsCreateNamed (first_four p rs args) in
    on_all_is Q p rs args _ (λ k. tt) (call_is Q p g depth used (λ k. tt) tt)
op_named p rs r halfway depth used block (op.Ret v) = returning_named p rs (first_four p rs (operands_of (op.Ret v))) depth v
op_named p rs r halfway depth used block op.Unreachable = tt
op_named p rs r halfway depth used block (op.Alloca bytes) = room_is (IsCreateNamed (first_four p rs [])) (has_room r (granules_for bytes)) (λ k. tt) tt
op_named p rs r halfway depth used block (op.Load w from) =
    let Q = IsCreateNamed (first_four p rs (from ∷ [])) in
    on_value_is Q (operand p rs from) _ (λ k. tt) (λ a e. on_place_is Q a (bytes_of w) _ (λ k. tt) (λ q h. tt))
op_named p rs r halfway depth used block (op.Store w v at) =
    let Q = IsCreateNamed (first_four p rs (v ∷ at ∷ [])) in
    on_value_is Q (operand p rs v) _ (λ k. tt) (λ n e.
    on_value_is Q (operand p rs at) _ (λ k. tt) (λ a f.
    on_place_is Q a (bytes_of w) _ (λ k. tt) (λ q h. tt)))
op_named p rs r halfway depth used block (op.CallLibrary k args) = known_named p r.thread halfway rs k args
op_named p rs r halfway depth used block o = on_all_is (IsCreateNamed (first_four p rs (operands_of o))) p rs (operands_of o) _ (λ k. tt) tt

-- ---- the next action

instr_named : (p : NumberedProgram) (l : LocalState) (f : Frame) (fs : List Frame) (begun : Bool) (o : Option Instr) → begun ≡ true → slice_get p.instrs f.place ≡ o
    → IsCreateNamed (frames_operands p begun (f ∷ fs)) (instr_action p l f fs o)
instr_named p l f fs true None b e = tt
instr_named p l f fs true (Some x) b e = rw e (op_named p f.registers (own_memory l) l.halfway (length (f ∷ fs)) (total (f ∷ fs)) x.block.0 x.op)
instr_named p l f fs false o b e = absurd cc

frames_named : (p : NumberedProgram) (l : LocalState) (begun : Bool) (fs : List Frame) → IsCreateNamed (frames_operands p begun fs) (frames_action p l begun fs)
frames_named p l begun [] = tt
frames_named p l false (f ∷ fs) = tt
frames_named p l true (f ∷ fs) = instr_named p l f fs true (slice_get p.instrs f.place) refl refl

local_named : (p : NumberedProgram) (l : LocalState) → IsCreateNamed (operand_values p l) (next p l)
unfolding next operand_values
local_named p l = frames_named p l l.begun l.frames

in_named : (p : NumberedProgram) (o : Option LocalState) → IsCreateNamed (operands_in p o) (action_in p o)
in_named p None = tt
in_named p (Some l) = local_named p l

pub next_named : (p : NumberedProgram) (s : State) (t : ℕ) → IsCreateNamed (operands_in p (slice_get s.locals t)) (next_of p s t)
unfolding next_of
next_named p s t = in_named p (slice_get s.locals t)
