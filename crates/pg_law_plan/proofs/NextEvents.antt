-- Threads that stand alike do an event next, or neither does.
use Rattle.std.proofs.Common.{◌≡◌, ℕ, ℤ, ◌==◌, Bool, true, false, List, ◌∷◌, length, Option, Some, None, refl, sym, ap, ◌∙◌, suc}
use Rattle.std.specs.Prelude.{if◌then◌else◌}
use Rattle.pg_num.specs.Numbers.{divided}
use Rattle.pg_ir.specs.declared.ids.InstrId.{InstrId}
use Rattle.pg_ir.specs.declared.instr.Instr.{Instr}
use Rattle.pg_ir.specs.declared.instr.Op.{Op}
use Rattle.pg_ir.specs.declared.instr.Op.TheVariants as op
use Rattle.pg_ir.specs.declared.library_call.LibraryCall.{LibraryCall}
use Rattle.pg_ir.specs.declared.library_call.LibraryCall.TheVariants as known
use Rattle.pg_ir.specs.declared.request.Request.TheVariants as requests
use Rattle.pg_ir.specs.declared.value.Value.{Value}
use Rattle.pg_ir.specs.Edges.{case_of}
use Rattle.pg_ir.specs.Program.{NumberedProgram}
use Rattle.pg_ir.specs.WellFormed.{granules_for}
use Rattle.pg_run_thread.specs.declared.action.Action.{Action}
use Rattle.pg_run_thread.specs.declared.action.Action.TheVariants as actions
use Rattle.pg_run_thread.specs.declared.thread_memory.ThreadMemory.{ThreadMemory}
use Rattle.pg_run_thread.specs.Compute.{chosen}
use Rattle.pg_run_thread.specs.LocalState.{Frame, LocalState, own_memory}
use Rattle.pg_run_thread.specs.Operands.{operand}
use Rattle.pg_run_thread.specs.States.{CanStep}
use Rattle.pg_run_thread.specs.Step.{bytes_of, has_room, library_action, next, op_action, return_action, returning_action, total}
use Rattle.pg_run_thread.specs.Told.{id_of}
use Rattle.pg_run.specs.MachineStep.{is_gated}
use Rattle.pg_run.specs.State.{State}
use Rattle.pg_run.proofs.Actions.{barrier_init_is, call_is, create_is, divided_is, edge_is, init_is, join_is, number_is, object_is, on_all_is, on_place_is, on_value_is, room_is, wait_is}
use Rattle.pg_law_effects.specs.Views.{begun_in, local_at}
use Rattle.pg_law_runs.specs.Deeds.{is_event_at, local_event}
use Rattle.pg_slice_rules.specs.SymbolicValues.{Symbolic}
use Rattle.pg_law_plan.proofs.ThreadAtInstruction.{Here, running}
use Rattle.pg_law_plan.proofs.LikeOperands.{depth_like}
use Rattle.pg_law_plan.proofs.AlikeThreads.{Both}

-- a call of a known function that is an event
abbrev pub known_asks : LibraryCall → Bool
known_asks known.PgIn = false
known_asks known.PgInLen = false
known_asks known.Malloc = false
known_asks known.Free = false
known_asks k = true

-- an operation that is an event, so deep in calls
abbrev pub op_asks : Bool → ℕ → Op → Bool
op_asks gate depth (op.Load w from) = gate
op_asks gate depth (op.Store w v at) = gate
op_asks gate depth (op.Ret v) = depth == 1
op_asks gate depth (op.CallLibrary k args) = known_asks k
op_asks gate depth o = false

module _ (gated : List InstrId) (id : ℕ) where
  abbrev IsSo : Bool → Action → Type 0
  IsSo b a = CanStep a → is_event_at gated id a ≡ b

  known_so : (p : NumberedProgram) (t : ℕ) (h : Bool) (rs : List (Option ℕ)) (k : LibraryCall) (args : List Value) → IsSo (known_asks k) (library_action p t h rs k args)
  known_so p t h rs known.PgIn args = number_is (IsSo false) p rs args _ (λ z c. absurd c) (λ n c. refl)
  known_so p t h rs known.PgInLen args = λ c. refl
  known_so p t h rs known.PgOut args = number_is (IsSo true) p rs args _ (λ z c. absurd c) (λ n c. refl)
  known_so p t h rs known.PgPrint args = number_is (IsSo true) p rs args _ (λ z c. absurd c) (λ n c. refl)
  known_so p t h rs known.Putchar args = number_is (IsSo true) p rs args _ (λ z c. absurd c) (λ n c. refl)
  known_so p t h rs known.Malloc args = number_is (IsSo false) p rs args _ (λ z c. absurd c) (λ n c. refl)
  known_so p t h rs known.Free args = number_is (IsSo false) p rs args _ (λ z c. absurd c) (λ n c. refl)
  known_so p t h rs known.PthreadCreate args = create_is (IsSo true) p rs args (λ z c. absurd c) (λ r f n k j c. refl)
  known_so p t h rs known.PthreadJoin args = join_is (IsSo true) p rs args (λ z c. absurd c) (λ n c. refl) (λ n r k c. refl)
  known_so p t h rs known.PthreadExit args = number_is (IsSo true) p rs args _ (λ z c. absurd c) (λ n c. refl)
  known_so p t h rs known.PthreadMutexInit args = init_is (IsSo true) p rs args _ (λ z c. absurd c) (λ o c. refl)
  known_so p t h rs known.PthreadMutexLock args = object_is (IsSo true) p rs args _ (λ z c. absurd c) (λ o c. refl)
  known_so p t h rs known.PthreadMutexTrylock args = object_is (IsSo true) p rs args _ (λ z c. absurd c) (λ o c. refl)
  known_so p t h rs known.PthreadMutexUnlock args = object_is (IsSo true) p rs args _ (λ z c. absurd c) (λ o c. refl)
  known_so p t h rs known.PthreadMutexDestroy args = object_is (IsSo true) p rs args _ (λ z c. absurd c) (λ o c. refl)
  known_so p t h rs known.PthreadCondInit args = init_is (IsSo true) p rs args _ (λ z c. absurd c) (λ o c. refl)
  known_so p t h rs known.PthreadCondWait args = wait_is (IsSo true) p h rs args (λ z c. absurd c) (λ x m c. refl)
  known_so p t h rs known.PthreadCondSignal args = object_is (IsSo true) p rs args _ (λ z c. absurd c) (λ o c. refl)
  known_so p t h rs known.PthreadCondBroadcast args = object_is (IsSo true) p rs args _ (λ z c. absurd c) (λ o c. refl)
  known_so p t h rs known.PthreadCondDestroy args = object_is (IsSo true) p rs args _ (λ z c. absurd c) (λ o c. refl)
  known_so p t h rs known.PthreadBarrierInit args = barrier_init_is (IsSo true) p rs args (λ z c. absurd c) (λ o n c. refl)
  known_so p t h rs known.PthreadBarrierWait args = object_is (IsSo true) p rs args _ (λ z c. absurd c) (λ o c. refl)
  known_so p t h rs known.PthreadBarrierDestroy args = object_is (IsSo true) p rs args _ (λ z c. absurd c) (λ o c. refl)

  return_so : (depth n : ℕ) → IsSo (depth == 1) (return_action depth n)
  return_so depth n = go (depth == 1)
    where
      go : (b : Bool) → IsSo b (if b then actions.Event (requests.Exit n true) else actions.Local)
      go true c = refl
      go false c = refl

  returning_so : (p : NumberedProgram) (rs : List (Option ℕ)) (depth : ℕ) (v : Option Value) → IsSo (depth == 1) (returning_action p rs depth v)
  returning_so p rs depth None = return_so depth 0
  returning_so p rs depth (Some v) = on_value_is (IsSo (depth == 1)) (operand p rs v) _ (λ z c. absurd c) (λ n e. return_so depth n)

  op_so : (p : NumberedProgram) (r : ThreadMemory) (h : Bool) (rs : List (Option ℕ)) (depth used block : ℕ) (o : Op)
      → IsSo (op_asks (is_gated gated id) depth o) (op_action p r h rs depth used block o)
  op_so p r h rs depth used block (op.Divide d w a b) = on_value_is (IsSo false) (operand p rs a) _ (λ z c. absurd c)
      (λ m e. on_value_is (IsSo false) (operand p rs b) _ (λ z c. absurd c) (λ n f. divided_is (IsSo false) (divided d w m n) (λ z c. absurd c) (λ c. refl)))
  op_so p r h rs depth used block (op.Phi from) = λ c. refl
  op_so p r h rs depth used block (op.Br to) = edge_is (IsSo false) p rs block to.0 (λ z c. absurd c) (λ c. refl)
  op_so p r h rs depth used block (op.CondBr v a b) = on_value_is (IsSo false) (operand p rs v) _ (λ z c. absurd c)
      (λ n e. edge_is (IsSo false) p rs block (chosen n a.0 b.0) (λ z c. absurd c) (λ c. refl))
  op_so p r h rs depth used block (op.Switch w on other cases) = on_value_is (IsSo false) (operand p rs on) _ (λ z c. absurd c)
      (λ n e. edge_is (IsSo false) p rs block (case_of cases other.0 n) (λ z c. absurd c) (λ c. refl))
  op_so p r h rs depth used block (op.Call g args) = on_all_is (IsSo false) p rs args _ (λ z c. absurd c) (call_is (IsSo false) p g depth used (λ z c. absurd c) (λ c. refl))
  op_so p r h rs depth used block (op.Ret v) = returning_so p rs depth v
  op_so p r h rs depth used block op.Unreachable = λ c. refl
  op_so p r h rs depth used block (op.Alloca bytes) = room_is (IsSo false) (has_room r (granules_for bytes)) (λ z c. absurd c) (λ c. refl)
  op_so p r h rs depth used block (op.Load w from) = on_value_is (IsSo (is_gated gated id)) (operand p rs from) _ (λ z c. absurd c)
      (λ a e. on_place_is (IsSo (is_gated gated id)) a (bytes_of w) _ (λ z c. absurd c) (λ q k c. refl))
  op_so p r h rs depth used block (op.Store w v at) = on_value_is (IsSo (is_gated gated id)) (operand p rs v) _ (λ z c. absurd c)
      (λ n e. on_value_is (IsSo (is_gated gated id)) (operand p rs at) _ (λ z c. absurd c) (λ a f. on_place_is (IsSo (is_gated gated id)) a (bytes_of w) _ (λ z c. absurd c) (λ q k c. refl)))
  op_so p r h rs depth used block (op.CallLibrary k args) = known_so p r.thread h rs k args
  op_so p r h rs depth used block o = on_all_is (IsSo false) p rs (Rattle.pg_run_thread.specs.Operands.operands_of o) _ (λ z c. absurd c) (λ c. refl)

module _ (gated : List InstrId) (p : NumberedProgram) (s : State) (t : ℕ) (h : Bool) (f : Frame) (fs : List Frame) (n : ℕ) (x : Instr) (here : Here p s t h f fs n x)
    (can : CanStep (op_action p (own_memory (running t h f fs n)) h f.registers (length (f ∷ fs)) (total (f ∷ fs)) x.block.0 x.op)) where
  next_is : next p (running t h f fs n) ≡ op_action p (own_memory (running t h f fs n)) h f.registers (length (f ∷ fs)) (total (f ∷ fs)) x.block.0 x.op
  unfolding next
  next_is = rw here.instr refl

  id_is : id_of (running t h f fs n) ≡ f.place
  unfolding id_of
  id_is = refl

  pub event_here : local_event gated p (local_at s t) ≡ op_asks (is_gated gated f.place) (length (f ∷ fs)) x.op
  event_here = ap (λ (o : Option LocalState). local_event gated p (begun_in o)) here.local
      ∙ ap (λ (i : ℕ). is_event_at gated i (next p (running t h f fs n))) id_is ∙ ap (is_event_at gated f.place) next_is
      ∙ op_so gated f.place p (own_memory (running t h f fs n)) h f.registers (length (f ∷ fs)) (total (f ∷ fs)) x.block.0 x.op can

module _ (gated : List InstrId) (p : NumberedProgram) (input : List ℤ) (t : ℕ) (s0 s : State) (known : List (List Symbolic)) (b : Both p input t s0 s known)
    (can0 : CanStep (op_action p (own_memory (running t b.h b.f0 b.fs0 b.n)) b.h b.f0.registers (length (b.f0 ∷ b.fs0)) (total (b.f0 ∷ b.fs0)) b.x.block.0 b.x.op))
    (can : CanStep (op_action p (own_memory (running t b.h b.f b.fs b.n)) b.h b.f.registers (length (b.f ∷ b.fs)) (total (b.f ∷ b.fs)) b.x.block.0 b.x.op)) where
  pub events_alike : local_event gated p (local_at s t) ≡ local_event gated p (local_at s0 t)
  events_alike = event_here gated p s t b.h b.f b.fs b.n b.x b.here can
      ∙ ap (λ (i : ℕ). op_asks (is_gated gated i) (length (b.f ∷ b.fs)) b.x.op) b.top.place
      ∙ ap (λ (m : ℕ). op_asks (is_gated gated b.f0.place) (suc m) b.x.op) (depth_like input b.fs0 b.more b.fs b.rest)
      ∙ sym (event_here gated p s0 t b.h b.f0 b.fs0 b.n b.x b.here0 can0)
