-- A thread inside an instance is at no event, and hasn't ended.
use Rattle.std.proofs.Common.{◌≡◌, ℕ, ◌<◌, ◌^◌, ◌*◌, ◌==◌, Bool, true, false, List, [], ◌∷◌, Option, Some, None, refl, sym, ap, ◌∙◌, subst, inl, inr}
use Rattle.std.specs.Prelude.{slice_get}
use Rattle.std.proofs.lemmas.Bool.{true≢false}
use Rattle.pg_num.specs.Numbers.{divided}
use Rattle.pg_num.specs.Places.{ByteRange}
use Rattle.pg_ir.specs.declared.ids.InstrId.{InstrId}
use Rattle.pg_ir.specs.declared.instr.Instr.{Instr}
use Rattle.pg_ir.specs.declared.instr.Op.{Op}
use Rattle.pg_ir.specs.declared.instr.Op.TheVariants as op
use Rattle.pg_ir.specs.declared.library_call.LibraryCall.{LibraryCall}
use Rattle.pg_ir.specs.declared.library_call.LibraryCall.TheVariants as known
use Rattle.pg_ir.specs.declared.value.Value.{Value}
use Rattle.pg_ir.specs.Edges.{case_of, is_phi}
use Rattle.pg_ir.specs.Program.{NumberedProgram}
use Rattle.pg_ir.specs.WellFormed.{granules_for}
use Rattle.pg_run_thread.specs.declared.action.Action.{Action}
use Rattle.pg_run_thread.specs.declared.action.Action.TheVariants as actions
use Rattle.pg_run_thread.specs.declared.thread_memory.ThreadMemory.{ThreadMemory}
use Rattle.pg_run_thread.specs.Compute.{chosen}
use Rattle.pg_run_thread.specs.LocalState.{Frame, LocalState}
use Rattle.pg_run_thread.specs.Operands.{operand, operands_of}
use Rattle.pg_run_thread.specs.States.{AreFramesOf, StandsAt}
use Rattle.pg_run_thread.specs.Step.{bytes_of, frames_action, has_room, instr_action, library_action, next, op_action, return_action}
use Rattle.pg_run_thread.specs.Told.{id_of}
use Rattle.pg_run.specs.MachineStep.{is_ended, is_gated}
use Rattle.pg_run.specs.State.{State}
use Rattle.pg_run.proofs.Actions.{barrier_init_is, call_is, create_is, divided_is, edge_is, either, init_is, join_is, number_is, object_is, on_all_is, on_place_is, on_value_is, room_is, wait_is}
use Rattle.pg_law_effects.specs.Views.{local_at}
use Rattle.pg_law_instances.specs.Inside.{Instance, IsAtBranch, Stands}
use Rattle.pg_law_instances.specs.Leads.{KeepsCells}
use Rattle.pg_law_instances.specs.Stays.{IsWithinExtent}
use Rattle.pg_law_instances.proofs.StepsInside.{GoesFrom, Proceeds, branch_proceeds, inside_proceeds}
use Rattle.pg_law_plan.specs.pg_law_runs.Deeds.{is_event_at, local_event}

-- ---- an instruction that is no phi has an action

abbrev IsOpen : Action → Type 0
IsOpen a = is_ended a ≡ false

open_known : (p : NumberedProgram) (t : ℕ) (h : Bool) (rs : List (Option ℕ)) (k : LibraryCall) (args : List Value) → IsOpen (library_action p t h rs k args)
open_known p t h rs known.PgIn args = number_is IsOpen p rs args _ (λ n. refl) (λ n. refl)
open_known p t h rs known.PgInLen args = refl
open_known p t h rs known.PgOut args = number_is IsOpen p rs args _ (λ n. refl) (λ n. refl)
open_known p t h rs known.PgPrint args = number_is IsOpen p rs args _ (λ n. refl) (λ n. refl)
open_known p t h rs known.Putchar args = number_is IsOpen p rs args _ (λ n. refl) (λ n. refl)
open_known p t h rs known.Malloc args = number_is IsOpen p rs args _ (λ n. refl) (λ n. refl)
open_known p t h rs known.Free args = number_is IsOpen p rs args _ (λ n. refl) (λ n. refl)
open_known p t h rs known.PthreadCreate args = create_is IsOpen p rs args (λ n. refl) (λ r f n k j. refl)
open_known p t h rs known.PthreadJoin args = join_is IsOpen p rs args (λ n. refl) (λ n. refl) (λ n r k. refl)
open_known p t h rs known.PthreadExit args = number_is IsOpen p rs args _ (λ n. refl) (λ n. refl)
open_known p t h rs known.PthreadMutexInit args = init_is IsOpen p rs args _ (λ n. refl) (λ n. refl)
open_known p t h rs known.PthreadMutexLock args = object_is IsOpen p rs args _ (λ n. refl) (λ n. refl)
open_known p t h rs known.PthreadMutexTrylock args = object_is IsOpen p rs args _ (λ n. refl) (λ n. refl)
open_known p t h rs known.PthreadMutexUnlock args = object_is IsOpen p rs args _ (λ n. refl) (λ n. refl)
open_known p t h rs known.PthreadMutexDestroy args = object_is IsOpen p rs args _ (λ n. refl) (λ n. refl)
open_known p t h rs known.PthreadCondInit args = init_is IsOpen p rs args _ (λ n. refl) (λ n. refl)
open_known p t h rs known.PthreadCondWait args = wait_is IsOpen p h rs args (λ n. refl) (λ c m. refl)
open_known p t h rs known.PthreadCondSignal args = object_is IsOpen p rs args _ (λ n. refl) (λ n. refl)
open_known p t h rs known.PthreadCondBroadcast args = object_is IsOpen p rs args _ (λ n. refl) (λ n. refl)
open_known p t h rs known.PthreadCondDestroy args = object_is IsOpen p rs args _ (λ n. refl) (λ n. refl)
open_known p t h rs known.PthreadBarrierInit args = barrier_init_is IsOpen p rs args (λ n. refl) (λ o n. refl)
open_known p t h rs known.PthreadBarrierWait args = object_is IsOpen p rs args _ (λ n. refl) (λ n. refl)
open_known p t h rs known.PthreadBarrierDestroy args = object_is IsOpen p rs args _ (λ n. refl) (λ n. refl)

open_return : (depth n : ℕ) → IsOpen (return_action depth n)
open_return depth n = either IsOpen (depth == 1) _ _ refl refl

open_op : (p : NumberedProgram) (r : ThreadMemory) (h : Bool) (rs : List (Option ℕ)) (depth used block : ℕ) (o : Op) → is_phi o ≡ false → IsOpen (op_action p r h rs depth used block o)
open_op p r h rs depth used block (op.Divide d w a b) n = on_value_is IsOpen (operand p rs a) _ (λ n. refl)
    (λ m e. on_value_is IsOpen (operand p rs b) _ (λ n. refl) (λ n f. divided_is IsOpen (divided d w m n) (λ n. refl) refl))
open_op p r h rs depth used block (op.Phi from) n = absurd (true≢false n)
open_op p r h rs depth used block (op.Br to) n = edge_is IsOpen p rs block to.0 (λ n. refl) refl
open_op p r h rs depth used block (op.CondBr v a b) n = on_value_is IsOpen (operand p rs v) _ (λ n. refl) (λ n e. edge_is IsOpen p rs block (chosen n a.0 b.0) (λ n. refl) refl)
open_op p r h rs depth used block (op.Switch w on other cases) n = on_value_is IsOpen (operand p rs on) _ (λ n. refl) (λ n e. edge_is IsOpen p rs block (case_of cases other.0 n) (λ n. refl) refl)
open_op p r h rs depth used block (op.Call g args) n = on_all_is IsOpen p rs args _ (λ n. refl) (call_is IsOpen p g depth used (λ n. refl) refl)
open_op p r h rs depth used block (op.Ret None) n = open_return depth 0
open_op p r h rs depth used block (op.Ret (Some v)) n = on_value_is IsOpen (operand p rs v) _ (λ n. refl) (λ n e. open_return depth n)
open_op p r h rs depth used block op.Unreachable n = refl
open_op p r h rs depth used block (op.Alloca bytes) n = room_is IsOpen (has_room r (granules_for bytes)) (λ n. refl) refl
open_op p r h rs depth used block (op.Load w from) n = on_value_is IsOpen (operand p rs from) _ (λ n. refl) (λ a e. on_place_is IsOpen a (bytes_of w) _ (λ n. refl) (λ q k. refl))
open_op p r h rs depth used block (op.Store w v at) n = on_value_is IsOpen (operand p rs v) _ (λ n. refl)
    (λ n e. on_value_is IsOpen (operand p rs at) _ (λ n. refl) (λ a f. on_place_is IsOpen a (bytes_of w) _ (λ n. refl) (λ q k. refl)))
open_op p r h rs depth used block (op.CallLibrary k args) n = open_known p r.thread h rs k args
open_op p r h rs depth used block o n = on_all_is IsOpen p rs (operands_of o) _ (λ n. refl) refl

open_instr : (p : NumberedProgram) (l : LocalState) (f : Frame) (fs : List Frame) (o : Option Instr) → StandsAt p f.function o → IsOpen (instr_action p l f fs o)
open_instr p l f fs None h = absurd h
open_instr p l f fs (Some x) h = open_op p _ l.halfway f.registers _ _ x.block.0 x.op h.1

open_next : (p : NumberedProgram) (l : LocalState) → l.begun ≡ true → AreFramesOf p l.frames → (l.frames ≡ [] → ⊥) → IsOpen (next p l)
unfolding next
open_next p l b are some = go l.begun l.frames b are some
  where
    go : (b : Bool) (fs : List Frame) → b ≡ true → AreFramesOf p fs → (fs ≡ [] → ⊥) → IsOpen (frames_action p l b fs)
    go b [] e a n = absurd (n refl)
    go false (f ∷ fs) e a n = absurd (true≢false (sym e))
    go true (f ∷ fs) e a n = open_instr p l f fs (slice_get p.instrs f.place) a.0.place

-- ---- inside

event_no : (I : Instance) (gated : List InstrId) (m : ByteRange → ℕ) (l : LocalState) (a : Action) → ((i : ℕ) → is_gated gated i ≡ I.gated i) → GoesFrom I m l a
    → is_event_at gated (id_of l) a ≡ false
event_no I gated m l (actions.Load r) g h = g (id_of l) ∙ h.0.plain
event_no I gated m l (actions.Store r n) g h = g (id_of l) ∙ h.0.plain
event_no I gated m l (actions.Event r) g h = absurd h
event_no I gated m l actions.Local g h = refl
event_no I gated m l (actions.In i) g h = refl
event_no I gated m l actions.InLen g h = refl
event_no I gated m l (actions.Trap name) g h = refl
event_no I gated m l actions.Ended g h = refl

-- thread t is left in s where it is at no event and hasn't ended
pub record IsLeft (gated : List InstrId) (p : NumberedProgram) (t : ℕ) (s : State) : Type 0 where
  pub local : LocalState
  pub is_local : local_at s t ≡ Some local
  pub goes_on : is_ended (next p local) ≡ false
  pub quiet : local_event gated p (Some local) ≡ false

pub left_on : (gated : List InstrId) (p : NumberedProgram) (t : ℕ) (s z : State) → IsLeft gated p t s → local_at s t ≡ local_at z t → IsLeft gated p t z
left_on gated p t s z h e = record { local = h.local; is_local = sym e ∙ h.is_local; goes_on = h.goes_on; quiet = h.quiet }

module _ (I : Instance) (gated : List InstrId) (m : ByteRange → ℕ) (l : LocalState) (branch : IsAtBranch I) (gates : (i : ℕ) → is_gated gated i ≡ I.gated i)
    (cells : KeepsCells I.recorded I.memory m) (small : (r : ByteRange) → m r < 2 ^ (8 * r.bytes)) (within : IsWithinExtent I l) where
  proceeds : Proceeds I m l
  proceeds = go within
    where
      go : IsWithinExtent I l → Proceeds I m l
      go (inl e) = subst (Proceeds I m) (sym e) (branch_proceeds I m branch)
      go (inr i) = inside_proceeds I m l branch cells small i

  pub begun_within : l.begun ≡ true
  begun_within = go within
    where
      go : IsWithinExtent I l → l.begun ≡ true
      go (inl e) = ap (λ (k : LocalState). k.begun) e ∙ branch.begun
      go (inr i) = i.begun

  some_frame : l.frames ≡ [] → ⊥
  some_frame n = go within
    where
      no_cons : (f : Frame) (fs : List Frame) → f ∷ fs ≡ [] → ⊥
      no_cons f fs e = absurd cc

      go : IsWithinExtent I l → ⊥
      go (inl e) = no_cons I.frame I.lower (sym branch.frames ∙ sym (ap (λ (k : LocalState). k.frames) e) ∙ n)
      go (inr i) = subst (Stands I) n i.stands

  pub left_within : (t : ℕ) (s : State) → local_at s t ≡ Some l → AreFramesOf I.program l.frames → IsLeft gated I.program t s
  left_within t s e are = record { local = l; is_local = e; goes_on = open_next I.program l begun_within are some_frame; quiet = event_no I gated m l (next I.program l) gates proceeds.goes }
