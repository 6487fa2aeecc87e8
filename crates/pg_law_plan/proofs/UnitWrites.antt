-- A single step whose unit is a store of its recorded place, exact or an event, writes all that the unit may write.
use Rattle.std.specs.List.{list_any}
use Rattle.std.specs.Prelude.{if◌then◌else◌, is_some, nat_lt, slice_get}
use Rattle.std.proofs.Common.{◌∷◌, ◌++◌, ◌-◌, ◌==◌, ◌∙◌, ◌≡◌, Bool, List, None, Option, Some, [], ap, false, length, refl, sym, true, ℕ, ℤ}
use Rattle.std.proofs.lemmas.Bool.{true≢false}
use Rattle.pg_num.specs.Numbers.{divided}
use Rattle.pg_num.specs.declared.layout.TheConstants.{MEMORY_BYTES}
use Rattle.pg_ir.specs.Edges.{case_of}
use Rattle.pg_ir.specs.Program.{NumberedProgram}
use Rattle.pg_ir.specs.WellFormed.{IsProgram, granules_for}
use Rattle.pg_ir.specs.declared.ids.InstrId.{InstrId}
use Rattle.pg_ir.specs.declared.instr.Instr.{Instr}
use Rattle.pg_ir.specs.declared.instr.Op.{Op}
use Rattle.pg_ir.specs.declared.instr.Op.TheVariants as op
use Rattle.pg_ir.specs.declared.library_call.LibraryCall.{LibraryCall}
use Rattle.pg_ir.specs.declared.library_call.LibraryCall.TheVariants as known
use Rattle.pg_ir.specs.declared.request.Request.{Request}
use Rattle.pg_ir.specs.declared.request.Request.TheVariants as requests
use Rattle.pg_ir.specs.declared.value.Value.{Value}
use Rattle.pg_run_thread.specs.Compute.{chosen}
use Rattle.pg_run_thread.specs.LocalState.{fresh, own_memory}
use Rattle.pg_run_thread.specs.Operands.{operand, operands_of}
use Rattle.pg_run_thread.specs.Step.{bytes_of, has_room, library_action, op_action, return_action, total}
use Rattle.pg_run_thread.specs.declared.action.Action.{Action}
use Rattle.pg_run_thread.specs.declared.action.Action.TheVariants as actions
use Rattle.pg_run_thread.specs.declared.thread_memory.ThreadMemory.{ThreadMemory}
use Rattle.pg_run_trace.specs.Steps.{access_in}
use Rattle.pg_run_trace.specs.declared.step.Access.{Access}
use Rattle.pg_run_trace.specs.declared.step.Step.{Step}
use Rattle.pg_run_trace.specs.declared.step.StepKind.{StepKind}
use Rattle.pg_run.specs.MachineStep.{instr_told, kind_told, number_in, operands_in}
use Rattle.pg_run.specs.State.{State, instr_of, next_of}
use Rattle.pg_run.proofs.Actions.{barrier_init_is, call_is, divided_is, edge_is, either, init_is, number_is, object_is, on_all_is, on_place_is, on_value_is, room_is, wait_is}
use Rattle.pg_run.proofs.StepsBegin.{next_is}
use Rattle.pg_slice_rules.specs.Known.{Taken}
use Rattle.pg_slice_rules.specs.Moments.{thread_in}
use Rattle.pg_slice_rules.specs.Rules.{kind_in, footprints_in}
use Rattle.pg_law_effects.specs.Effect.{answer_to, effect_of}
use Rattle.pg_law_effects.specs.Views.{cell_at, cell_written, is_thread, objects_of}
use Rattle.pg_law_runs.proofs.StepRules.{next_fresh}
use Rattle.pg_law_plan.specs.Likes.{IsCellLike}
use Rattle.pg_law_plan.specs.Units.{PlanUnit, ReferenceRun, access_touch, cell_known, is_event_at, is_instance, is_placed_access, is_written_in, reads_cell, reference_of, word_written, writes_cell}
use Rattle.pg_law_plan.proofs.BranchFits.{act0_at}
use Rattle.pg_law_plan.proofs.StepChecks.{IsGood}
use Rattle.pg_law_plan.proofs.ThreadAtInstruction.{running}
use Rattle.pg_law_plan.proofs.LocalStepFits.{Pair}
use Rattle.pg_law_plan.proofs.MetSteps.{told_met}
use Rattle.pg_law_plan.proofs.AlikeThreads.{Beginning}
use Rattle.pg_law_plan.proofs.StoreFits.{store_as, stored_writes}
use Rattle.pg_law_plan.proofs.CreateAndJoinFit.{create_as, created_writes, join_as, joined_writes}

-- ---- what is told of actions that store nothing

abbrev writes_by : Option Access → Bool
writes_by None = false
writes_by (Some a) = a.writes

abbrev asks_store : Request → Bool
asks_store (requests.Create r f n) = true
asks_store (requests.Join n (Some r)) = true
asks_store q = false

abbrev stores : Action → Bool
stores (actions.Store r n) = true
stores (actions.Event q) = asks_store q
stores a = false

abbrev IsQuiet : Action → Type 0
IsQuiet a = stores a ≡ false

quiet_known : (p : NumberedProgram) (t : ℕ) (h : Bool) (rs : List (Option ℕ)) (k : LibraryCall) (args : List Value) → (k ≡ known.PthreadCreate → ⊥) → (k ≡ known.PthreadJoin → ⊥)
    → IsQuiet (library_action p t h rs k args)
quiet_known p t h rs known.PgIn args c j = number_is IsQuiet p rs args _ (λ n. refl) (λ n. refl)
quiet_known p t h rs known.PgInLen args c j = refl
quiet_known p t h rs known.PgOut args c j = number_is IsQuiet p rs args _ (λ n. refl) (λ n. refl)
quiet_known p t h rs known.PgPrint args c j = number_is IsQuiet p rs args _ (λ n. refl) (λ n. refl)
quiet_known p t h rs known.Putchar args c j = number_is IsQuiet p rs args _ (λ n. refl) (λ n. refl)
quiet_known p t h rs known.Malloc args c j = number_is IsQuiet p rs args _ (λ n. refl) (λ n. refl)
quiet_known p t h rs known.Free args c j = number_is IsQuiet p rs args _ (λ n. refl) (λ n. refl)
quiet_known p t h rs known.PthreadCreate args c j = absurd (c refl)
quiet_known p t h rs known.PthreadJoin args c j = absurd (j refl)
quiet_known p t h rs known.PthreadExit args c j = number_is IsQuiet p rs args _ (λ n. refl) (λ n. refl)
quiet_known p t h rs known.PthreadMutexInit args c j = init_is IsQuiet p rs args _ (λ n. refl) (λ n. refl)
quiet_known p t h rs known.PthreadMutexLock args c j = object_is IsQuiet p rs args _ (λ n. refl) (λ n. refl)
quiet_known p t h rs known.PthreadMutexTrylock args c j = object_is IsQuiet p rs args _ (λ n. refl) (λ n. refl)
quiet_known p t h rs known.PthreadMutexUnlock args c j = object_is IsQuiet p rs args _ (λ n. refl) (λ n. refl)
quiet_known p t h rs known.PthreadMutexDestroy args c j = object_is IsQuiet p rs args _ (λ n. refl) (λ n. refl)
quiet_known p t h rs known.PthreadCondInit args c j = init_is IsQuiet p rs args _ (λ n. refl) (λ n. refl)
quiet_known p t h rs known.PthreadCondWait args c j = wait_is IsQuiet p h rs args (λ n. refl) (λ c m. by h c m)
  where
    by : (b : Bool) (c m : ℕ) → IsQuiet (actions.Event (Rattle.pg_run_thread.specs.Step.wait_request b c m))
    by true c m = refl
    by false c m = refl
quiet_known p t h rs known.PthreadCondSignal args c j = object_is IsQuiet p rs args _ (λ n. refl) (λ n. refl)
quiet_known p t h rs known.PthreadCondBroadcast args c j = object_is IsQuiet p rs args _ (λ n. refl) (λ n. refl)
quiet_known p t h rs known.PthreadCondDestroy args c j = object_is IsQuiet p rs args _ (λ n. refl) (λ n. refl)
quiet_known p t h rs known.PthreadBarrierInit args c j = barrier_init_is IsQuiet p rs args (λ n. refl) (λ o n. refl)
quiet_known p t h rs known.PthreadBarrierWait args c j = object_is IsQuiet p rs args _ (λ n. refl) (λ n. by h n)
  where
    by : (b : Bool) (n : ℕ) → IsQuiet (actions.Event (Rattle.pg_run_thread.specs.Step.barrier_request b n))
    by true n = refl
    by false n = refl
quiet_known p t h rs known.PthreadBarrierDestroy args c j = object_is IsQuiet p rs args _ (λ n. refl) (λ n. refl)

quiet_return : (depth n : ℕ) → IsQuiet (return_action depth n)
quiet_return depth n = either IsQuiet (depth == 1) _ _ refl refl

-- neither a store nor a call of a known function
abbrev is_other : Op → Bool
is_other (op.Store w v at) = false
is_other (op.CallLibrary k args) = false
is_other o = true

quiet_op : (p : NumberedProgram) (r : ThreadMemory) (h : Bool) (rs : List (Option ℕ)) (depth used block : ℕ) (o : Op) → is_other o ≡ true → IsQuiet (op_action p r h rs depth used block o)
quiet_op p r h rs depth used block (op.Divide d w a b) n = on_value_is IsQuiet (operand p rs a) _ (λ n. refl)
    (λ m e. on_value_is IsQuiet (operand p rs b) _ (λ n. refl) (λ n f. divided_is IsQuiet (divided d w m n) (λ n. refl) refl))
quiet_op p r h rs depth used block (op.Phi from) n = refl
quiet_op p r h rs depth used block (op.Br to) n = edge_is IsQuiet p rs block to.0 (λ n. refl) refl
quiet_op p r h rs depth used block (op.CondBr v a b) n = on_value_is IsQuiet (operand p rs v) _ (λ n. refl) (λ n e. edge_is IsQuiet p rs block (chosen n a.0 b.0) (λ n. refl) refl)
quiet_op p r h rs depth used block (op.Switch w on other cases) n = on_value_is IsQuiet (operand p rs on) _ (λ n. refl)
    (λ n e. edge_is IsQuiet p rs block (case_of cases other.0 n) (λ n. refl) refl)
quiet_op p r h rs depth used block (op.Call g args) n = on_all_is IsQuiet p rs args _ (λ n. refl) (call_is IsQuiet p g depth used (λ n. refl) refl)
quiet_op p r h rs depth used block (op.Ret None) n = quiet_return depth 0
quiet_op p r h rs depth used block (op.Ret (Some v)) n = on_value_is IsQuiet (operand p rs v) _ (λ n. refl) (λ n e. quiet_return depth n)
quiet_op p r h rs depth used block op.Unreachable n = refl
quiet_op p r h rs depth used block (op.Alloca bytes) n = room_is IsQuiet (has_room r (granules_for bytes)) (λ n. refl) refl
quiet_op p r h rs depth used block (op.Load w from) n = on_value_is IsQuiet (operand p rs from) _ (λ n. refl) (λ a e. on_place_is IsQuiet a (bytes_of w) _ (λ n. refl) (λ q k. refl))
quiet_op p r h rs depth used block (op.Store w v at) n = absurd (true≢false (sym n))
quiet_op p r h rs depth used block (op.CallLibrary k args) n = absurd (true≢false (sym n))
quiet_op p r h rs depth used block o n = on_all_is IsQuiet p rs (operands_of o) _ (λ n. refl) refl

told_quiet : (ns : List ℕ) (number : ℕ) (o : Option Instr) → writes_by (access_in (instr_told ns number o)) ≡ false
told_quiet ns number None = refl
told_quiet ns number (Some x) = go x.op
  where
    known_quiet : (k : LibraryCall) → writes_by (access_in (Rattle.pg_run.specs.MachineStep.library_told ns number k)) ≡ false
    known_quiet known.Malloc = refl
    known_quiet k = refl

    go : (o : Op) → writes_by (access_in (Rattle.pg_run.specs.MachineStep.op_told ns number o)) ≡ false
    go (op.CondBr c a b) = refl
    go (op.Switch w on other cases) = refl
    go (op.Alloca bytes) = refl
    go (op.CallLibrary k args) = known_quiet k
    go o = refl

asked_quiet : (gated : List InstrId) (p : NumberedProgram) (s : State) (t : ℕ) (ns : List ℕ) (answer number : ℕ) (q : Request) → asks_store q ≡ false
    → writes_by (access_in (kind_told gated p s t ns answer number (actions.Event q))) ≡ false
asked_quiet gated p s t ns answer number (requests.Create r f n) e = absurd (true≢false e)
asked_quiet gated p s t ns answer number (requests.Join n (Some r)) e = absurd (true≢false e)
asked_quiet gated p s t ns answer number (requests.Join n None) e = refl
asked_quiet gated p s t ns answer number q e = refl

action_quiet : (gated : List InstrId) (p : NumberedProgram) (s : State) (t : ℕ) (ns : List ℕ) (answer number : ℕ) (a : Action) → IsQuiet a
    → writes_by (access_in (kind_told gated p s t ns answer number a)) ≡ false
action_quiet gated p s t ns answer number actions.Local e = told_quiet ns number (slice_get p.instrs (instr_of s t))
action_quiet gated p s t ns answer number (actions.Load r) e = refl
action_quiet gated p s t ns answer number (actions.Store r n) e = absurd (true≢false e)
action_quiet gated p s t ns answer number (actions.Event q) e = asked_quiet gated p s t ns answer number q e
action_quiet gated p s t ns answer number a e = refl

-- ---- a unit that writes nothing

module _ (r : ReferenceRun) (d : Taken) (u : PlanUnit) (unit : Rattle.pg_law_plan.proofs.EachUnit.IsUnit r d u) (single : is_instance d u.seen ≡ false) where
  no_write : writes_by (access_in (kind_in u.seen)) ≡ false → (c : ℕ) → nat_lt c MEMORY_BYTES ≡ true → writes_cell d u.seen c ≡ false
  no_write e c lt =
      ap (λ (b : Bool). if b then list_any (λ f. is_written_in f c) (access_touch d u.seen.number (access_in (kind_in u.seen)) ++ (if is_instance d u.seen then footprints_in u.seen.region else []))
      else is_thread (word_written (thread_in u.seen.moment) (kind_in u.seen)) (c - MEMORY_BYTES)) lt
      ∙ ap (λ (b : Bool). list_any (λ f. is_written_in f c) (access_touch d u.seen.number (access_in (kind_in u.seen)) ++ (if b then footprints_in u.seen.region else []))) single
      ∙ go (access_in (kind_in u.seen)) e
    where
      go : (o : Option Access) → writes_by o ≡ false → list_any (λ f. is_written_in f c) (access_touch d u.seen.number o ++ []) ≡ false
      go None k = refl
      go (Some a) k = rw k refl

  abbrev answer : ℕ
  answer = answer_to r.input u.state (thread_in u.seen.moment) (next_of r.program u.state (thread_in u.seen.moment))

  quiet_here : IsQuiet (next_of r.program u.state (thread_in u.seen.moment)) → writes_by (access_in (kind_in u.seen)) ≡ false
  quiet_here e =
      let o = slice_get u.state.locals (thread_in u.seen.moment) in
      ap (λ (z : Step). writes_by (access_in z.kind)) (told_met r d u.seen u.state unit.met)
      ∙ action_quiet r.gated r.program u.state (thread_in u.seen.moment) (operands_in r.program o) answer (number_in r.program o answer) (next_of r.program u.state (thread_in u.seen.moment)) e

  quiet_writes : IsQuiet (next_of r.program u.state (thread_in u.seen.moment)) → (c : ℕ) → nat_lt c MEMORY_BYTES ≡ true → writes_cell d u.seen c ≡ true → (P : Type 0) → P
  quiet_writes e c lt h P = absurd (true≢false (sym h ∙ no_write (quiet_here e) c lt))

  -- a thread that begins stores nothing
  pub start_writes : (st : State) → Beginning r.program (thread_in u.seen.moment) u.state st → (c : ℕ) → nat_lt c MEMORY_BYTES ≡ true → writes_cell d u.seen c ≡ true
      → (P : Type 0) → P
  start_writes st b c lt h P = quiet_writes (ap stores
      (next_is r.program u.state (thread_in u.seen.moment) (fresh r.program (thread_in u.seen.moment) b.function) b.first ∙ next_fresh r.program (thread_in u.seen.moment) b.function)) c lt h P

-- ---- a step of a run

module _ (r : ReferenceRun) (d : Taken) (input : List ℤ) (program : IsProgram r.program) (u : PlanUnit) (st : State) (moves : ℕ → ℕ) (y : Step) (q : Pair r d input u st moves y)
    (good : IsGood (reference_of r) d input u.seen) (objects : is_event_at u.seen ≡ true → objects_of u.state ≡ objects_of st) (words : length u.seen.before.words ≡ length u.state.locals)
    (cells : (c : ℕ) → reads_cell d u.seen c ≡ true → IsCellLike input (cell_known u.seen.before c) (cell_at st c)) where
  abbrev WritesAll : Type 0
  WritesAll = (c : ℕ) → nat_lt c MEMORY_BYTES ≡ true → writes_cell d u.seen c ≡ true → is_some (cell_written (effect_of r.program input st y.thread.0) c) ≡ true

  quiet_all : IsQuiet (next_of r.program u.state (thread_in u.seen.moment)) → WritesAll
  quiet_all e c lt h = quiet_writes r d u q.unit q.plain e c lt h (is_some (cell_written (effect_of r.program input st y.thread.0) c) ≡ true)

  known_writes : (k : LibraryCall) (args : List Value) → q.both.x.op ≡ op.CallLibrary k args → WritesAll
  known_writes known.PthreadCreate args e = create_as r d input program u st moves y q good objects words args e WritesAll
      (λ R g n0 n1 w0 place act0 act word0 number. created_writes r d input program u st moves y q good objects words args e R g n0 n1 w0 place act0 act word0 number)
  known_writes known.PthreadJoin args e = join_as r d input program u st moves y q good objects words cells args e WritesAll
      (λ n act0 act. quiet_all (ap stores act0))
      (λ n R w0 place act0 act word0. joined_writes r d input program u st moves y q good objects words cells args e n R w0 place act0 act word0)
  known_writes k args e = quiet_all (ap stores (act0_at r d input u st moves y q (op.CallLibrary k args) e)
      ∙ quiet_known r.program (thread_in u.seen.moment) q.both.h q.both.f0.registers k args (λ w. absurd cc) (λ w. absurd cc))

  placed_op : (o : Op) → q.both.x.op ≡ o → is_placed_access d u.seen ≡ true → WritesAll
  placed_op (op.Store w v at) e p = store_as r d input program u st moves y q good objects w v at e WritesAll
      (λ a n value writes act0 act. stored_writes r d input program u st moves y q good objects a w v at e n value writes act0 act
      (sym (ap (λ (k : StepKind). Rattle.pg_law_plan.specs.Units.is_placed_in d u.seen.number (access_in k)) a.kind0) ∙ p))
  placed_op (op.CallLibrary k args) e p = known_writes k args e
  placed_op o e p = quiet_all (ap stores (act0_at r d input u st moves y q o e)
      ∙ quiet_op r.program (own_memory (running (thread_in u.seen.moment) q.both.h q.both.f0 q.both.fs0 q.both.n)) q.both.h q.both.f0.registers (length (q.both.f0 ∷ q.both.fs0))
      (total (q.both.f0 ∷ q.both.fs0)) q.both.x.block.0 o refl)

  pub placed_writes : is_placed_access d u.seen ≡ true → WritesAll
  placed_writes p = placed_op q.both.x.op refl p
