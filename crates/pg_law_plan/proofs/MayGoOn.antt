-- Where a unit's thread may go on in the reference run, it may in a state in which it stands alike and the objects are the same, or
-- traps there.
use Rattle.std.proofs.Common.{◌≡◌, ℕ, ℤ, Bool, true, false, List, ◌∷◌, length, Option, Some, None, refl, sym, ap, ◌∙◌, subst}
use Rattle.std.specs.Prelude.{◌==◌, ◌||◌, is_some, if◌then◌else◌}
use Rattle.std.proofs.lemmas.Bool.{true≢false}
use Rattle.pg_num.specs.Numbers.{divided}
use Rattle.pg_num.specs.Places.{ByteRange}
use Rattle.pg_ir.specs.declared.instr.Op.{Op}
use Rattle.pg_ir.specs.declared.instr.Op.TheVariants as op
use Rattle.pg_ir.specs.declared.library_call.LibraryCall.{LibraryCall}
use Rattle.pg_ir.specs.declared.library_call.LibraryCall.TheVariants as known
use Rattle.pg_ir.specs.declared.request.Request.{Request}
use Rattle.pg_ir.specs.declared.request.Request.TheVariants as requests
use Rattle.pg_ir.specs.declared.request.TrapName.{TrapName}
use Rattle.pg_ir.specs.declared.value.Value.{Value}
use Rattle.pg_ir.specs.Edges.{case_of}
use Rattle.pg_ir.specs.Program.{NumberedProgram}
use Rattle.pg_ir.specs.WellFormed.{granules_for}
use Rattle.pg_run_objects.specs.Sync as sync
use Rattle.pg_run_thread.specs.declared.action.Action.{Action}
use Rattle.pg_run_thread.specs.declared.action.Action.TheVariants as actions
use Rattle.pg_run_thread.specs.declared.thread_memory.ThreadMemory.{ThreadMemory}
use Rattle.pg_run_thread.specs.Compute.{chosen}
use Rattle.pg_run_thread.specs.LocalState.{own_memory}
use Rattle.pg_run_thread.specs.Operands.{operand, operands_of}
use Rattle.pg_run_thread.specs.States.{CanStep}
use Rattle.pg_run_thread.specs.Step.{bytes_of, create_action, has_room, library_action, op_action, return_action, returning_action, total}
use Rattle.pg_run_trace.specs.Kinds.{kind_of}
use Rattle.pg_run.specs.MachineStep.{is_ended, may_act, trap_of}
use Rattle.pg_run.specs.State.{State, next_of}
use Rattle.pg_run.proofs.Actions.{call_is, create_is, divided_is, edge_is, join_is, number_is, on_all_is, on_place_is, on_value_is, room_is}
use Rattle.pg_run.proofs.StepsBegin.{ready_acts}
use Rattle.pg_law_effects.proofs.ThreadLimits.{IsAllowed, did_allowed}
use Rattle.pg_slice_rules.specs.Known.{Taken, thread_of}
use Rattle.pg_slice_rules.specs.Moments.{thread_in}
use Rattle.pg_law_plan.specs.Units.{PlanUnit, ReferenceRun, reference_of}
use Rattle.pg_law_plan.proofs.EachUnit.{IsUnit}
use Rattle.pg_law_plan.proofs.AskedNumbers as facing
use Rattle.pg_law_plan.proofs.StepChecks.{IsGood}
use Rattle.pg_law_plan.proofs.ThreadAtInstruction.{can_step, running}
use Rattle.pg_law_plan.proofs.AlikeThreads.{Both}
use Rattle.pg_law_plan.proofs.LikeRequests.{is_checked, same_action}
use Rattle.pg_law_plan.proofs.RequestEffects.{is_start, names_object, shape_of}

-- ---- actions that wait for nothing

-- whatever the objects, it may be done unless it traps
abbrev pub IsFree : Action → Type 0
IsFree a = (s : State) (t : ℕ) → trap_of s t a ≡ None → may_act s t a ≡ true

or_true : (b : Bool) → (b || true) ≡ true
or_true true = refl
or_true false = refl

free_exit : (n : ℕ) (b : Bool) → IsFree (actions.Event (requests.Exit n b))
unfolding sync.ready
free_exit n b s t e = or_true (is_some (sync.check s.sync t (requests.Exit n b)))

free_create : (r : Rattle.pg_num.specs.Places.ByteRange) (f n : ℕ) → IsFree (actions.Event (requests.Create r f n))
unfolding sync.ready
free_create r f n s t e = or_true (is_some (sync.check s.sync t (requests.Create r f n)))

free_out : (b : Bool) (n : ℕ) → IsFree (actions.Event (requests.Out n b))
unfolding sync.ready
free_out b n s t e = or_true (is_some (sync.check s.sync t (requests.Out n b)))

free_putchar : (n : ℕ) → IsFree (actions.Event (requests.Putchar n))
unfolding sync.ready
free_putchar n s t e = or_true (is_some (sync.check s.sync t (requests.Putchar n)))

free_trap : (name : Rattle.pg_ir.specs.declared.request.TrapName.TrapName) → IsFree (actions.Trap name)
free_trap name s t e = absurd cc

free_local : IsFree actions.Local
free_local s t e = refl

known_free : (p : NumberedProgram) (t : ℕ) (h : Bool) (rs : List (Option ℕ)) (k : LibraryCall) (args : List Value) → is_checked k ≡ false → IsFree (library_action p t h rs k args)
known_free p t h rs known.PgIn args c = number_is IsFree p rs args _ free_trap (λ n s t e. refl)
known_free p t h rs known.PgInLen args c = λ s t e. refl
known_free p t h rs known.PgOut args c = number_is IsFree p rs args _ free_trap (free_out true)
known_free p t h rs known.PgPrint args c = number_is IsFree p rs args _ free_trap (free_out false)
known_free p t h rs known.Putchar args c = number_is IsFree p rs args _ free_trap free_putchar
known_free p t h rs known.Malloc args c = number_is IsFree p rs args _ free_trap (λ n. free_local)
known_free p t h rs known.Free args c = number_is IsFree p rs args _ free_trap (λ n. free_local)
known_free p t h rs known.PthreadCreate args c = create_is IsFree p rs args free_trap (λ r f n k j. free_create r f n)
known_free p t h rs known.PthreadExit args c = number_is IsFree p rs args _ free_trap (λ n. free_exit _ false)
known_free p t h rs k args c = absurd cc

return_free : (depth n : ℕ) → IsFree (return_action depth n)
return_free depth n = go (depth == 1)
  where
    go : (b : Bool) → IsFree (if b then actions.Event (requests.Exit n true) else actions.Local)
    go true = free_exit n true
    go false = free_local

returning_free : (p : NumberedProgram) (rs : List (Option ℕ)) (depth : ℕ) (v : Option Value) → IsFree (returning_action p rs depth v)
returning_free p rs depth None = return_free depth 0
returning_free p rs depth (Some v) = on_value_is IsFree (operand p rs v) _ free_trap (λ n e. return_free depth n)

abbrev waits : Op → Bool
waits (op.CallLibrary k args) = is_checked k
waits (op.Phi from) = true
waits o = false

op_free : (p : NumberedProgram) (r : ThreadMemory) (h : Bool) (rs : List (Option ℕ)) (depth used block : ℕ) (o : Op) → waits o ≡ false → IsFree (op_action p r h rs depth used block o)
op_free p r h rs depth used block (op.Divide d w a b) n = on_value_is IsFree (operand p rs a) _ free_trap
    (λ m e. on_value_is IsFree (operand p rs b) _ free_trap (λ n f. divided_is IsFree (divided d w m n) free_trap free_local))
op_free p r h rs depth used block (op.Phi from) n = absurd (true≢false n)
op_free p r h rs depth used block (op.Br to) n = edge_is IsFree p rs block to.0 free_trap free_local
op_free p r h rs depth used block (op.CondBr v a b) n = on_value_is IsFree (operand p rs v) _ free_trap (λ n e. edge_is IsFree p rs block (chosen n a.0 b.0) free_trap free_local)
op_free p r h rs depth used block (op.Switch w on other cases) n = on_value_is IsFree (operand p rs on) _ free_trap (λ n e. edge_is IsFree p rs block (case_of cases other.0 n) free_trap free_local)
op_free p r h rs depth used block (op.Call g args) n = on_all_is IsFree p rs args _ free_trap (call_is IsFree p g depth used free_trap free_local)
op_free p r h rs depth used block (op.Ret v) n = returning_free p rs depth v
op_free p r h rs depth used block op.Unreachable n = free_trap _
op_free p r h rs depth used block (op.Alloca bytes) n = room_is IsFree (has_room r (granules_for bytes)) free_trap free_local
op_free p r h rs depth used block (op.Load w from) n = on_value_is IsFree (operand p rs from) _ free_trap (λ a e. on_place_is IsFree a (bytes_of w) _ free_trap (λ q k s t e. refl))
op_free p r h rs depth used block (op.Store w v at) n = on_value_is IsFree (operand p rs v) _ free_trap
    (λ n e. on_value_is IsFree (operand p rs at) _ free_trap (λ a f. on_place_is IsFree a (bytes_of w) _ free_trap (λ q k s t e. refl)))
op_free p r h rs depth used block (op.CallLibrary k args) n = known_free p r.thread h rs k args n
op_free p r h rs depth used block o n = on_all_is IsFree p rs (operands_of o) _ free_trap free_local

free_open : (s : State) (a : Action) → IsFree a → is_ended a ≡ false
free_open s actions.Ended h = let k : false ≡ true = h s 0 refl in absurd (true≢false (sym k))
free_open s actions.Local h = refl
free_open s (actions.In i) h = refl
free_open s actions.InLen h = refl
free_open s (actions.Load r) h = refl
free_open s (actions.Store r n) h = refl
free_open s (actions.Event r) h = refl
free_open s (actions.Trap name) h = refl

pub can_open : (a : Action) → CanStep a → is_ended a ≡ false
can_open actions.Ended h = absurd h
can_open actions.Local h = refl
can_open (actions.In i) h = refl
can_open actions.InLen h = refl
can_open (actions.Load r) h = refl
can_open (actions.Store r n) h = refl
can_open (actions.Event r) h = refl
can_open (actions.Trap name) h = refl

-- ---- checks on the objects

-- what it asks, if it asks, passes the checks
abbrev pub IsUnchecked : State → ℕ → Action → Type 0
IsUnchecked s t a = (q : Request) → a ≡ actions.Event q → sync.check s.sync t q ≡ None

-- so does each create
abbrev HasRoom : State → ℕ → Type 0
HasRoom s t = (g : ByteRange) (f n : ℕ) → sync.check s.sync t (requests.Create g f n) ≡ None

one_check : (s : State) (t : ℕ) (g : ByteRange) (f n : ℕ) (h : ByteRange) (i m : ℕ) → sync.check s.sync t (requests.Create g f n) ≡ sync.check s.sync t (requests.Create h i m)
unfolding sync.check
one_check s t g f n h i m = refl

asked : (s : State) (t : ℕ) (q : Request) → sync.check s.sync t q ≡ None → IsUnchecked s t (actions.Event q)
asked s t q h v e = let k : q ≡ v = cc in subst (λ (z : Request). sync.check s.sync t z ≡ None) k h

check_exit : (s : State) (t n : ℕ) (b : Bool) → sync.check s.sync t (requests.Exit n b) ≡ None
unfolding sync.check
check_exit s t n b = refl

check_out : (s : State) (t n : ℕ) (b : Bool) → sync.check s.sync t (requests.Out n b) ≡ None
unfolding sync.check
check_out s t n b = refl

check_putchar : (s : State) (t n : ℕ) → sync.check s.sync t (requests.Putchar n) ≡ None
unfolding sync.check
check_putchar s t n = refl

create_shape : (p : NumberedProgram) (rs : List (Option ℕ)) (args : List Value) → CanStep (create_action p rs args)
    → (g : ByteRange) × (f : ℕ) × (n : ℕ) × (create_action p rs args ≡ actions.Event (requests.Create g f n))
create_shape p rs args = create_is (λ (a : Action). CanStep a → (g : ByteRange) × (f : ℕ) × (n : ℕ) × (a ≡ actions.Event (requests.Create g f n))) p rs args (λ name c. absurd c)
    (λ g f n k j c. (g, f, n, refl))

module _ (s : State) (t : ℕ) where
  trap_unchecked : (name : TrapName) → IsUnchecked s t (actions.Trap name)
  trap_unchecked name q e = absurd cc

  local_unchecked : IsUnchecked s t actions.Local
  local_unchecked q e = absurd cc

  known_unchecked : (p : NumberedProgram) (u : ℕ) (h : Bool) (rs : List (Option ℕ)) (k : LibraryCall) (args : List Value) → is_checked k ≡ false → (k ≡ known.PthreadCreate → HasRoom s t)
      → IsUnchecked s t (library_action p u h rs k args)
  known_unchecked p u h rs known.PgIn args c room = number_is (IsUnchecked s t) p rs args _ trap_unchecked (λ n q e. absurd cc)
  known_unchecked p u h rs known.PgInLen args c room = λ q e. absurd cc
  known_unchecked p u h rs known.PgOut args c room = number_is (IsUnchecked s t) p rs args _ trap_unchecked (λ n. asked s t (requests.Out n true) (check_out s t n true))
  known_unchecked p u h rs known.PgPrint args c room = number_is (IsUnchecked s t) p rs args _ trap_unchecked (λ n. asked s t (requests.Out n false) (check_out s t n false))
  known_unchecked p u h rs known.Putchar args c room = number_is (IsUnchecked s t) p rs args _ trap_unchecked (λ n. asked s t (requests.Putchar n) (check_putchar s t n))
  known_unchecked p u h rs known.Malloc args c room = number_is (IsUnchecked s t) p rs args _ trap_unchecked (λ n. local_unchecked)
  known_unchecked p u h rs known.Free args c room = number_is (IsUnchecked s t) p rs args _ trap_unchecked (λ n. local_unchecked)
  known_unchecked p u h rs known.PthreadCreate args c room = create_is (IsUnchecked s t) p rs args trap_unchecked (λ g f n k j. asked s t (requests.Create g f n) (room refl g f n))
  known_unchecked p u h rs known.PthreadExit args c room = number_is (IsUnchecked s t) p rs args _ trap_unchecked (λ n. asked s t (requests.Exit _ false) (check_exit s t _ false))
  known_unchecked p u h rs k args c room = absurd cc

  return_unchecked : (depth n : ℕ) → IsUnchecked s t (return_action depth n)
  return_unchecked depth n = go (depth == 1)
    where
      go : (b : Bool) → IsUnchecked s t (if b then actions.Event (requests.Exit n true) else actions.Local)
      go true = asked s t (requests.Exit n true) (check_exit s t n true)
      go false = local_unchecked

  returning_unchecked : (p : NumberedProgram) (rs : List (Option ℕ)) (depth : ℕ) (v : Option Value) → IsUnchecked s t (returning_action p rs depth v)
  returning_unchecked p rs depth None = return_unchecked depth 0
  returning_unchecked p rs depth (Some v) = on_value_is (IsUnchecked s t) (operand p rs v) _ trap_unchecked (λ n e. return_unchecked depth n)

  op_unchecked : (p : NumberedProgram) (r : ThreadMemory) (h : Bool) (rs : List (Option ℕ)) (depth used block : ℕ) (o : Op) → waits o ≡ false
      → ((args : List Value) → o ≡ op.CallLibrary known.PthreadCreate args → HasRoom s t) → IsUnchecked s t (op_action p r h rs depth used block o)
  op_unchecked p r h rs depth used block (op.Divide d w a b) n room = on_value_is (IsUnchecked s t) (operand p rs a) _ trap_unchecked
      (λ m e. on_value_is (IsUnchecked s t) (operand p rs b) _ trap_unchecked (λ n f. divided_is (IsUnchecked s t) (divided d w m n) trap_unchecked local_unchecked))
  op_unchecked p r h rs depth used block (op.Phi from) n room = absurd (true≢false n)
  op_unchecked p r h rs depth used block (op.Br to) n room = edge_is (IsUnchecked s t) p rs block to.0 trap_unchecked local_unchecked
  op_unchecked p r h rs depth used block (op.CondBr v a b) n room = on_value_is (IsUnchecked s t) (operand p rs v) _ trap_unchecked
      (λ n e. edge_is (IsUnchecked s t) p rs block (chosen n a.0 b.0) trap_unchecked local_unchecked)
  op_unchecked p r h rs depth used block (op.Switch w on other cases) n room =
      on_value_is (IsUnchecked s t) (operand p rs on) _ trap_unchecked (λ n e. edge_is (IsUnchecked s t) p rs block (case_of cases other.0 n) trap_unchecked local_unchecked)
  op_unchecked p r h rs depth used block (op.Call g args) n room = on_all_is (IsUnchecked s t) p rs args _ trap_unchecked (call_is (IsUnchecked s t) p g depth used trap_unchecked local_unchecked)
  op_unchecked p r h rs depth used block (op.Ret v) n room = returning_unchecked p rs depth v
  op_unchecked p r h rs depth used block op.Unreachable n room = trap_unchecked _
  op_unchecked p r h rs depth used block (op.Alloca bytes) n room = room_is (IsUnchecked s t) (has_room r (granules_for bytes)) trap_unchecked local_unchecked
  op_unchecked p r h rs depth used block (op.Load w from) n room = on_value_is (IsUnchecked s t) (operand p rs from) _ trap_unchecked
      (λ a e. on_place_is (IsUnchecked s t) a (bytes_of w) _ trap_unchecked (λ g k q j. absurd cc))
  op_unchecked p r h rs depth used block (op.Store w v at) n room = on_value_is (IsUnchecked s t) (operand p rs v) _ trap_unchecked
      (λ n e. on_value_is (IsUnchecked s t) (operand p rs at) _ trap_unchecked (λ a f. on_place_is (IsUnchecked s t) a (bytes_of w) _ trap_unchecked (λ g k q j. absurd cc)))
  op_unchecked p r h rs depth used block (op.CallLibrary k args) n room = known_unchecked p r.thread h rs k args n (λ e. room args (ap (λ (j : LibraryCall). op.CallLibrary j args) e))
  op_unchecked p r h rs depth used block o n room = on_all_is (IsUnchecked s t) p rs (operands_of o) _ trap_unchecked local_unchecked

-- by the objects alone
pub may_same : (s z : State) (t : ℕ) (a : Action) → s.sync ≡ z.sync → may_act s t a ≡ may_act z t a
may_same s z t (actions.Event r) e = ap (λ (y : sync.Sync). sync.ready y t r) e
may_same s z t actions.Ended e = refl
may_same s z t actions.Local e = refl
may_same s z t (actions.In i) e = refl
may_same s z t actions.InLen e = refl
may_same s z t (actions.Load r) e = refl
may_same s z t (actions.Store r n) e = refl
may_same s z t (actions.Trap name) e = refl

-- ---- calls of which each operand is checked

abbrev AsksPlain : Action → Type 0
AsksPlain a = CanStep a → (r : Request) × (a ≡ actions.Event r) × (is_start (kind_of r) ≡ false)

module _ (p : NumberedProgram) (t : ℕ) (h : Bool) (rs : List (Option ℕ)) (args : List Value) where
  named : (k : LibraryCall) → names_object k ≡ true → AsksPlain (library_action p t h rs k args)
  named k n c = let s = shape_of p t h rs k args n c in (s.0, s.1, s.2.start)

  checked_asks : (k : LibraryCall) → is_checked k ≡ true → AsksPlain (library_action p t h rs k args)
  checked_asks known.PthreadJoin c = join_is AsksPlain p rs args (λ z c. absurd c) (λ n c. (requests.Join n None, refl, refl)) (λ n r k c. (requests.Join n (Some r), refl, refl))
  checked_asks known.PthreadMutexInit c = named known.PthreadMutexInit refl
  checked_asks known.PthreadMutexLock c = named known.PthreadMutexLock refl
  checked_asks known.PthreadMutexTrylock c = named known.PthreadMutexTrylock refl
  checked_asks known.PthreadMutexUnlock c = named known.PthreadMutexUnlock refl
  checked_asks known.PthreadMutexDestroy c = named known.PthreadMutexDestroy refl
  checked_asks known.PthreadCondInit c = named known.PthreadCondInit refl
  checked_asks known.PthreadCondWait c = named known.PthreadCondWait refl
  checked_asks known.PthreadCondSignal c = named known.PthreadCondSignal refl
  checked_asks known.PthreadCondBroadcast c = named known.PthreadCondBroadcast refl
  checked_asks known.PthreadCondDestroy c = named known.PthreadCondDestroy refl
  checked_asks known.PthreadBarrierInit c = named known.PthreadBarrierInit refl
  checked_asks known.PthreadBarrierWait c = named known.PthreadBarrierWait refl
  checked_asks known.PthreadBarrierDestroy c = named known.PthreadBarrierDestroy refl
  checked_asks k c = absurd cc

module _ (r : ReferenceRun) (d : Taken) (input : List ℤ) (u : PlanUnit) (st : State) (unit : IsUnit r d u)
    (b : Both r.program input (thread_in u.seen.moment) u.state st (thread_of u.seen.before (thread_in u.seen.moment)).calls)
    (good : IsGood (reference_of r) d input u.seen) where
  -- what holds of the reference run's action holds of the thread's, where it holds of each whose operands aren't all checked
  by_op : (P : Action → Type 0) → P (next_of r.program u.state (thread_in u.seen.moment)) →
      ((o : Op) → b.x.op ≡ o → waits o ≡ false
      → P (op_action r.program (own_memory (running (thread_in u.seen.moment) b.h b.f b.fs b.n)) b.h b.f.registers (length (b.f ∷ b.fs)) (total (b.f ∷ b.fs)) b.x.block.0 o)) →
      P (next_of r.program st (thread_in u.seen.moment))
  by_op P same free = go b.x.op refl
    where
      plain : (o : Op) → b.x.op ≡ o → waits o ≡ false → P (next_of r.program st (thread_in u.seen.moment))
      plain o e w = subst P (sym (facing.act_at r d input u st unit b good o e)) (free o e w)

      called : (k : LibraryCall) (args : List Value) → b.x.op ≡ op.CallLibrary k args → (c : Bool) → is_checked k ≡ c → P (next_of r.program st (thread_in u.seen.moment))
      called k args e false c = plain (op.CallLibrary k args) e c
      called k args e true c =
          let p = r.program in
          let t = thread_in u.seen.moment in
          let q = checked_asks p t b.h b.f0.registers args k c (facing.can0_at r d input u st unit b good (op.CallLibrary k args) e) in
          let act0 = facing.act0_at r d input u st unit b good (op.CallLibrary k args) e in
          let same1 : next_of p st t ≡ next_of p u.state t =
          facing.act_at r d input u st unit b good (op.CallLibrary k args) e
          ∙ same_action p t b.h b.f.registers b.f0.registers args k c (facing.checked_same r d input u st unit b good k args e q.0 (act0 ∙ q.1) q.2) ∙ sym act0 in
          subst P (sym same1) same

      go : (o : Op) → b.x.op ≡ o → P (next_of r.program st (thread_in u.seen.moment))
      go (op.CallLibrary k args) e = called k args e (is_checked k) refl
      go (op.Phi from) e = absurd (facing.can0_at r d input u st unit b good (op.Phi from) e)
      go (op.Add w a b) e = plain (op.Add w a b) e refl
      go (op.Sub w a b) e = plain (op.Sub w a b) e refl
      go (op.Mul w a b) e = plain (op.Mul w a b) e refl
      go (op.Divide z w a b) e = plain (op.Divide z w a b) e refl
      go (op.Shift z w a b) e = plain (op.Shift z w a b) e refl
      go (op.Bits z w a b) e = plain (op.Bits z w a b) e refl
      go (op.Compare z w a b) e = plain (op.Compare z w a b) e refl
      go (op.Trunc from to v) e = plain (op.Trunc from to v) e refl
      go (op.Zext from to v) e = plain (op.Zext from to v) e refl
      go (op.Sext from to v) e = plain (op.Sext from to v) e refl
      go (op.PtrToInt from to v) e = plain (op.PtrToInt from to v) e refl
      go (op.IntToPtr from to v) e = plain (op.IntToPtr from to v) e refl
      go (op.Select c a b) e = plain (op.Select c a b) e refl
      go (op.Gep base indices) e = plain (op.Gep base indices) e refl
      go (op.Br to) e = plain (op.Br to) e refl
      go (op.CondBr c a b) e = plain (op.CondBr c a b) e refl
      go (op.Switch w on other cs) e = plain (op.Switch w on other cs) e refl
      go (op.Call g args) e = plain (op.Call g args) e refl
      go (op.Ret v) e = plain (op.Ret v) e refl
      go (op.Alloca bytes) e = plain (op.Alloca bytes) e refl
      go (op.Load w from) e = plain (op.Load w from) e refl
      go (op.Store w v at) e = plain (op.Store w v at) e refl
      go op.Unreachable e = plain op.Unreachable e refl

  -- its thread hasn't ended
  pub open_here : is_ended (next_of r.program st (thread_in u.seen.moment)) ≡ false
  open_here = by_op (λ (a : Action). is_ended a ≡ false)
      (can_open (next_of r.program u.state (thread_in u.seen.moment)) (can_step r.gated r.program r.input u.state u.seen.moment.did.did unit.met.takes))
      (λ o e w. free_open st _ (op_free r.program (own_memory (running (thread_in u.seen.moment) b.h b.f b.fs b.n)) b.h b.f.registers (length (b.f ∷ b.fs)) (total (b.f ∷ b.fs)) b.x.block.0 o w))

  -- and may go on, unless it traps
  pub may_here : st.sync ≡ u.state.sync → trap_of st (thread_in u.seen.moment) (next_of r.program st (thread_in u.seen.moment)) ≡ None
      → may_act st (thread_in u.seen.moment) (next_of r.program st (thread_in u.seen.moment)) ≡ true
  may_here same trap = by_op (λ (a : Action). trap_of st (thread_in u.seen.moment) a ≡ None → may_act st (thread_in u.seen.moment) a ≡ true)
      (λ n. may_same st u.state (thread_in u.seen.moment) (next_of r.program u.state (thread_in u.seen.moment)) same
      ∙ ready_acts r.program u.state (thread_in u.seen.moment) unit.met.takes.is_ready)
      (λ o e w n. op_free r.program (own_memory (running (thread_in u.seen.moment) b.h b.f b.fs b.n)) b.h b.f.registers (length (b.f ∷ b.fs)) (total (b.f ∷ b.fs)) b.x.block.0 o w st
      (thread_in u.seen.moment) n) trap

  -- no check on the objects fails
  pub unchecked_here : st.sync ≡ u.state.sync → IsUnchecked st (thread_in u.seen.moment) (next_of r.program st (thread_in u.seen.moment))
  unchecked_here same = by_op (IsUnchecked st (thread_in u.seen.moment))
      (λ q k. ap (λ (y : sync.Sync). sync.check y (thread_in u.seen.moment) q) same ∙ subst (IsAllowed u.state (thread_in u.seen.moment)) k allowed0)
      (λ o e w. op_unchecked st (thread_in u.seen.moment) r.program (own_memory (running (thread_in u.seen.moment) b.h b.f b.fs b.n)) b.h b.f.registers (length (b.f ∷ b.fs))
      (total (b.f ∷ b.fs)) b.x.block.0 o w (λ args k. room args (e ∙ k)))
    where
      allowed0 : IsAllowed u.state (thread_in u.seen.moment) (next_of r.program u.state (thread_in u.seen.moment))
      allowed0 = did_allowed r.gated r.program r.input u.state unit.met.takes.after (thread_in u.seen.moment) u.seen.moment.did.did unit.met.takes.is_step

      room : (args : List Value) → b.x.op ≡ op.CallLibrary known.PthreadCreate args → HasRoom st (thread_in u.seen.moment)
      room args e =
          let c = create_shape r.program b.f0.registers args (facing.can0_at r d input u st unit b good (op.CallLibrary known.PthreadCreate args) e) in
          let k = subst (IsAllowed u.state (thread_in u.seen.moment)) (facing.act0_at r d input u st unit b good (op.CallLibrary known.PthreadCreate args) e ∙ c.3) allowed0 in
          λ g f n. one_check st (thread_in u.seen.moment) g f n c.0 c.1 c.2 ∙ ap (λ (y : sync.Sync). sync.check y (thread_in u.seen.moment) (requests.Create c.0 c.1 c.2)) same ∙ k
