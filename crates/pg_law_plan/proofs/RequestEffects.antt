-- What requests of known functions do to the calls of a thread and to cells, function by function.
use Rattle.std.proofs.Common.{◌≡◌, ℕ, Bool, true, false, List, Option, Some, None, refl, ap}
use Rattle.std.specs.Prelude.{if◌then◌else◌}
use Rattle.pg_ir.specs.declared.instr.Instr.{Instr}
use Rattle.pg_ir.specs.declared.library_call.LibraryCall.{LibraryCall}
use Rattle.pg_ir.specs.declared.library_call.LibraryCall.TheVariants as known
use Rattle.pg_ir.specs.declared.request.Request.{Request}
use Rattle.pg_ir.specs.declared.request.Request.TheVariants as requests
use Rattle.pg_ir.specs.declared.value.Value.{Value}
use Rattle.pg_ir.specs.Program.{NumberedProgram}
use Rattle.pg_ir.specs.Signatures.{returned_by}
use Rattle.pg_run_objects.specs.declared.reply.Reply.{Reply}
use Rattle.pg_run_thread.specs.declared.action.Action.{Action}
use Rattle.pg_run_thread.specs.declared.action.Action.TheVariants as actions
use Rattle.pg_run_thread.specs.declared.thread_memory.ThreadMemory.{ThreadMemory}
use Rattle.pg_run_thread.specs.LocalState.{Frame}
use Rattle.pg_run_thread.specs.States.{CanStep}
use Rattle.pg_run_thread.specs.Step.{barrier_request, cut_to, library_action, library_after, library_heap, library_number, wait_request}
use Rattle.pg_run_thread.specs.Told.{library_own}
use Rattle.pg_run_trace.specs.declared.turn.TurnKind.{TurnKind}
use Rattle.pg_run_trace.specs.declared.turn.TurnKind.TheVariants as turns
use Rattle.pg_run_trace.specs.declared.step.Event.{Event}
use Rattle.pg_run_trace.specs.Kinds.{kind_of}
use Rattle.pg_run.specs.MachineStep.{answer_of, write_told}
use Rattle.pg_run.specs.State.{State}
use Rattle.pg_run.proofs.Actions.{barrier_init_is, init_is, object_is, wait_is}
use Rattle.pg_law_effects.specs.Effect.{request_write, thread_made, word_asked, word_left}
use Rattle.pg_slice_rules.specs.Known.{after_event, set_symbolic, with_top}
use Rattle.pg_slice_rules.specs.Moments.{Moment}
use Rattle.pg_slice_rules.specs.Rules.{checked_of, equal_to, event_needs}
use Rattle.pg_slice_rules.specs.SymbolicValues.{Symbolic, always}
use Rattle.pg_law_plan.specs.Units.{event_word_read, event_word_written}

abbrev pub is_start : TurnKind → Bool
is_start turns.Start = true
is_start k = false

-- a request of function k that touches no cell: the thread goes on with the answer in its register, or stays where it is
pub record Shape (k : LibraryCall) (h : Bool) (r : Request) : Type 0 where
  pub goes : Bool
  pub frames : (fs next_fs : List Frame) → library_after h k fs next_fs ≡ (if goes then next_fs else fs)
  pub symbolics : (p : NumberedProgram) (m : Moment) (e : Event) (argument : Symbolic) (x : Instr) (calls : List (List Symbolic))
      → after_event p m e (kind_of r) argument x calls ≡ (if goes then with_top (set_symbolic x.result (always e.reply)) calls else calls)
  pub own : goes ≡ true → (n : ℕ) → library_own h k n ≡ n
  pub number : (z : ThreadMemory) (n a : ℕ) → library_number z k n a ≡ cut_to (returned_by k) a
  pub heap : (z : ThreadMemory) (n : ℕ) → library_heap z k n ≡ z.heap
  pub start : is_start (kind_of r) ≡ false
  pub answer : (s : State) (t : ℕ) (reply : Reply) → answer_of s t reply r ≡ reply.value
  pub told : (s : State) (ns : List ℕ) → write_told s ns r ≡ None
  pub write : (s : State) → request_write s r ≡ None
  pub word : word_left r ≡ None
  pub made : (p : NumberedProgram) (s : State) → thread_made p s r ≡ None
  pub asked : (t : ℕ) → word_asked t r ≡ None
  pub read : (t : ℕ) (e : Event) → e.write ≡ None → event_word_read t e (kind_of r) ≡ None
  pub written : (t : ℕ) (e : Event) → event_word_written t e (kind_of r) ≡ None

abbrev a_shape : (k : LibraryCall) (h : Bool) (r : Request) (goes : Bool) → ((fs next_fs : List Frame) → library_after h k fs next_fs ≡ (if goes then next_fs else fs))
    → ((p : NumberedProgram) (m : Moment) (e : Event) (argument : Symbolic) (x : Instr) (calls : List (List Symbolic))
    → after_event p m e (kind_of r) argument x calls ≡ (if goes then with_top (set_symbolic x.result (always e.reply)) calls else calls))
    → (goes ≡ true → (n : ℕ) → library_own h k n ≡ n) → ((z : ThreadMemory) (n a : ℕ) → library_number z k n a ≡ cut_to (returned_by k) a)
    → ((z : ThreadMemory) (n : ℕ) → library_heap z k n ≡ z.heap) → is_start (kind_of r) ≡ false
    → ((s : State) (t : ℕ) (reply : Reply) → answer_of s t reply r ≡ reply.value) → ((s : State) (ns : List ℕ) → write_told s ns r ≡ None)
    → ((s : State) → request_write s r ≡ None) → word_left r ≡ None → ((p : NumberedProgram) (s : State) → thread_made p s r ≡ None) → ((t : ℕ) → word_asked t r ≡ None)
    → ((t : ℕ) (e : Event) → e.write ≡ None → event_word_read t e (kind_of r) ≡ None) → ((t : ℕ) (e : Event) → event_word_written t e (kind_of r) ≡ None) → Shape k h r
a_shape k h r goes frames symbolics own number heap start answer told write word made asked read written = record {
  goes = goes;
  frames = frames;
  symbolics = symbolics;
  own = own;
  number = number;
  heap = heap;
  start = start;
  answer = answer;
  told = told;
  write = write;
  word = word;
  made = made;
  asked = asked;
  read = read;
  written = written;
}

shape_MutexInit : (h : Bool) (o : ℕ) → Shape known.PthreadMutexInit h (requests.MutexInit o)
shape_MutexInit h o = a_shape known.PthreadMutexInit h (requests.MutexInit o) true (λ f g. refl)
    (λ p m e a x c. refl) (λ g n. refl) (λ z n a. refl) (λ z n. refl) refl (λ s t y. refl) (λ s n. refl) (λ s. refl) refl (λ p s. refl) (λ t. refl) (λ t e w. refl) (λ t e. refl)

shape_Lock : (h : Bool) (o : ℕ) → Shape known.PthreadMutexLock h (requests.Lock o)
shape_Lock h o = a_shape known.PthreadMutexLock h (requests.Lock o) true (λ f g. refl)
    (λ p m e a x c. refl) (λ g n. refl) (λ z n a. refl) (λ z n. refl) refl (λ s t y. refl) (λ s n. refl) (λ s. refl) refl (λ p s. refl) (λ t. refl) (λ t e w. refl) (λ t e. refl)

shape_Trylock : (h : Bool) (o : ℕ) → Shape known.PthreadMutexTrylock h (requests.Trylock o)
shape_Trylock h o = a_shape known.PthreadMutexTrylock h (requests.Trylock o) true (λ f g. refl)
    (λ p m e a x c. refl) (λ g n. refl) (λ z n a. refl) (λ z n. refl) refl (λ s t y. refl) (λ s n. refl) (λ s. refl) refl (λ p s. refl) (λ t. refl) (λ t e w. refl) (λ t e. refl)

shape_Unlock : (h : Bool) (o : ℕ) → Shape known.PthreadMutexUnlock h (requests.Unlock o)
shape_Unlock h o = a_shape known.PthreadMutexUnlock h (requests.Unlock o) true (λ f g. refl)
    (λ p m e a x c. refl) (λ g n. refl) (λ z n a. refl) (λ z n. refl) refl (λ s t y. refl) (λ s n. refl) (λ s. refl) refl (λ p s. refl) (λ t. refl) (λ t e w. refl) (λ t e. refl)

shape_MutexDestroy : (h : Bool) (o : ℕ) → Shape known.PthreadMutexDestroy h (requests.MutexDestroy o)
shape_MutexDestroy h o = a_shape known.PthreadMutexDestroy h (requests.MutexDestroy o) true (λ f g. refl)
    (λ p m e a x c. refl) (λ g n. refl) (λ z n a. refl) (λ z n. refl) refl (λ s t y. refl) (λ s n. refl) (λ s. refl) refl (λ p s. refl) (λ t. refl) (λ t e w. refl) (λ t e. refl)

shape_CondInit : (h : Bool) (o : ℕ) → Shape known.PthreadCondInit h (requests.CondInit o)
shape_CondInit h o = a_shape known.PthreadCondInit h (requests.CondInit o) true (λ f g. refl)
    (λ p m e a x c. refl) (λ g n. refl) (λ z n a. refl) (λ z n. refl) refl (λ s t y. refl) (λ s n. refl) (λ s. refl) refl (λ p s. refl) (λ t. refl) (λ t e w. refl) (λ t e. refl)

shape_Signal : (h : Bool) (o : ℕ) → Shape known.PthreadCondSignal h (requests.Signal o)
shape_Signal h o = a_shape known.PthreadCondSignal h (requests.Signal o) true (λ f g. refl)
    (λ p m e a x c. refl) (λ g n. refl) (λ z n a. refl) (λ z n. refl) refl (λ s t y. refl) (λ s n. refl) (λ s. refl) refl (λ p s. refl) (λ t. refl) (λ t e w. refl) (λ t e. refl)

shape_Broadcast : (h : Bool) (o : ℕ) → Shape known.PthreadCondBroadcast h (requests.Broadcast o)
shape_Broadcast h o = a_shape known.PthreadCondBroadcast h (requests.Broadcast o) true (λ f g. refl)
    (λ p m e a x c. refl) (λ g n. refl) (λ z n a. refl) (λ z n. refl) refl (λ s t y. refl) (λ s n. refl) (λ s. refl) refl (λ p s. refl) (λ t. refl) (λ t e w. refl) (λ t e. refl)

shape_CondDestroy : (h : Bool) (o : ℕ) → Shape known.PthreadCondDestroy h (requests.CondDestroy o)
shape_CondDestroy h o = a_shape known.PthreadCondDestroy h (requests.CondDestroy o) true (λ f g. refl)
    (λ p m e a x c. refl) (λ g n. refl) (λ z n a. refl) (λ z n. refl) refl (λ s t y. refl) (λ s n. refl) (λ s. refl) refl (λ p s. refl) (λ t. refl) (λ t e w. refl) (λ t e. refl)

shape_BarrierDestroy : (h : Bool) (o : ℕ) → Shape known.PthreadBarrierDestroy h (requests.BarrierDestroy o)
shape_BarrierDestroy h o = a_shape known.PthreadBarrierDestroy h (requests.BarrierDestroy o) true (λ f g. refl)
    (λ p m e a x c. refl) (λ g n. refl) (λ z n a. refl) (λ z n. refl) refl (λ s t y. refl) (λ s n. refl) (λ s. refl) refl (λ p s. refl) (λ t. refl) (λ t e w. refl) (λ t e. refl)

shape_BarrierInit : (h : Bool) (o n : ℕ) → Shape known.PthreadBarrierInit h (requests.BarrierInit o n)
shape_BarrierInit h o n = a_shape known.PthreadBarrierInit h (requests.BarrierInit o n) true (λ f g. refl)
    (λ p m e a x c. refl) (λ g n. refl) (λ z n a. refl) (λ z n. refl) refl (λ s t y. refl) (λ s n. refl) (λ s. refl) refl (λ p s. refl) (λ t. refl) (λ t e w. refl) (λ t e. refl)

shape_wait : (h : Bool) (c m : ℕ) → Shape known.PthreadCondWait h (wait_request h c m)
shape_wait true c m = a_shape known.PthreadCondWait true (wait_request true c m) true (λ f g. refl)
    (λ p m e a x c. refl) (λ g n. refl) (λ z n a. refl) (λ z n. refl) refl (λ s t y. refl) (λ s n. refl) (λ s. refl) refl (λ p s. refl) (λ t. refl) (λ t e w. refl) (λ t e. refl)
shape_wait false c m = a_shape known.PthreadCondWait false (wait_request false c m) false (λ f g. refl)
    (λ p m e a x c. refl) (λ g n. absurd cc) (λ z n a. refl) (λ z n. refl) refl (λ s t y. refl) (λ s n. refl) (λ s. refl)
    refl (λ p s. refl) (λ t. refl) (λ t e w. refl) (λ t e. refl)

shape_barrier : (h : Bool) (o : ℕ) → Shape known.PthreadBarrierWait h (barrier_request h o)
shape_barrier true o = a_shape known.PthreadBarrierWait true (barrier_request true o) true (λ f g. refl)
    (λ p m e a x c. refl) (λ g n. refl) (λ z n a. refl) (λ z n. refl) refl (λ s t y. refl) (λ s n. refl) (λ s. refl) refl (λ p s. refl) (λ t. refl) (λ t e w. refl) (λ t e. refl)
shape_barrier false o = a_shape known.PthreadBarrierWait false (barrier_request false o) false (λ f g. refl)
    (λ p m e a x c. refl) (λ g n. absurd cc) (λ z n a. refl) (λ z n. refl) refl (λ s t y. refl) (λ s n. refl) (λ s. refl)
    refl (λ p s. refl) (λ t. refl) (λ t e w. refl) (λ t e. refl)

pub shape_out : (h : Bool) (n : ℕ) → Shape known.PgOut h (requests.Out n true)
shape_out h n = a_shape known.PgOut h (requests.Out n true) true (λ f g. refl)
    (λ p m e a x c. refl) (λ g n. refl) (λ z n a. refl) (λ z n. refl) refl (λ s t y. refl) (λ s n. refl) (λ s. refl) refl (λ p s. refl) (λ t. refl) (λ t e w. refl) (λ t e. refl)

pub shape_print : (h : Bool) (n : ℕ) → Shape known.PgPrint h (requests.Out n false)
shape_print h n = a_shape known.PgPrint h (requests.Out n false) true (λ f g. refl)
    (λ p m e a x c. refl) (λ g n. refl) (λ z n a. refl) (λ z n. refl) refl (λ s t y. refl) (λ s n. refl) (λ s. refl) refl (λ p s. refl) (λ t. refl) (λ t e w. refl) (λ t e. refl)

pub shape_join : (h : Bool) (n : ℕ) → Shape known.PthreadJoin h (requests.Join n None)
shape_join h n = a_shape known.PthreadJoin h (requests.Join n None) true (λ f g. refl)
    (λ p m e a x c. refl) (λ g n. refl) (λ z n a. refl) (λ z n. refl) refl (λ s t y. refl) (λ s n. refl) (λ s. refl) refl (λ p s. refl) (λ t. refl)
    (λ t e w. ap (λ o. if Rattle.std.specs.Prelude.is_some o then Some e.object else None) w) (λ t e. refl)

-- functions that name objects, and touch no cell
abbrev pub names_object : LibraryCall → Bool
names_object known.PthreadMutexInit = true
names_object known.PthreadMutexLock = true
names_object known.PthreadMutexTrylock = true
names_object known.PthreadMutexUnlock = true
names_object known.PthreadMutexDestroy = true
names_object known.PthreadCondInit = true
names_object known.PthreadCondWait = true
names_object known.PthreadCondSignal = true
names_object known.PthreadCondBroadcast = true
names_object known.PthreadCondDestroy = true
names_object known.PthreadBarrierInit = true
names_object known.PthreadBarrierWait = true
names_object known.PthreadBarrierDestroy = true
names_object k = false

-- what such a call asks, where it doesn't trap
abbrev pub Asks : LibraryCall → Bool → Action → Type 0
Asks k h a = CanStep a → (r : Request) × (a ≡ actions.Event r) × Shape k h r

pub shape_of : (p : NumberedProgram) (t : ℕ) (h : Bool) (rs : List (Option ℕ)) (k : LibraryCall) (args : List Value) → names_object k ≡ true → Asks k h (library_action p t h rs k args)
shape_of p t h rs known.PthreadMutexInit args n = init_is (Asks known.PthreadMutexInit h) p rs args (λ o. requests.MutexInit o) (λ z c. absurd c)
    (λ o c. (requests.MutexInit o, refl, shape_MutexInit h o))
shape_of p t h rs known.PthreadMutexLock args n = object_is (Asks known.PthreadMutexLock h) p rs args (λ o. requests.Lock o) (λ z c. absurd c) (λ o c. (requests.Lock o, refl, shape_Lock h o))
shape_of p t h rs known.PthreadMutexTrylock args n = object_is (Asks known.PthreadMutexTrylock h) p rs args (λ o. requests.Trylock o) (λ z c. absurd c)
    (λ o c. (requests.Trylock o, refl, shape_Trylock h o))
shape_of p t h rs known.PthreadMutexUnlock args n = object_is (Asks known.PthreadMutexUnlock h) p rs args (λ o. requests.Unlock o) (λ z c. absurd c)
    (λ o c. (requests.Unlock o, refl, shape_Unlock h o))
shape_of p t h rs known.PthreadMutexDestroy args n = object_is (Asks known.PthreadMutexDestroy h) p rs args (λ o. requests.MutexDestroy o) (λ z c. absurd c)
    (λ o c. (requests.MutexDestroy o, refl, shape_MutexDestroy h o))
shape_of p t h rs known.PthreadCondInit args n = init_is (Asks known.PthreadCondInit h) p rs args (λ o. requests.CondInit o) (λ z c. absurd c)
    (λ o c. (requests.CondInit o, refl, shape_CondInit h o))
shape_of p t h rs known.PthreadCondSignal args n = object_is (Asks known.PthreadCondSignal h) p rs args (λ o. requests.Signal o) (λ z c. absurd c)
    (λ o c. (requests.Signal o, refl, shape_Signal h o))
shape_of p t h rs known.PthreadCondBroadcast args n = object_is (Asks known.PthreadCondBroadcast h) p rs args (λ o. requests.Broadcast o) (λ z c. absurd c)
    (λ o c. (requests.Broadcast o, refl, shape_Broadcast h o))
shape_of p t h rs known.PthreadCondDestroy args n = object_is (Asks known.PthreadCondDestroy h) p rs args (λ o. requests.CondDestroy o) (λ z c. absurd c)
    (λ o c. (requests.CondDestroy o, refl, shape_CondDestroy h o))
shape_of p t h rs known.PthreadBarrierDestroy args n = object_is (Asks known.PthreadBarrierDestroy h) p rs args (λ o. requests.BarrierDestroy o) (λ z c. absurd c)
    (λ o c. (requests.BarrierDestroy o, refl, shape_BarrierDestroy h o))
shape_of p t h rs known.PthreadCondWait args n = wait_is (Asks known.PthreadCondWait h) p h rs args (λ z c. absurd c) (λ x m c. (wait_request h x m, refl, shape_wait h x m))
shape_of p t h rs known.PthreadBarrierInit args n = barrier_init_is (Asks known.PthreadBarrierInit h) p rs args (λ z c. absurd c) (λ o m c. (requests.BarrierInit o m, refl, shape_BarrierInit h o m))
shape_of p t h rs known.PthreadBarrierWait args n = object_is (Asks known.PthreadBarrierWait h) p rs args (λ o. barrier_request h o) (λ z c. absurd c)
    (λ o c. (barrier_request h o, refl, shape_barrier h o))
shape_of p t h rs k args n = absurd cc

-- only a start asks for nothing
pub needs_event : (p : NumberedProgram) (x : Rattle.pg_slice_rules.specs.Known.Seen) (i : Instr) (e : Event) (k : TurnKind) → is_start k ≡ false
    → event_needs p x i e k ≡ Rattle.std.specs.Prelude.map (equal_to p x i e) (checked_of i.op)
needs_event p x i e turns.Start h = absurd cc
needs_event p x i e k h = refl
