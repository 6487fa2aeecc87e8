-- Requests that differ in a number that isn't checked do the same to the objects.
use Rattle.std.proofs.Common.{◌≡◌, ℕ, Bool, true, false, List, [], ◌∷◌, ◌++◌, length, Option, Some, None, refl, sym, ap, ◌∙◌}
use Rattle.std.specs.Prelude.{slice_set}
use Rattle.std.specs.List.{AllByRecursion as AllOf}
use Rattle.pg_ir.specs.declared.library_call.LibraryCall.{LibraryCall}
use Rattle.pg_ir.specs.declared.library_call.LibraryCall.TheVariants as known
use Rattle.pg_ir.specs.declared.request.Request.{Request}
use Rattle.pg_ir.specs.declared.request.Request.TheVariants as requests
use Rattle.pg_ir.specs.declared.value.Value.{Value}
use Rattle.pg_ir.specs.Program.{NumberedProgram}
use Rattle.pg_run_objects.specs.Sync as sync
use Rattle.pg_run_thread.specs.declared.action.Action.{Action}
use Rattle.pg_run_thread.specs.declared.action.Action.TheVariants as actions
use Rattle.pg_run_thread.specs.LocalState.{fresh}
use Rattle.pg_run_thread.specs.Operands.{argument}
use Rattle.pg_run_thread.specs.States.{CanStep}
use Rattle.pg_run_thread.specs.Step.{library_action, on_null, on_object, on_place, on_value, top_function}
use Rattle.pg_run_trace.specs.Kinds.{kind_of, object_of}
use Rattle.pg_run.specs.State.{State}
use Rattle.pg_law_effects.specs.Effect.{request_effect, thread_made}
use Rattle.pg_law_effects.specs.Views.{Objects, objects_with, start_made, start_of}
use Rattle.pg_slice_rules.specs.Rules.{checked}
use Rattle.pg_law_plan.proofs.ComputedNumbers.{value_done}

-- a request without the number that isn't checked
abbrev pub core : Request → Request
core (requests.Exit n is_return) = requests.Exit 0 is_return
core (requests.Create r f n) = requests.Create r f 0
core (requests.Out n b) = requests.Out 0 b
core (requests.Putchar n) = requests.Putchar 0
core r = r

pub kind_core : (r : Request) → kind_of r ≡ kind_of (core r)
kind_core (requests.Exit n b) = refl
kind_core (requests.Create r f n) = refl
kind_core (requests.Out n b) = refl
kind_core (requests.Putchar n) = refl
kind_core r = refl

pub object_core : (t n : ℕ) (r : Request) → object_of t n r ≡ object_of t n (core r)
object_core t n (requests.Exit m b) = refl
object_core t n (requests.Create r f m) = refl
object_core t n (requests.Out m b) = refl
object_core t n (requests.Putchar m) = refl
object_core t n r = refl

pub done_core : (y : sync.Sync) (t : ℕ) (r : Request) → (sync.done y t r).0 ≡ (sync.done y t (core r)).0
unfolding sync.done
done_core y t (requests.Exit m b) = refl
done_core y t (requests.Create r f m) = refl
done_core y t (requests.Out m b) = refl
done_core y t (requests.Putchar m) = refl
done_core y t r = refl

-- ---- the threads that are to begin

starts_with : (p : NumberedProgram) (n f : ℕ) → start_of (fresh p n f) ≡ Some f
unfolding fresh
starts_with p n f = refl

abbrev start_core : Request → List (Option ℕ) → List (Option ℕ)
start_core (requests.Create r f n) fs = fs ++ Some f ∷ []
start_core r fs = fs

made_core : (p : NumberedProgram) (s : State) (r : Request) (fs : List (Option ℕ)) → start_made (thread_made p s r) fs ≡ start_core (core r) fs
made_core p s (requests.Create r f n) fs = ap (λ (o : Option ℕ). fs ++ o ∷ []) (starts_with p (length s.locals) f)
made_core p s (requests.Exit n b) fs = refl
made_core p s (requests.Out n b) fs = refl
made_core p s (requests.Putchar n) fs = refl
made_core p s r fs = refl

-- the objects behind a request
objects_core : (p : NumberedProgram) (s : State) (t : ℕ) (r : Request) (o : Objects)
    → objects_with t (request_effect p s t (actions.Event r)) o ≡ record { sync = (sync.done s.sync t (core r)).0; starts = slice_set (start_core (core r) o.starts) t None }
objects_core p s t r o = ap (λ (z : sync.Sync). record { sync = z; starts = slice_set (start_made (thread_made p s r) o.starts) t None }) (done_core s.sync t r)
    ∙ ap (λ (fs : List (Option ℕ)). record { sync = (sync.done s.sync t (core r)).0; starts = slice_set fs t None }) (made_core p s r o.starts)

pub same_objects : (p : NumberedProgram) (s z : State) (t : ℕ) (r q : Request) (o : Objects) → core r ≡ core q → s.sync ≡ z.sync
    → objects_with t (request_effect p s t (actions.Event r)) o ≡ objects_with t (request_effect p z t (actions.Event q)) o
same_objects p s z t r q o c e =
    objects_core p s t r o
    ∙ ap (λ (y : sync.Sync). record { sync = (sync.done y t (core r)).0; starts = slice_set (start_core (core r) o.starts) t None }) e
    ∙ ap (λ (k : Request). record { sync = (sync.done z.sync t k).0; starts = slice_set (start_core k o.starts) t None }) c
    ∙ sym (objects_core p z t q o)

-- ---- arguments that are checked are there

abbrev pub IsGiven : NumberedProgram → List (Option ℕ) → List Value → ℕ → Type 0
IsGiven p rs args i = (n : ℕ) × (argument p rs args i ≡ Some n)

-- functions of which each operand is checked
abbrev pub is_checked : LibraryCall → Bool
is_checked known.PthreadJoin = true
is_checked known.PthreadMutexInit = true
is_checked known.PthreadMutexLock = true
is_checked known.PthreadMutexTrylock = true
is_checked known.PthreadMutexUnlock = true
is_checked known.PthreadMutexDestroy = true
is_checked known.PthreadCondInit = true
is_checked known.PthreadCondWait = true
is_checked known.PthreadCondSignal = true
is_checked known.PthreadCondBroadcast = true
is_checked known.PthreadCondDestroy = true
is_checked known.PthreadBarrierInit = true
is_checked known.PthreadBarrierWait = true
is_checked known.PthreadBarrierDestroy = true
is_checked k = false

module _ (p : NumberedProgram) (t : ℕ) (h : Bool) (rs : List (Option ℕ)) (args : List Value) where
  one_given : (act : ℕ → Action) → CanStep (on_value (argument p rs args 0) act) → IsGiven p rs args 0
  one_given act c = let v = value_done (argument p rs args 0) act c in (v.0, v.1)

  two_given : (act : ℕ → ℕ → Action) → CanStep (on_value (argument p rs args 0) (λ a. on_value (argument p rs args 1) (λ b. act a b))) → IsGiven p rs args 0 × IsGiven p rs args 1
  two_given act c =
      let v = value_done (argument p rs args 0) (λ a. on_value (argument p rs args 1) (λ b. act a b)) c in
      let w = value_done (argument p rs args 1) (λ b. act v.0 b) v.2 in ((v.0, v.1), (w.0, w.1))

  three_given : (act : ℕ → ℕ → ℕ → Action)
      → CanStep (on_value (argument p rs args 0) (λ a. on_value (argument p rs args 1) (λ b. on_value (argument p rs args 2) (λ c. act a b c))))
      → IsGiven p rs args 0 × (IsGiven p rs args 1 × IsGiven p rs args 2)
  three_given act c =
      let v = value_done (argument p rs args 0) (λ a. on_value (argument p rs args 1) (λ b. on_value (argument p rs args 2) (λ c. act a b c))) c in
      let w = value_done (argument p rs args 1) (λ b. on_value (argument p rs args 2) (λ c. act v.0 b c)) v.2 in
      let z = value_done (argument p rs args 2) (λ c. act v.0 w.0 c) w.2 in ((v.0, v.1), ((w.0, w.1), (z.0, z.1)))

  pub given_args : (k : LibraryCall) → CanStep (library_action p t h rs k args) → AllOf (IsGiven p rs args) (checked k)
  given_args known.PthreadCreate c = let g = three_given (λ w a f. on_value (argument p rs args 3) (λ n. on_place w 8 (λ r. on_null a (actions.Event (requests.Create r f n))))) c in
      (g.0, (g.1.0, (g.1.1, tt)))
  given_args known.PthreadJoin c = let g = two_given (λ n w. Rattle.pg_run_thread.specs.Step.join_at n w) c in (g.0, (g.1, tt))
  given_args known.PthreadMutexInit c = let g = two_given (λ w a. on_object w (λ o. on_null a (actions.Event (requests.MutexInit o)))) c in (g.0, (g.1, tt))
  given_args known.PthreadMutexLock c = (one_given (λ w. on_object w (λ o. actions.Event (requests.Lock o))) c, tt)
  given_args known.PthreadMutexTrylock c = (one_given (λ w. on_object w (λ o. actions.Event (requests.Trylock o))) c, tt)
  given_args known.PthreadMutexUnlock c = (one_given (λ w. on_object w (λ o. actions.Event (requests.Unlock o))) c, tt)
  given_args known.PthreadMutexDestroy c = (one_given (λ w. on_object w (λ o. actions.Event (requests.MutexDestroy o))) c, tt)
  given_args known.PthreadCondInit c = let g = two_given (λ w a. on_object w (λ o. on_null a (actions.Event (requests.CondInit o)))) c in (g.0, (g.1, tt))
  given_args known.PthreadCondWait c = let g = two_given (λ w m. on_object w (λ x. on_object m (λ y. actions.Event (Rattle.pg_run_thread.specs.Step.wait_request h x y)))) c in (g.0, (g.1, tt))
  given_args known.PthreadCondSignal c = (one_given (λ w. on_object w (λ o. actions.Event (requests.Signal o))) c, tt)
  given_args known.PthreadCondBroadcast c = (one_given (λ w. on_object w (λ o. actions.Event (requests.Broadcast o))) c, tt)
  given_args known.PthreadCondDestroy c = (one_given (λ w. on_object w (λ o. actions.Event (requests.CondDestroy o))) c, tt)
  given_args known.PthreadBarrierInit c = let g = three_given (λ w a n. on_object w (λ o. on_null a (actions.Event (requests.BarrierInit o n)))) c in (g.0, (g.1.0, (g.1.1, tt)))
  given_args known.PthreadBarrierWait c = (one_given (λ w. on_object w (λ o. actions.Event (Rattle.pg_run_thread.specs.Step.barrier_request h o))) c, tt)
  given_args known.PthreadBarrierDestroy c = (one_given (λ w. on_object w (λ o. actions.Event (requests.BarrierDestroy o))) c, tt)
  given_args k c = tt

-- ---- the same arguments ask the same

module _ (p : NumberedProgram) (t : ℕ) (h : Bool) (rs zs : List (Option ℕ)) (args : List Value) where
  abbrev Same : ℕ → Type 0
  Same i = argument p rs args i ≡ argument p zs args i

  one_same : (act : ℕ → Action) → Same 0 → on_value (argument p rs args 0) act ≡ on_value (argument p zs args 0) act
  one_same act a = ap (λ (o : Option ℕ). on_value o act) a

  two_same : (act : ℕ → ℕ → Action) → Same 0 → Same 1 → on_value (argument p rs args 0) (λ a. on_value (argument p rs args 1) (λ b. act a b))
      ≡ on_value (argument p zs args 0) (λ a. on_value (argument p zs args 1) (λ b. act a b))
  two_same act a b = ap (λ (o : Option ℕ). on_value o (λ m. on_value (argument p rs args 1) (λ n. act m n))) a
      ∙ ap (λ (o : Option ℕ). on_value (argument p zs args 0) (λ m. on_value o (λ n. act m n))) b

  three_same : (act : ℕ → ℕ → ℕ → Action) → Same 0 → Same 1 → Same 2
      → on_value (argument p rs args 0) (λ a. on_value (argument p rs args 1) (λ b. on_value (argument p rs args 2) (λ c. act a b c)))
      ≡ on_value (argument p zs args 0) (λ a. on_value (argument p zs args 1) (λ b. on_value (argument p zs args 2) (λ c. act a b c)))
  three_same act a b c =
      ap (λ (o : Option ℕ). on_value o (λ l. on_value (argument p rs args 1) (λ m. on_value (argument p rs args 2) (λ n. act l m n)))) a
      ∙ ap (λ (o : Option ℕ). on_value (argument p zs args 0) (λ l. on_value o (λ m. on_value (argument p rs args 2) (λ n. act l m n)))) b
      ∙ ap (λ (o : Option ℕ). on_value (argument p zs args 0) (λ l. on_value (argument p zs args 1) (λ m. on_value o (λ n. act l m n)))) c

  pub same_action : (k : LibraryCall) → is_checked k ≡ true → AllOf Same (checked k) → library_action p t h rs k args ≡ library_action p t h zs k args
  same_action known.PthreadJoin c s = two_same (λ n w. Rattle.pg_run_thread.specs.Step.join_at n w) s.0 s.1.0
  same_action known.PthreadMutexInit c s = two_same (λ w a. on_object w (λ o. on_null a (actions.Event (requests.MutexInit o)))) s.0 s.1.0
  same_action known.PthreadMutexLock c s = one_same (λ w. on_object w (λ o. actions.Event (requests.Lock o))) s.0
  same_action known.PthreadMutexTrylock c s = one_same (λ w. on_object w (λ o. actions.Event (requests.Trylock o))) s.0
  same_action known.PthreadMutexUnlock c s = one_same (λ w. on_object w (λ o. actions.Event (requests.Unlock o))) s.0
  same_action known.PthreadMutexDestroy c s = one_same (λ w. on_object w (λ o. actions.Event (requests.MutexDestroy o))) s.0
  same_action known.PthreadCondInit c s = two_same (λ w a. on_object w (λ o. on_null a (actions.Event (requests.CondInit o)))) s.0 s.1.0
  same_action known.PthreadCondWait c s = two_same (λ w m. on_object w (λ x. on_object m (λ y. actions.Event (Rattle.pg_run_thread.specs.Step.wait_request h x y)))) s.0 s.1.0
  same_action known.PthreadCondSignal c s = one_same (λ w. on_object w (λ o. actions.Event (requests.Signal o))) s.0
  same_action known.PthreadCondBroadcast c s = one_same (λ w. on_object w (λ o. actions.Event (requests.Broadcast o))) s.0
  same_action known.PthreadCondDestroy c s = one_same (λ w. on_object w (λ o. actions.Event (requests.CondDestroy o))) s.0
  same_action known.PthreadBarrierInit c s = three_same (λ w a n. on_object w (λ o. on_null a (actions.Event (requests.BarrierInit o n)))) s.0 s.1.0 s.1.1.0
  same_action known.PthreadBarrierWait c s = one_same (λ w. on_object w (λ o. actions.Event (Rattle.pg_run_thread.specs.Step.barrier_request h o))) s.0
  same_action known.PthreadBarrierDestroy c s = one_same (λ w. on_object w (λ o. actions.Event (requests.BarrierDestroy o))) s.0
  same_action k c s = absurd cc
