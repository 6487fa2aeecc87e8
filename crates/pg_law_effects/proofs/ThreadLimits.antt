-- In a run there are at most as many threads as may be made, and as many local states as threads.
use Rattle.std.proofs.Common.{◌≡◌, ℕ, ℤ, ◌+◌, ◌≤◌, ◌<◌, List, [], ◌∷◌, ◌++◌, length, map, Bool, true, false, Option, Some, None, Result, Ok, Err, refl, sym}
use Rattle.std.proofs.Common.{◌∙◌, ap, subst, arith}
use Rattle.std.specs.Prelude.{slice_get, slice_set, filter, find, nat_lt, ◌==◌, if◌then◌else◌}
use Rattle.std.proofs.lemmas.List.{length-append}
use Rattle.pg_num.specs.declared.limits.TheConstants.{THREAD_LIMIT}
use Rattle.pg_ir.specs.declared.ids.InstrId.{InstrId}
use Rattle.pg_ir.specs.declared.request.Request.{Request}
use Rattle.pg_ir.specs.declared.request.Request.TheVariants as requests
use Rattle.pg_ir.specs.declared.request.TrapName.{TrapName}
use Rattle.pg_ir.specs.Program.{NumberedProgram}
use Rattle.pg_run.specs.pg_run_objects.declared.object.Object.{Object}
use Rattle.pg_run.specs.pg_run_objects.declared.object.Object.TheVariants as objects
use Rattle.pg_run.specs.pg_run_objects.declared.object.Entry.{Entry}
use Rattle.pg_run.specs.pg_run_objects.declared.reply.Reply.{Reply}
use Rattle.pg_run.specs.pg_run_objects.declared.status.Stage.TheVariants.{Arrived}
use Rattle.pg_run.specs.pg_run_objects.declared.status.Status.{Status}
use Rattle.pg_run.specs.pg_run_objects.Objects.{object_at, put_object}
use Rattle.pg_run.specs.pg_run_objects.Sync as sync
use Rattle.pg_run_thread.specs.declared.action.Action.{Action}
use Rattle.pg_run_thread.specs.declared.action.Action.TheVariants as actions
use Rattle.pg_run_thread.specs.LocalState.{LocalState, fresh}
use Rattle.pg_run.specs.pg_run_trace.declared.step.Step.{Step}
use Rattle.pg_run.specs.State.{State, initial, next_of}
use Rattle.pg_run.specs.MachineStep.{Answered, Stepped, Did, Trapped, answered, on_applied, settled, step, taken}
use Rattle.pg_run.specs.Runs.{IsRun}
use Rattle.pg_run.proofs.Steps.{room}
use Rattle.pg_run.proofs.Threads.{set_length, signal_length, release_length}
use Rattle.pg_law_effects.specs.Effect.{effect, effect_by, effect_of, local_set, locals_with, request_effect}
use Rattle.pg_law_effects.proofs.StepsApart.{left_by}

-- ---- the threads among the objects

-- how many threads a request makes
abbrev pub makes : Request → ℕ
makes (requests.Create r f n) = 1
makes r = 0

plus_none : (m n : ℕ) → m ≡ n → m ≡ n + 0
plus_none m n e = omega (arith, e)

arrive_if : (y : sync.Sync) (t b count arrived : ℕ) (c : Bool) → length
    (if c then record y { objects = put_object b (objects.Barrier count (arrived + 1)) y.objects; threads = sync.at_stage t (Arrived b false false) y.threads }
    else record y { objects = put_object b (objects.Barrier count 0) y.objects; threads = sync.at_stage t (Arrived b true true) (map (sync.release b) y.threads) }).threads ≡ length y.threads
arrive_if y t b count arrived true = set_length y.threads t _
arrive_if y t b count arrived false = set_length (map (sync.release b) y.threads) t _ ∙ release_length b y.threads

arrive_length : (y : sync.Sync) (t b : ℕ) (o : Option Object) → length (sync.arrive_at y t b o).threads ≡ length y.threads
arrive_length y t b None = refl
arrive_length y t b (Some (objects.Barrier count arrived)) = arrive_if y t b count arrived (nat_lt (arrived + 1) count)
arrive_length y t b (Some o) = refl

choice_length : (y : sync.Sync) (es : List Entry) (a b : Reply) (c : Bool)
    → length (if◌then◌else◌ {A = sync.Sync × Reply} c (record y { objects = es }, a) (y, b)).0.threads ≡ length y.threads
choice_length y es a b true = refl
choice_length y es a b false = refl

init_length : (y : sync.Sync) (es : List Entry) (a b : Reply) (c : Bool)
    → length (if◌then◌else◌ {A = sync.Sync × Reply} c (y, a) (record y { objects = es }, b)).0.threads ≡ length y.threads
init_length y es a b true = refl
init_length y es a b false = refl

threads_done : (y : sync.Sync) (t : ℕ) (r : Request) → length (sync.done y t r).0.threads ≡ length y.threads + makes r
unfolding sync.done
threads_done y t requests.Start = plus_none _ _ (set_length y.threads t _)
threads_done y t (requests.Exit n is_return) = plus_none _ _ (set_length y.threads t _)
threads_done y t (requests.Create r f n) = length-append y.threads (sync.made ∷ [])
threads_done y t (requests.Join n r) = plus_none _ _ (set_length y.threads n _)
threads_done y t (requests.Trylock o) = plus_none _ _ (choice_length y _ _ _ _)
threads_done y t (requests.Wait c m) = plus_none _ _ (set_length y.threads t _)
threads_done y t (requests.Wake c m) = plus_none _ _ (set_length y.threads t _)
threads_done y t (requests.Signal o) = plus_none _ _ (signal_length (sync.first_of (find (sync.waits_on o) y.waiters)) y.threads)
threads_done y t (requests.Broadcast o) = plus_none _ _ (signal_length (filter (sync.waits_on o) y.waiters) y.threads)
threads_done y t (requests.BarrierInit o n) = plus_none _ _ (init_length y _ _ _ _)
threads_done y t (requests.Arrive o) = plus_none _ _ (arrive_length y t o (object_at o y.objects))
threads_done y t (requests.Leave o) = plus_none _ _ (set_length y.threads t _)
threads_done y t r = plus_none _ _ refl

-- ---- what may be done

-- a request that is done passed its checks
abbrev pub IsAllowed : State → ℕ → Action → Type 0
IsAllowed s t (actions.Event r) = sync.check s.sync t r ≡ None
IsAllowed s t (actions.Trap name) = ⊥
IsAllowed s t action = Unit {0}

no_answer : (s z : State) (name : TrapName) (a : ℕ) (P : Type 0) → Path Answered (s, Err name) (z, Ok a) → P
no_answer s z name a P e = let k : Path (Result ℕ TrapName) (Err name) (Ok a) = ap (λ (q : Answered). q.1) e in absurd cc

event_allowed : (p : NumberedProgram) (s z : State) (t a : ℕ) (r : Request) (o : Option TrapName) → sync.check s.sync t r ≡ o
    → Path Answered (on_applied p s t r (sync.on_check o s.sync (sync.done s.sync t r))) (z, Ok a) → sync.check s.sync t r ≡ None
event_allowed p s z t a r None h e = h
event_allowed p s z t a r (Some name) h e = no_answer _ z name a (sync.check s.sync t r ≡ None) e

answered_allowed : (p : NumberedProgram) (input : List ℤ) (s z : State) (t a : ℕ) (action : Action) → Path Answered (answered p input s t action) (z, Ok a) → IsAllowed s t action
unfolding answered sync.applied
answered_allowed p input s z t a (actions.Event r) e = event_allowed p s z t a r (sync.check s.sync t r) refl e
answered_allowed p input s z t a (actions.Trap name) e = no_answer s z name a ⊥ e
answered_allowed p input s z t a action e = tt

pub did_allowed : (gated : List InstrId) (p : NumberedProgram) (input : List ℤ) (s z : State) (t : ℕ) (x : Step) → step gated p input s t ≡ Did x z → IsAllowed s t (next_of p s t)
unfolding step
did_allowed gated p input s z t x e = go (answered p input s t (next_of p s t)) refl e
  where
    go : (o : Answered) → answered p input s t (next_of p s t) ≡ o → settled gated p s t (taken p s t o) ≡ Did x z → IsAllowed s t (next_of p s t)
    go (w, Err name) k h = absurd cc
    go (w, Ok a) k h = answered_allowed p input s w t a (next_of p s t) k

-- ---- one step

pub record FewThreads (s : State) : Type 0 where
  pub same : length s.sync.threads ≡ length s.locals
  pub few : length s.locals ≤ THREAD_LIMIT

local_length : (ls : List LocalState) (t : ℕ) (l : Option LocalState) → length (local_set t l ls) ≡ length ls
local_length ls t None = refl
local_length ls t (Some l) = set_length ls t l

locals_length : (p : NumberedProgram) (s : State) (t : ℕ) (r : Request) → length (locals_with (request_effect p s t (actions.Event r)) s.locals) ≡ length s.locals + makes r
locals_length p s t (requests.Create r f n) = length-append s.locals (fresh p (length s.locals) f ∷ [])
locals_length p s t r = plus_none _ _ refl

has_room : (y : sync.Sync) (t : ℕ) (r : Request) → sync.check y t r ≡ None → length y.threads ≤ THREAD_LIMIT → length y.threads + makes r ≤ THREAD_LIMIT
has_room y t (requests.Create r f n) c h = let k = room y t f n r c in omega (arith, k)
has_room y t r c h = omega (arith, h)

few_by : (p : NumberedProgram) (input : List ℤ) (s : State) (t : ℕ) (action : Action) → IsAllowed s t action → FewThreads s → FewThreads (effect s (effect_by p input s t action))
unfolding effect
few_by p input s t (actions.Event r) a h =
    let e = effect_by p input s t (actions.Event r) in
    let i = local_length (locals_with e.request s.locals) t e.local in
    let j = locals_length p s t r in
    let k = threads_done s.sync t r in
    let l = has_room s.sync t r a (omega (arith, h.same, h.few)) in
    record { same = omega (arith, i, j, k, h.same); few = omega (arith, i, j, l, h.same) }
few_by p input s t action a h =
    let e = effect_by p input s t action in
    let i = local_length s.locals t e.local in
    record { same = h.same ∙ sym i; few = omega (arith, i, h.few) }

pub few_step : (gated : List InstrId) (p : NumberedProgram) (input : List ℤ) (s z : State) (t : ℕ) (x : Step) → step gated p input s t ≡ Did x z → FewThreads s → FewThreads z
unfolding effect_of
few_step gated p input s z t x e h = subst FewThreads (sym (left_by gated p input s z t x e)) (few_by p input s t (next_of p s t) (did_allowed gated p input s z t x e) h)

-- ---- runs

pub few_run : (gated : List InstrId) (p : NumberedProgram) (input : List ℤ) (s z : State) (xs : List Step) → IsRun gated p input s xs z → FewThreads s → FewThreads z
few_run gated p input s z [] r h = subst FewThreads r h
few_run gated p input s z (x ∷ xs) r h = few_run gated p input r.0.after z xs r.1 (few_step gated p input s r.0.after x.thread.0 x r.0.is_step h)

pub few_initial : (p : NumberedProgram) → FewThreads (initial p)
unfolding initial sync.fresh
few_initial p = record { same = refl; few = omega arith }
