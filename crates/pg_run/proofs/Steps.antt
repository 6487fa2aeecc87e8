-- The first state, and the state after an answer.
use Rattle.std.proofs.Common.{◌≡◌, ℕ, ℤ, zero, suc, ◌<◌, ◌^◌, List, [], ◌∷◌, length, Bool, true, false, Option, Some, None, Result, Ok, Err, arith, refl, sym}
use Rattle.std.proofs.Common.{◌∙◌, ap, subst, inl}
use Rattle.std.specs.Prelude.{slice_get, slice_set, nat_lt}
use Rattle.std.proofs.lemmas.Bool.Decides.{nat_tests}
use Rattle.std.proofs.lemmas.List.{length-append}
use Rattle.std.proofs.lemmas.Option.{slice_get_within}
use Rattle.pg_run_trace.specs.pg_num.Places.{ByteRange}
use Rattle.pg_run_trace.specs.pg_num.declared.limits.TheConstants.{THREAD_LIMIT}
use Rattle.pg_run_trace.specs.pg_ir.declared.request.Request.{Request}
use Rattle.pg_run_trace.specs.pg_ir.declared.request.Request.TheVariants as requests
use Rattle.pg_run_trace.specs.pg_ir.declared.request.TrapName.{TrapName}
use Rattle.pg_run_trace.specs.pg_ir.declared.request.TrapName.TheVariants.{TooManyThreads}
use Rattle.pg_run_trace.specs.pg_ir.Program.{NumberedProgram}
use Rattle.pg_run_trace.specs.pg_ir.WellFormed.{IsProgram}
use Rattle.pg_run_memory.specs.Memory as memory
use Rattle.pg_run_objects.specs.Sync as sync
use Rattle.pg_run_thread.specs.declared.action.Action.{Action}
use Rattle.pg_run_thread.specs.declared.action.Action.TheVariants as actions
use Rattle.pg_run_thread.specs.LocalState.{LocalState, fresh}
use Rattle.pg_run_thread.specs.Step.{next, after}
use Rattle.pg_run_thread.specs.States.{IsOf, CanStep}
use Rattle.pg_run_thread.proofs.StepsKeepStates.{fresh_of}
use Rattle.pg_run.specs.Fits.{ActionFits, RequestFits}
use Rattle.pg_run.specs.Phases.{Going, phase_before, phase_after, stage_phase, request_after}
use Rattle.pg_run.specs.State.{State, initial}
use Rattle.pg_run.specs.MachineStep.{Answered, may_act, answered, requested, answer_of, on_applied}
use Rattle.pg_run.specs.Machine.{IsMachine, StartsWhole, phase_in}
use Rattle.pg_run.proofs.Effects.{Moved, MakesNone, moved, made_one}
use Rattle.pg_run.proofs.FitActions.{action_fits}
use Rattle.pg_run.proofs.StepsKeepStates.{all_at, own_phase, kept, kept_create, fresh_phase, fresh_whole, all_one}
use Rattle.pg_run.proofs.Threads.{stage_at, set_length}

-- ---- the first state

first_phase : (p : NumberedProgram) (u : ℕ) → stage_phase (stage_at (sync.made ∷ []) u) ≡ phase_in p (slice_get (fresh p 0 p.main ∷ []) u)
first_phase p zero = sym (fresh_phase p 0 p.main)
first_phase p (suc u) = refl

pub initial_is : (p : NumberedProgram) → IsProgram p → IsMachine p (initial p)
unfolding initial sync.fresh
initial_is p program = record {
  of = all_one (IsOf p) (fresh p 0 p.main) (fresh_of p 0 p.main program (inl refl) (omega arith));
  starts = all_one StartsWhole (fresh p 0 p.main) (fresh_whole p 0 p.main);
  phases = first_phase p;
  waiters = tt;
  words = refl;
  threads = refl;
  few = omega arith;
}

-- ---- the state after an answer

-- what a step starts from
pub record At (p : NumberedProgram) (s : State) (t : ℕ) (l : LocalState) (act : Action) (a : ℕ) : Type 0 where
  pub program : IsProgram p
  pub machine : IsMachine p s
  pub local : slice_get s.locals t ≡ Some l
  pub action : next p l ≡ act
  pub can : CanStep act
  pub small : a < 2 ^ 64

still_here : (p : NumberedProgram) (s z : State) (t a : ℕ) (l : LocalState) (act : Action) → At p s t l act a → phase_before act ≡ Going → phase_after act ≡ Going
    → z.locals ≡ s.locals → z.sync ≡ s.sync → length z.words ≡ length s.words → IsMachine p (record z { locals = slice_set z.locals t (after p l a) })
still_here p s z t a l act h before then same y w =
    kept p s z t a l act h.program h.machine h.local h.action h.can h.small same
    (subst (λ (x : sync.Sync). Moved t (phase_after act) s.sync.threads x.threads x.waiters) (sym y)
    (record {
      own = own_phase p s t l h.machine h.local (subst CanStep (sym h.action) h.can) ∙ ap phase_before h.action ∙ before ∙ sym then;
      others = λ u d. refl;
      waiters = h.machine.waiters;
      count = refl;
    }))
    w

-- the request of thread t was done
within : (p : NumberedProgram) (s : State) (t a : ℕ) (l : LocalState) (act : Action) → At p s t l act a → t < length s.sync.threads
within p s t a l act h = let k = slice_get_within s.locals t l h.local in omega (arith, k, h.machine.threads)

done_by : (p : NumberedProgram) (s : State) (t a : ℕ) (l : LocalState) (r : Request) → At p s t l (actions.Event r) a → MakesNone r → sync.check s.sync t r ≡ None
    → sync.may_go s.sync t r ≡ true → Moved t (request_after r) s.sync.threads (sync.done s.sync t r).0.threads (sync.done s.sync t r).0.waiters
done_by p s t a l r h m c g =
    moved s.sync t r m (within p s t a l (actions.Event r) h) c g (own_phase p s t l h.machine h.local (subst CanStep (sym h.action) h.can) ∙ ap phase_before h.action) h.machine.waiters

-- room for one more thread
pub room : (y : sync.Sync) (t f n : ℕ) (r : ByteRange) → sync.check y t (requests.Create r f n) ≡ None → length y.threads < THREAD_LIMIT
unfolding sync.check
room y t f n r e = go (nat_lt (length y.threads) THREAD_LIMIT) refl e
  where
    go : (b : Bool) → nat_lt (length y.threads) THREAD_LIMIT ≡ b → sync.unless b TooManyThreads ≡ None → length y.threads < THREAD_LIMIT
    go true k q = grind (arith, nat_tests)
    go false k q = absurd cc

-- what the request of thread t leaves
abbrev left_by : NumberedProgram → State → ℕ → Request → State
left_by p s t r = requested p (record s { sync = (sync.done s.sync t r).0 }) t r

event_kept : (p : NumberedProgram) (s : State) (t a : ℕ) (l : LocalState) (r : Request) → At p s t l (actions.Event r) a → MakesNone r → sync.check s.sync t r ≡ None
    → sync.may_go s.sync t r ≡ true → (z : State) → z.locals ≡ s.locals → z.sync ≡ (sync.done s.sync t r).0 → length z.words ≡ length s.words
    → IsMachine p (record z { locals = slice_set z.locals t (after p l a) })
event_kept p s t a l r h m c g z same y w =
    kept p s z t a l (actions.Event r) h.program h.machine h.local h.action h.can h.small same
    (subst (λ (x : sync.Sync). Moved t (request_after r) s.sync.threads x.threads x.waiters) (sym y) (done_by p s t a l r h m c g))
    w

still_event : (p : NumberedProgram) (s : State) (t a : ℕ) (l : LocalState) (r : Request) → At p s t l (actions.Event r) a → RequestFits p r → sync.check s.sync t r ≡ None
    → sync.may_go s.sync t r ≡ true → IsMachine p (record (left_by p s t r) { locals = slice_set (left_by p s t r).locals t (after p l a) })
still_event p s t a l (requests.Create r f n) h fits c g =
    kept_create p s (left_by p s t (requests.Create r f n)) t a f l (actions.Event (requests.Create r f n)) h.program h.machine h.local h.action h.can h.small refl refl fits.0
    (let k = room s.sync t f n r c in omega (arith, k, h.machine.threads)) refl (made_one s.sync t r f n h.machine.waiters) (length-append s.words (n ∷ []))
still_event p s t a l (requests.Exit n is_return) h fits c g = event_kept p s t a l (requests.Exit n is_return) h tt c g (left_by p s t (requests.Exit n is_return)) refl refl (set_length s.words t n)
still_event p s t a l (requests.Join n r) h fits c g = event_kept p s t a l (requests.Join n r) h tt c g (left_by p s t (requests.Join n r)) refl refl refl
still_event p s t a l r h fits c g = event_kept p s t a l r h tt c g (left_by p s t r) refl refl refl

-- ---- what an answer is

pub no_answer : (s z : State) (name : TrapName) (a : ℕ) → (P : Type 0) → Path Answered (s, Err name) (z, Ok a) → P
no_answer s z name a P e = let k : Path (Result ℕ TrapName) (Err name) (Ok a) = ap (λ (q : Answered). q.1) e in absurd cc

-- thread t has taken its step from z on
abbrev pub Stands : NumberedProgram → ℕ → LocalState → ℕ → State → Type 0
Stands p t l a z = IsMachine p (record z { locals = slice_set z.locals t (after p l a) })

goes : (y : sync.Sync) (t : ℕ) (r : Request) → sync.check y t r ≡ None → sync.ready y t r ≡ true → sync.may_go y t r ≡ true
unfolding sync.ready
goes y t r c h = rw c at h

event_answered : (p : NumberedProgram) (s z : State) (t a : ℕ) (l : LocalState) (r : Request) (o : Option TrapName) → At p s t l (actions.Event r) a → RequestFits p r
    → sync.check s.sync t r ≡ o → sync.ready s.sync t r ≡ true → Path Answered (on_applied p s t r (sync.on_check o s.sync (sync.done s.sync t r))) (z, Ok a) → Stands p t l a z
event_answered p s z t a l r (Some name) h fits c g e = no_answer _ z name a (Stands p t l a z) e
event_answered p s z t a l r None h fits c g e = subst (Stands p t l a) (ap (λ (q : Answered). q.0) e) (still_event p s t a l r h fits c (goes s.sync t r c g))

pub still_machine : (p : NumberedProgram) (input : List ℤ) (s z : State) (t a : ℕ) (l : LocalState) (act : Action) → At p s t l act a → may_act s t act ≡ true
    → Path Answered (answered p input s t act) (z, Ok a) → Stands p t l a z
unfolding answered sync.applied
still_machine p input s z t a l actions.Local h r e = subst (Stands p t l a) (ap (λ (q : Answered). q.0) e) (still_here p s s t a l actions.Local h refl refl refl refl refl)
still_machine p input s z t a l (actions.In i) h r e = subst (Stands p t l a) (ap (λ (q : Answered). q.0) e) (still_here p s s t a l (actions.In i) h refl refl refl refl refl)
still_machine p input s z t a l actions.InLen h r e = subst (Stands p t l a) (ap (λ (q : Answered). q.0) e) (still_here p s s t a l actions.InLen h refl refl refl refl refl)
still_machine p input s z t a l (actions.Load at) h r e = subst (Stands p t l a) (ap (λ (q : Answered). q.0) e) (still_here p s s t a l (actions.Load at) h refl refl refl refl refl)
still_machine p input s z t a l (actions.Store at n) h r e = subst (Stands p t l a) (ap (λ (q : Answered). q.0) e)
    (still_here p s (record s { memory = memory.written s.memory at n }) t a l (actions.Store at n) h refl refl refl refl refl)
still_machine p input s z t a l (actions.Event q) h r e = event_answered p s z t a l q (sync.check s.sync t q) h (fits_of h) refl r e
  where
    fits_of : At p s t l (actions.Event q) a → RequestFits p q
    fits_of k = subst (ActionFits p) k.action (action_fits p l k.program (all_at (IsOf p) s.locals t l k.local k.machine.of))
still_machine p input s z t a l (actions.Trap name) h r e = absurd h.can
still_machine p input s z t a l actions.Ended h r e = absurd h.can

-- a trap leaves the state as it was
event_trapped : (p : NumberedProgram) (s z : State) (t : ℕ) (r : Request) (name : TrapName) (o : Option TrapName)
    → Path Answered (on_applied p s t r (sync.on_check o s.sync (sync.done s.sync t r))) (z, Err name) → z ≡ s
event_trapped p s z t r name (Some other) e = sym (ap (λ (q : Answered). q.0) e)
event_trapped p s z t r name None e = let k : Path (Result ℕ TrapName) (Ok (answer_of (record s { sync = (sync.done s.sync t r).0 }) t (sync.done s.sync t r).1 r)) (Err name) =
    ap (λ (q : Answered). q.1) e in absurd cc

pub never : (s z : State) (name : TrapName) (n : ℕ) → (P : Type 0) → Path Answered (s, Ok n) (z, Err name) → P
never s z name n P e = let k : Path (Result ℕ TrapName) (Ok n) (Err name) = ap (λ (q : Answered). q.1) e in absurd cc

pub trapped_is : (p : NumberedProgram) (input : List ℤ) (s z : State) (t : ℕ) (name : TrapName) (act : Action) → Path Answered (answered p input s t act) (z, Err name) → z ≡ s
unfolding answered sync.applied
trapped_is p input s z t name (actions.Event r) e = event_trapped p s z t r name (sync.check s.sync t r) e
trapped_is p input s z t name (actions.Trap other) e = sym (ap (λ (q : Answered). q.0) e)
trapped_is p input s z t name act e = never _ z name _ (z ≡ s) e
