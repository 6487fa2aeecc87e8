-- What a step starts from: its action may be done.
use Rattle.std.proofs.Common.{◌≡◌, ℕ, ℤ, zero, suc, ◌<◌, List, [], ◌∷◌, length, Bool, true, false, Option, Some, None, Result, Ok, Err, arith, refl, sym, ◌∙◌, ap, subst}
use Rattle.std.specs.Prelude.{slice_get, not, ◌&&◌, IfOk}
use Rattle.std.proofs.lemmas.Option.{slice_get_within}
use Rattle.pg_run_trace.specs.pg_ir.declared.request.Request.{Request}
use Rattle.pg_run_trace.specs.pg_ir.declared.request.Request.TheVariants as requests
use Rattle.pg_run_trace.specs.pg_ir.declared.request.TrapName.{TrapName}
use Rattle.pg_run_trace.specs.pg_ir.Program.{NumberedProgram}
use Rattle.pg_run_trace.specs.pg_ir.WellFormed.{IsProgram}
use Rattle.pg_run_objects.specs.declared.status.Stage.{Stage}
use Rattle.pg_run_objects.specs.declared.status.Stage.TheVariants as stages
use Rattle.pg_run_objects.specs.declared.reply.Reply.{Reply}
use Rattle.pg_run_objects.specs.declared.reply.SyncTrap.{SyncTrap}
use Rattle.pg_run_objects.specs.Stages.{may_ask}
use Rattle.pg_run_objects.specs.Sync as sync
use Rattle.pg_run_thread.specs.declared.action.Action.{Action}
use Rattle.pg_run_thread.specs.declared.action.Action.TheVariants as actions
use Rattle.pg_run_thread.specs.LocalState.{LocalState, fresh}
use Rattle.pg_run_thread.specs.Step.{next}
use Rattle.pg_run_thread.specs.States.{IsOf, CanStep}
use Rattle.pg_run.specs.Fits.{ActionFits}
use Rattle.pg_run.specs.Phases.{stage_phase, request_before, phase_before}
use Rattle.pg_run.specs.State.{State, next_of, action_in}
use Rattle.pg_run.specs.MachineStep.{may_act, ready, answered, requested, on_applied}
use Rattle.pg_run.specs.Machine.{IsMachine, MayAsk, MayDo, HasRoom}
use Rattle.pg_run.proofs.FitActions.{action_fits}
use Rattle.pg_run.proofs.StepsKeepStates.{all_at, own_phase}
use Rattle.pg_run.proofs.Steps.{room}
use Rattle.pg_run.proofs.Threads.{last_other}

-- ---- a thread that was made

pub there : {X : Type 0} (xs : List X) (t : ℕ) → t < length xs → (x : X) × (slice_get xs t ≡ Some x)
there [] t h = absurd (omega arith)
there (x ∷ xs) zero h = (x, refl)
there (x ∷ xs) (suc t) h = there xs t (omega arith)

-- ---- what may be asked

asks_by : (s : Stage) (r : Request) → stage_phase s ≡ request_before r → may_ask s r ≡ true
unfolding may_ask
asks_by stages.Made requests.Start e = refl
asks_by stages.Made r e = absurd cc
asks_by stages.Running requests.Start e = absurd cc
asks_by stages.Running (requests.Wake c m) e = absurd cc
asks_by stages.Running (requests.Leave o) e = absurd cc
asks_by stages.Running r e = refl
asks_by (stages.Waiting g) (requests.Wake c m) e = refl
asks_by (stages.Waiting g) r e = absurd cc
asks_by (stages.Arrived b g l) (requests.Leave o) e = refl
asks_by (stages.Arrived b g l) r e = absurd cc
asks_by stages.Ended requests.Start e = absurd cc
asks_by stages.Ended r e = absurd cc

request_may : (p : NumberedProgram) (s : State) (t : ℕ) (l : LocalState) (r : Request) → IsProgram p → IsMachine p s → slice_get s.locals t ≡ Some l → next p l ≡ actions.Event r
    → sync.ready s.sync t r ≡ true → MayAsk p s t r
request_may p s t l r program h e n g = record {
  asks = asks_by (sync.stage_of s.sync t) r (own_phase p s t l h e (subst CanStep (sym n) tt) ∙ ap phase_before n);
  ready = g;
  fits = subst (ActionFits p) n (action_fits p l program (all_at (IsOf p) s.locals t l e h.of));
  made = let k = slice_get_within s.locals t l e in omega (arith, k, h.words);
  threads = h.threads;
}

action_may : (p : NumberedProgram) (s : State) (t : ℕ) (l : LocalState) (act : Action) → IsProgram p → IsMachine p s → slice_get s.locals t ≡ Some l → next p l ≡ act
    → may_act s t act ≡ true → MayDo p s t act
action_may p s t l (actions.Store r m) program h e n g = subst (ActionFits p) n (action_fits p l program (all_at (IsOf p) s.locals t l e h.of))
action_may p s t l (actions.Event r) program h e n g = request_may p s t l r program h e n g
action_may p s t l act program h e n g = tt

acts : (a b : Bool) → (a && b) ≡ true → b ≡ true
acts true b e = e
acts false b e = absurd cc

pub ready_acts : (p : NumberedProgram) (s : State) (t : ℕ) → ready p s t ≡ true → may_act s t (next_of p s t) ≡ true
unfolding ready
ready_acts p s t h = acts (not (sync.over s.sync)) _ h

pub next_is : (p : NumberedProgram) (s : State) (t : ℕ) (l : LocalState) → slice_get s.locals t ≡ Some l → next_of p s t ≡ next p l
unfolding next_of
next_is p s t l e = ap (action_in p) e

pub may_do : (p : NumberedProgram) (s : State) (t : ℕ) → IsProgram p → IsMachine p s → t < length s.locals → ready p s t ≡ true → MayDo p s t (next_of p s t)
may_do p s t program h l g =
    let x = there s.locals t l in
    action_may p s t x.0 (next_of p s t) program h x.1 (sym (next_is p s t x.0 x.1)) (ready_acts p s t g)

-- a thread that is ready was made
made_by : (s : State) (t : ℕ) (o : Option LocalState) (p : NumberedProgram) → slice_get s.locals t ≡ o → may_act s t (action_in p o) ≡ true → t < length s.locals
made_by s t None p e h = absurd cc
made_by s t (Some l) p e h = slice_get_within s.locals t l e

pub ready_made : (p : NumberedProgram) (s : State) (t : ℕ) → ready p s t ≡ true → t < length s.locals
unfolding ready next_of
ready_made p s t h = made_by s t (slice_get s.locals t) p refl (acts (not (sync.over s.sync)) _ h)

-- ---- a create has room

checked_room : (s : State) (t : ℕ) (r : Request) (o : Option TrapName) (z : sync.Sync) (q : Reply) → sync.check s.sync t r ≡ o → length s.sync.threads ≡ length s.locals
    → (z, Ok q) ≡ sync.on_check o s.sync (sync.done s.sync t r) → HasRoom s r
checked_room s t (requests.Create at f n) None z q c k e = let h = room s.sync t f n at c in omega (arith, h, k)
checked_room s t (requests.Create at f n) (Some name) z q c k e = let h : Path (Result Reply TrapName) (Ok q) (Err name) = ap (λ (x : sync.Sync × Result Reply TrapName). x.1) e in absurd cc
checked_room s t r o z q c k e = tt

has_room : (s : State) (t : ℕ) (r : Request) (z : sync.Sync) (q : Reply) → length s.sync.threads ≡ length s.locals → (z, Ok q) ≡ sync.applied s.sync t r → HasRoom s r
unfolding sync.applied
has_room s t r z q k e = checked_room s t r (sync.check s.sync t r) z q refl k e

pub room_of : (s : State) (t : ℕ) (r : Request) (z : sync.Sync) (x : Result Reply SyncTrap) → length s.sync.threads ≡ length s.locals → (z, sync.named x) ≡ sync.applied s.sync t r
    → IfOk x (λ q. HasRoom s r)
room_of s t r z (Ok q) k e = has_room s t r z q k e
room_of s t r z (Err trap) k e = tt

-- ---- an answer leaves the threads that there are

request_locals : (p : NumberedProgram) (s : State) (t u : ℕ) (r : Request) → u < length s.locals → slice_get (requested p s t r).locals u ≡ slice_get s.locals u
request_locals p s t u (requests.Create r f n) h = last_other s.locals (fresh p (length s.locals) f) u (λ e. absurd (omega (arith, h, e)))
request_locals p s t u (requests.Exit n is_return) h = refl
request_locals p s t u (requests.Join n r) h = refl
request_locals p s t u r h = refl

applied_locals : (p : NumberedProgram) (s : State) (t u : ℕ) (r : Request) (y : sync.Sync) (q : Result Reply TrapName) → u < length s.locals
    → slice_get (on_applied p s t r (y, q)).0.locals u ≡ slice_get s.locals u
applied_locals p s t u r y (Err name) h = refl
applied_locals p s t u r y (Ok reply) h = request_locals p (record s { sync = y }) t u r h

pub same_local : (p : NumberedProgram) (input : List ℤ) (s : State) (t u : ℕ) (act : Action) → u < length s.locals → slice_get (answered p input s t act).0.locals u ≡ slice_get s.locals u
unfolding answered
same_local p input s t u actions.Local h = refl
same_local p input s t u (actions.In i) h = refl
same_local p input s t u actions.InLen h = refl
same_local p input s t u (actions.Load r) h = refl
same_local p input s t u (actions.Store r n) h = refl
same_local p input s t u (actions.Event r) h = applied_locals p s t u r (sync.applied s.sync t r).0 (sync.applied s.sync t r).1 h
same_local p input s t u (actions.Trap name) h = refl
same_local p input s t u actions.Ended h = refl
