-- What holds of each state of a run.
use Rattle.std.specs.Prelude.{◌≡◌, ℕ, ◌≤◌, ◌<◌, ◌*◌, ◌^◌, List, [], ◌∷◌, length, true, false, Option, Some, None, IfSome, slice_get}
use Rattle.std.specs.List.{All}
use Rattle.pg_run_trace.specs.pg_num.declared.limits.TheConstants.{THREAD_LIMIT}
use Rattle.pg_run_trace.specs.pg_ir.declared.request.Request.{Request}
use Rattle.pg_run_trace.specs.pg_ir.declared.request.Request.TheVariants as requests
use Rattle.pg_run_trace.specs.pg_ir.Program.{NumberedProgram}
use Rattle.pg_run_objects.specs.declared.status.Stage.TheVariants.{Waiting}
use Rattle.pg_run_objects.specs.declared.status.Status.{Status}
use Rattle.pg_run_objects.specs.declared.status.Waiter.{Waiter}
use Rattle.pg_run_objects.specs.Stages.{may_ask}
use Rattle.pg_run_objects.specs.Sync.{stage_in, stage_of, ready}
use Rattle.pg_run_thread.specs.declared.action.Action.{Action}
use Rattle.pg_run_thread.specs.declared.action.Action.TheVariants as actions
use Rattle.pg_run_thread.specs.LocalState.{LocalState}
use Rattle.pg_run_thread.specs.States.{IsOf, CanStep}
use Rattle.pg_run.specs.Fits.{RequestFits}
use Rattle.pg_run.specs.Phases.{Phase, Over, phase_of, stage_phase}
use Rattle.pg_run.specs.State.{State, next_of}

-- ---- those that wait on a condition

abbrev pub IsAbsent : ℕ → List Waiter → Type 0
IsAbsent t [] = Unit {0}
IsAbsent t (w ∷ ws) = (w.thread.0 ≡ t → ⊥) × IsAbsent t ws

-- each is a thread that has given its mutex back and wasn't signalled, and no thread waits twice
abbrev pub AreWaiting : List Status → List Waiter → Type 0
AreWaiting ss [] = Unit {0}
AreWaiting ss (w ∷ ws) = (stage_in (slice_get ss w.thread.0) ≡ Waiting false) × IsAbsent w.thread.0 ws × AreWaiting ss ws

-- ---- the state

abbrev pub phase_in : NumberedProgram → Option LocalState → Phase
phase_in p None = Over
phase_in p (Some l) = phase_of p l

-- a thread that hasn't begun is in no wait
abbrev pub StartsWhole : LocalState → Type 0
StartsWhole l = l.begun ≡ false → l.halfway ≡ false

-- each thread's local state is one of the program's, and as far as its stage says
pub record IsMachine (p : NumberedProgram) (s : State) : Type 0 where
  pub of : All (IsOf p) s.locals
  pub starts : All StartsWhole s.locals
  pub phases : (t : ℕ) → stage_phase (stage_of s.sync t) ≡ phase_in p (slice_get s.locals t)
  pub waiters : AreWaiting s.sync.threads s.sync.waiters
  pub words : length s.words ≡ length s.locals
  pub threads : length s.sync.threads ≡ length s.locals
  pub few : length s.locals ≤ THREAD_LIMIT

-- ---- what a step starts from

-- thread t may ask this, and it is ready: a create has the room for a thread where its check holds
pub record MayAsk (p : NumberedProgram) (s : State) (t : ℕ) (r : Request) : Type 0 where
  pub asks : may_ask (stage_of s.sync t) r ≡ true
  pub ready : ready s.sync t r ≡ true
  pub fits : RequestFits p r
  pub made : t < length s.words
  pub threads : length s.sync.threads ≡ length s.locals

-- what the machine knows of the action that it does
abbrev pub MayDo : NumberedProgram → State → ℕ → Action → Type 0
MayDo p s t (actions.Store r n) = n < 2 ^ (8 * r.bytes)
MayDo p s t (actions.Event r) = MayAsk p s t r
MayDo p s t action = Unit {0}

-- a create has room for its thread
abbrev pub HasRoom : State → Request → Type 0
HasRoom s (requests.Create r f n) = length s.locals < THREAD_LIMIT
HasRoom s r = Unit {0}

-- the answer to thread t's action is there, and it can go on
pub record MayGoOn (p : NumberedProgram) (s : State) (t : ℕ) : Type 0 where
  pub made : t < length s.locals
  pub of : IfSome (slice_get s.locals t) (IsOf p)
  pub can : CanStep (next_of p s t)
