-- What a step of the machine depends on, and what it changes.
use Rattle.std.specs.Prelude.{◌≡◌, ℕ, length, Bool, true, false, Option, Some, None, slice_get, slice_index}
use Rattle.pg_run_trace.specs.pg_ir.declared.request.Request.{Request}
use Rattle.pg_run_trace.specs.pg_ir.declared.request.Request.TheVariants as requests
use Rattle.pg_run_memory.specs.Memory.{Words, read, written}
use Rattle.pg_run_thread.specs.declared.action.Action.{Action}
use Rattle.pg_run_thread.specs.declared.action.Action.TheVariants as actions
use Rattle.pg_run_trace.specs.declared.step.Access.{Access}
use Rattle.pg_run_trace.specs.declared.step.Step.{Step}
use Rattle.pg_run_trace.specs.Steps.{range_of}
use Rattle.pg_run.specs.State.{State}
use Rattle.pg_run.specs.MachineStep.{Stepped, Did, Trapped}

-- P holds of a step that was done and the state after it
abbrev pub IfDid : Stepped → (Step → State → Type 0) → Type 0
IfDid (Did x s) P = P x s
IfDid (Trapped name id) P = Unit {0}

-- ---- what a step depends on

-- two states agree on what a request of thread t reads beside the objects: its argument at a start, the
-- exit value of a joined thread, and the number of a new thread
abbrev pub AgreeAsked : Request → ℕ → State → State → Type 0
AgreeAsked requests.Start t s z = slice_index s.words t ≡ slice_index z.words t
AgreeAsked (requests.Join n r) t s z = slice_index s.words n ≡ slice_index z.words n
AgreeAsked (requests.Create r f n) t s z = length s.locals ≡ length z.locals
AgreeAsked r t s z = Unit {0}

-- two states agree on what an action of thread t reads beside its local state: a load its bytes, a request
-- the objects
abbrev pub Agree : Action → ℕ → State → State → Type 0
Agree (actions.Load r) t s z = read s.memory r ≡ read z.memory r
Agree (actions.Event r) t s z = (s.sync ≡ z.sync) × AgreeAsked r t s z
Agree action t s z = Unit {0}

-- two steps of thread t tell the same and leave it in one local state, or trap alike
abbrev pub AreAlike : ℕ → Stepped → Stepped → Type 0
AreAlike t (Did x s) (Did y z) = (x ≡ y) × (slice_get s.locals t ≡ slice_get z.locals t)
AreAlike t (Trapped name id) (Trapped other at) = (name ≡ other) × (id ≡ at)
AreAlike t _ _ = ⊥

-- ---- what a step changes

-- memory is written or read as an access tells: a read gives the number of its bytes and changes nothing
abbrev pub AsAccessed : Bool → Access → Words → Words → Type 0
AsAccessed true a m n = n ≡ written m (range_of a) a.number
AsAccessed false a m n = (n ≡ m) × (a.number ≡ read m (range_of a))

-- without an access memory is as before
abbrev pub AsTold : Option Access → Words → Words → Type 0
AsTold None m n = n ≡ m
AsTold (Some a) m n = AsAccessed a.writes a m n

abbrev pub is_request : Action → Bool
is_request (actions.Event r) = true
is_request action = false

-- the objects, the words, the printed bytes and main's value are as before
pub record LeavesRest (s z : State) : Type 0 where
  pub sync : z.sync ≡ s.sync
  pub words : z.words ≡ s.words
  pub printed : z.printed ≡ s.printed
  pub value : z.value ≡ s.value
