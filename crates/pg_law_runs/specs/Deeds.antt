-- The machine as threads that share cells and objects, and what its steps do, as the laws of plans speak of them.
use Rattle.std.specs.Prelude.{ℕ, suc, ℤ, nat_lt, ◌&&◌, not, List, [], ◌∷◌, map, Bool, true, false, Option, Some, None, is_some, slice_get, if◌then◌else◌}
use Rattle.pg_num.specs.declared.limits.TheConstants.{GUIDED_STEP_LIMIT}
use Rattle.pg_ir.specs.declared.ids.InstrId.{InstrId}
use Rattle.pg_ir.specs.Program.{NumberedProgram}
use Rattle.pg_law_threads.specs.Effects as plans
use Rattle.pg_law_threads.specs.Effects.{Deed, IsSame, Same}
use Rattle.pg_law_threads.specs.Machines.{Rules}
use Rattle.pg_run_objects.specs.Sync as sync
use Rattle.pg_run_thread.specs.declared.action.Action.{Action}
use Rattle.pg_run_thread.specs.declared.action.Action.TheVariants as actions
use Rattle.pg_run_thread.specs.LocalState.{LocalState}
use Rattle.pg_run_thread.specs.Step.{next}
use Rattle.pg_run_thread.specs.Told.{id_of}
use Rattle.pg_run_trace.specs.declared.turn.Turn.{Turn}
use Rattle.pg_run_trace.specs.declared.step.Step.{Step}
use Rattle.pg_run.specs.State.{State}
use Rattle.pg_run.specs.MachineStep.{is_gated}
use Rattle.pg_run.specs.Runs.{Takes, event_of}
use Rattle.pg_law_effects.specs.Effect.{Effect, effect, effect_of, printed_with}
use Rattle.pg_law_effects.specs.PermittedSteps.{one_more}
use Rattle.pg_law_effects.specs.Reached.{IsReached}
use Rattle.pg_law_effects.specs.Views.{Objects, cell_at, cell_written, local_at, objects_of, objects_with, reads_cell}

-- ---- states

-- a thread as its steps rest on it: its local state, none where it isn't made or hasn't begun, and how many steps
-- it has taken
pub record Thread : Type 0 where
  pub local : Option LocalState
  pub taken : ℕ

-- what threads share beside cells: the objects, and the printed bytes
pub record Shared : Type 0 where
  pub objects : Objects
  pub printed : List ℕ

abbrev pub Seen : Type 0
Seen = plans.State Thread ℕ Shared

abbrev pub Did : Type 0
Did = Deed Thread ℕ Shared Step

abbrev pub shared_of : State → Shared
shared_of s = record { objects = objects_of s; printed = s.printed }

-- a state of the machine in which each thread has taken so many steps
abbrev pub seen : State → (ℕ → ℕ) → Seen
seen s counts = record {
  locals = λ t. record { local = local_at s t; taken = counts t };
  cells = cell_at s;
  objects = shared_of s;
}

-- ---- which threads may step

-- by its local state alone a thread may do this action
abbrev pub goes_on : Action → Bool
goes_on actions.Ended = false
goes_on (actions.Trap name) = false
goes_on action = true

-- the action of this instruction is an event
abbrev pub is_event_at : List InstrId → ℕ → Action → Bool
is_event_at gated id (actions.Event r) = true
is_event_at gated id (actions.Load r) = is_gated gated id
is_event_at gated id (actions.Store r n) = is_gated gated id
is_event_at gated id action = false

-- what is asked of the objects is ready, and its checks hold
abbrev pub is_granted : sync.Sync → ℕ → Action → Bool
is_granted y t (actions.Event r) = sync.ready y t r && not (is_some (sync.check y t r))
is_granted y t action = true

abbrev pub has_start : Option (Option ℕ) → Bool
has_start None = false
has_start (Some None) = false
has_start (Some (Some f)) = true

-- a thread that hasn't begun begins by an event, where the objects have a function for it
abbrev pub local_goes : NumberedProgram → Option LocalState → Bool
local_goes p None = true
local_goes p (Some l) = goes_on (next p l)

abbrev pub local_event : List InstrId → NumberedProgram → Option LocalState → Bool
local_event gated p None = true
local_event gated p (Some l) = is_event_at gated (id_of l) (next p l)

abbrev pub local_granted : NumberedProgram → ℕ → Option LocalState → Objects → Bool
local_granted p t None o = has_start (slice_get o.starts t)
local_granted p t (Some l) o = is_granted o.sync t (next p l)

abbrev pub rules : List InstrId → NumberedProgram → Rules Thread Shared
rules gated p = record {
  over = λ y. sync.over y.objects.sync;
  can = λ l. local_goes p l.local && nat_lt l.taken GUIDED_STEP_LIMIT;
  is_event = λ l. local_event gated p l.local;
  ready = λ t l y. local_granted p t l.local y.objects;
}

-- ---- steps

-- the objects and the printed bytes after a step that did e
abbrev pub shared_after : State → Effect → Shared
shared_after s e = record { objects = objects_with e.thread e.request (objects_of s); printed = printed_with e.request s.printed }

-- what the step x does in the state s, where its thread has taken so many steps
abbrev pub deed_by : State → (ℕ → ℕ) → Step → Effect → Did
deed_by s counts x e = record {
  thread = x.thread.0;
  to = record { local = e.local; taken = suc (counts x.thread.0) };
  told = x;
  reads = reads_cell e;
  writes = cell_written e;
  objects = if is_some (event_of x) then Some (shared_after s e) else None;
}

abbrev pub deed_of : NumberedProgram → List ℤ → State → (ℕ → ℕ) → Step → Did
deed_of p input s counts x = deed_by s counts x (effect_of p input s x.thread.0)

-- what these steps do, one after another
unfoldable pub deeds_of : NumberedProgram → List ℤ → State → (ℕ → ℕ) → List Step → List Did
deeds_of p input s counts [] = []
deeds_of p input s counts (x ∷ xs) = deed_of p input s counts x ∷ deeds_of p input (effect s (effect_of p input s x.thread.0)) (one_more x.thread.0 counts) xs

-- in a state that looks like a, d is what the next step of its thread does
pub record Does (gated : List InstrId) (p : NumberedProgram) (input : List ℤ) (a : Seen) (d : Did) : Type 0 where
  pub state : State
  pub counts : ℕ → ℕ
  pub reached : IsReached p state
  pub looks : Same a (seen state counts)
  pub told : Step
  pub takes : Takes gated p input state told
  pub is_deed : IsSame d (deed_of p input state counts told)

-- the threads that own turns, in order
abbrev pub owners_of : List Turn → List ℕ
owners_of turns = map (λ (u : Turn). u.thread.0) turns
