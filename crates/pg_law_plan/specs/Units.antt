-- The units of a reference run under decisions, and the plan that they make.
use Rattle.std.specs.Prelude.{◌≡◌, ℕ, suc, ◌-◌, ◌==◌, ◌&&◌, ◌||◌, not, nat_lt, ℤ, List, [], ◌∷◌, ◌++◌, map, Bool, false, Option, Some, None, is_some}
use Rattle.std.specs.Prelude.{slice_index_or, if◌then◌else◌}
use Rattle.std.specs.List.{AllByRecursion, list_any}
use Rattle.pg_num.specs.Places.{ByteRange}
use Rattle.pg_num.specs.declared.layout.TheConstants.{MEMORY_BYTES}
use Rattle.pg_ir.specs.declared.ids.InstrId.{InstrId}
use Rattle.pg_ir.specs.Program.{NumberedProgram}
use Rattle.pg_law_threads.specs.Effects as plans
use Rattle.pg_law_threads.specs.Effects.{Deed}
use Rattle.pg_law_threads.specs.Intervals.{owners}
use Rattle.pg_run_thread.specs.LocalState.{LocalState}
use Rattle.pg_run_trace.specs.declared.turn.TurnKind.{TurnKind}
use Rattle.pg_run_trace.specs.declared.turn.TurnKind.TheVariants as turns
use Rattle.pg_run_trace.specs.declared.step.Step.{Step}
use Rattle.pg_run_trace.specs.declared.step.StepKind.{StepKind}
use Rattle.pg_run_trace.specs.declared.step.StepKind.TheVariants as kinds
use Rattle.pg_run_trace.specs.declared.step.Access.{Access}
use Rattle.pg_run_trace.specs.declared.step.Event.{Event}
use Rattle.pg_run_trace.specs.Races.{is_in, recorded}
use Rattle.pg_run_trace.specs.Steps.{access_in, happening_in, range_of}
use Rattle.pg_run.specs.State.{State, initial}
use Rattle.pg_run.specs.MachineStep.{step}
use Rattle.pg_law_effects.specs.PermittedSteps.{none_taken, one_more}
use Rattle.pg_law_effects.specs.Views.{Objects, is_thread, local_at, objects_of}
use Rattle.pg_slice_rules.specs.Freeable.{Regions, bounds_of}
use Rattle.pg_slice_rules.specs.Known.{Reference, SymbolicState, Seen, Taken, after_step, seen_in, start_of, thread_of}
use Rattle.pg_slice_rules.specs.Moments.{moments_of, state_after, thread_in}
use Rattle.pg_slice_rules.specs.Rules.{Footprint, has_region, kind_in, footprints_in}
use Rattle.pg_slice_rules.specs.SymbolicValues.{Symbolic, always}
use Rattle.pg_law_plan.specs.Likes.{PlanThread, Standing}

-- ---- the run

-- a run of a program on an input, the loads and stores that are events in it, and the regions of the program's branches
pub record ReferenceRun : Type 0 where
  pub program : NumberedProgram
  pub input : List ℤ
  pub gated : List InstrId
  pub regions : Regions
  pub steps : List Step

abbrev pub reference_of : ReferenceRun → Reference
reference_of r = record { program = r.program; regions = r.regions; moments = moments_of r.gated r.program r.input r.steps }

-- the threads that own its turns
abbrev pub turns_of : ReferenceRun → List ℕ
turns_of r = owners recorded r.steps

-- the state behind the next step of thread t
abbrev pub behind : ReferenceRun → State → ℕ → State
behind r s t = state_after s (step r.gated r.program r.input s t)

-- the states before steps from s on
unfoldable pub states_from : ReferenceRun → State → List Step → List State
states_from r s [] = []
states_from r s (x ∷ xs) = s ∷ states_from r (behind r s x.thread.0) xs

-- the state behind them
unfoldable pub last_from : ReferenceRun → State → List Step → State
last_from r s [] = s
last_from r s (x ∷ xs) = last_from r (behind r s x.thread.0) xs

-- a step as it is seen under decisions, with the machine's state before it
pub record Met : Type 0 where
  pub seen : Seen
  pub state : State

abbrev pub met_with : List Seen → List State → List Met
met_with [] ss = []
met_with (x ∷ xs) [] = []
met_with (x ∷ xs) (s ∷ ss) = record { seen = x; state = s } ∷ met_with xs ss

abbrev pub met_in : ReferenceRun → Taken → List Met
met_in r d = met_with (seen_in (reference_of r) d) (states_from r (initial r.program) r.steps)

-- ---- units: each live step; that of a freeable branch step that isn't pinned with its whole instance

abbrev pub is_event_at : Seen → Bool
is_event_at x = is_some (happening_in (kind_in x))

-- a freeable branch step that isn't pinned
abbrev pub is_instance : Taken → Seen → Bool
is_instance d x = has_region x.region && not (d.pinned x.number)

-- a unit: its live step and the machine's state before that; how many units its thread has done before; what is known behind the
-- unit; and its thread's local state and the objects there
pub record PlanUnit : Type 0 where
  pub seen : Seen
  pub state : State
  pub units : ℕ
  pub known : SymbolicState
  pub local : Option LocalState
  pub objects : Objects

-- the local state of thread t before its next live step, or in the last state where there is none
abbrev pub next_local : ℕ → State → List Met → Option LocalState
next_local t last [] = local_at last t
next_local t last (m ∷ ms) = if m.seen.live && (thread_in m.seen.moment == t) then local_at m.state t else next_local t last ms

-- the unit of a live step, behind which these come
abbrev pub unit_of : ReferenceRun → Taken → State → (ℕ → ℕ) → Met → List Met → PlanUnit
unit_of r d last counts m ms =
    let t = thread_in m.seen.moment in
    let z = behind r m.state t in
    record {
      seen = m.seen;
      state = m.state;
      units = counts t;
      known = after_step (reference_of r) d m.seen.number m.seen.moment m.seen.before;
      local = if is_instance d m.seen then next_local t last ms else local_at z t;
      objects = objects_of z;
    }

unfoldable pub units_from : ReferenceRun → Taken → State → (ℕ → ℕ) → List Met → List PlanUnit
units_from r d last counts [] = []
units_from r d last counts (m ∷ ms) =
    if m.seen.live
    then unit_of r d last counts m ms ∷ units_from r d last (one_more (thread_in m.seen.moment) counts) ms
    else units_from r d last counts ms

-- the units of a run
abbrev pub units_of : ReferenceRun → Taken → List PlanUnit
units_of r d = units_from r d (last_from r (initial r.program) r.steps) none_taken (met_in r d)

-- ---- what a unit may touch: of an access that is exact or an event its bytes, of another its bounds; of an instance the bounds
-- of its region

-- an access is at its recorded place on each admitted input: it is exact, or an event
abbrev pub is_placed : Taken → ℕ → Access → Bool
is_placed d n a = a.event || d.exact n

abbrev pub range_touched : Bool → Access → ByteRange
range_touched fixed a = if fixed then range_of a else bounds_of a.pointer

abbrev pub access_touch : Taken → ℕ → Option Access → List Footprint
access_touch d n None = []
access_touch d n (Some a) = record { bytes = range_touched (is_placed d n a) a; writes = a.writes } ∷ []

-- the access of a step is at its recorded place; the write of a create or of a join is one
abbrev pub is_placed_in : Taken → ℕ → Option Access → Bool
is_placed_in d n None = false
is_placed_in d n (Some a) = is_placed d n a

abbrev pub is_placed_access : Taken → Seen → Bool
is_placed_access d x = is_placed_in d x.number (access_in (kind_in x))

abbrev pub instance_touch : Taken → Seen → List Footprint
instance_touch d x = if is_instance d x then footprints_in x.region else []

abbrev pub touch_of : Taken → Seen → List Footprint
touch_of d x = access_touch d x.number (access_in (kind_in x)) ++ instance_touch d x

abbrev pub is_read_in : Footprint → ℕ → Bool
is_read_in f b = not f.writes && is_in f.bytes b

abbrev pub is_written_in : Footprint → ℕ → Bool
is_written_in f b = f.writes && is_in f.bytes b

abbrev pub reads_byte : Taken → Seen → ℕ → Bool
reads_byte d x b = list_any (λ f. is_read_in f b) (touch_of d x)

abbrev pub writes_byte : Taken → Seen → ℕ → Bool
writes_byte d x b = list_any (λ f. is_written_in f b) (touch_of d x)

-- a start reads its thread's word, a join with a place that of the thread that it joins
abbrev pub event_word_read : ℕ → Event → TurnKind → Option ℕ
event_word_read t e turns.Start = Some t
event_word_read t e turns.Join = if is_some e.write then Some e.object else None
event_word_read t e kind = None

-- an exit writes its thread's word, a create that of the new thread
abbrev pub event_word_written : ℕ → Event → TurnKind → Option ℕ
event_word_written t e turns.Exit = Some t
event_word_written t e turns.Create = Some e.object
event_word_written t e kind = None

abbrev pub word_read : ℕ → StepKind → Option ℕ
word_read t (kinds.Event e) = event_word_read t e e.kind
word_read t k = None

abbrev pub word_written : ℕ → StepKind → Option ℕ
word_written t (kinds.Event e) = event_word_written t e e.kind
word_written t k = None

-- cells: the bytes of memory, and behind them a word for each thread
abbrev pub reads_cell : Taken → Seen → ℕ → Bool
reads_cell d x c = if nat_lt c MEMORY_BYTES then reads_byte d x c else is_thread (word_read (thread_in x.moment) (kind_in x)) (c - MEMORY_BYTES)

abbrev pub writes_cell : Taken → Seen → ℕ → Bool
writes_cell d x c = if nat_lt c MEMORY_BYTES then writes_byte d x c else is_thread (word_written (thread_in x.moment) (kind_in x)) (c - MEMORY_BYTES)

-- ---- the plan

-- what is known of a cell; the word of a thread that isn't made is 0
abbrev pub cell_known : SymbolicState → ℕ → Symbolic
cell_known known c = if nat_lt c MEMORY_BYTES then known.bytes c else slice_index_or known.words (c - MEMORY_BYTES) (always 0)

abbrev pub standing_of : Option LocalState → List (List Symbolic) → Option Standing
standing_of None known = None
standing_of (Some l) known = Some (record { local = l; known = known })

abbrev pub PlanState : Type 0
PlanState = plans.State PlanThread Symbolic Objects

abbrev pub PlanDeed : Type 0
PlanDeed = Deed PlanThread Symbolic Objects Step

-- a state of the machine and what is known in it as a state of a plan, where each thread has done so many units
abbrev pub planned : State → SymbolicState → (ℕ → ℕ) → PlanState
planned s known counts = record {
  locals = λ t. record { standing = standing_of (local_at s t) (thread_of known t).calls; units = counts t };
  cells = cell_known known;
  objects = objects_of s;
}

abbrev pub plan_start : ReferenceRun → PlanState
plan_start r = planned (initial r.program) (start_of r.program) none_taken

-- what a unit leaves
abbrev pub deed_of : Taken → PlanUnit → PlanDeed
deed_of d u =
    let t = thread_in u.seen.moment in
    record {
      thread = t;
      to = record { standing = standing_of u.local (thread_of u.known t).calls; units = suc u.units };
      told = u.seen.moment.did.did;
      reads = reads_cell d u.seen;
      writes = λ c. if writes_cell d u.seen c then Some (cell_known u.known c) else None;
      objects = if is_event_at u.seen then Some u.objects else None;
    }

abbrev pub plan_of : ReferenceRun → Taken → List PlanDeed
plan_of r d = map (deed_of d) (units_of r d)

-- ---- premises

-- no event lies in an extent of a branch step that isn't pinned
abbrev pub ExtentsArePlain : ReferenceRun → Taken → Type 0
ExtentsArePlain r d = AllByRecursion (λ (x : Seen). x.live ≡ false → is_event_at x ≡ false) (seen_in (reference_of r) d)
