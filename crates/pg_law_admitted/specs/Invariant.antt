-- What holds of each prefix of the full guided run on an admitted input: it does units of the reference run.
use Rattle.std.specs.Prelude.{◌≡◌, ◌⊎◌, ◌==◌, ℕ, ℤ, List, [], ◌∷◌, ◌++◌, ◌<◌, filter, length, map, false, true, Option, Some}
use Rattle.std.specs.List.{AllByRecursion}
use Rattle.pg_num.specs.declared.layout.TheConstants.{MEMORY_BYTES}
use Rattle.pg_region_accesses.specs.Accesses.{RootedList}
use Rattle.pg_law_threads.specs.Plans.{Follows}
use Rattle.pg_law_threads.specs.Steps.{Conflict, View, touches}
use Rattle.pg_run_thread.specs.LocalState.{LocalState}
use Rattle.pg_run_trace.specs.declared.step.Step.{Step}
use Rattle.pg_run_trace.specs.declared.turn.Turn.{Turn}
use Rattle.pg_run_trace.specs.Races.{recorded}
use Rattle.pg_run.specs.Permitted.{has_turn, turns_left}
use Rattle.pg_run.specs.Runs.{IsRun, events}
use Rattle.pg_run.specs.State.{State, initial}
use Rattle.pg_slice_rules.specs.Known.{Taken, thread_of}
use Rattle.pg_slice_rules.specs.Moments.{thread_in}
use Rattle.pg_law_effects.specs.Views.{cell_at, local_at, objects_of}
use Rattle.pg_law_instances.specs.Stays.{IsWithinExtent, TellsWithin}
use Rattle.pg_law_plan.specs.pg_law_runs.Cuts.{IsFrontOf, IsOrderedAlong}
use Rattle.pg_law_plan.specs.Likes.{IsCellLike, IsToldLike, StandLike, like}
use Rattle.pg_law_plan.specs.Lists.{Has}
use Rattle.pg_law_plan.specs.Moves.{RunState}
use Rattle.pg_law_plan.specs.Units.{PlanUnit, ReferenceRun, cell_known, is_event_at, is_instance, is_placed_access, plan_of, plan_start, reads_cell, standing_of, turns_of, units_of, writes_cell}
use Rattle.pg_law_admitted.specs.Free.{BeginsInstance, begun_instance}

-- ---- a prefix by the units that it does

-- what the run does of a unit: from this state on the unit's live step, and behind it, where the unit is an instance, the steps
-- inside of it, as many as are done by then
pub record Portion : Type 0 where
  pub unit : PlanUnit
  pub state : State
  pub step : Step
  pub inner : List Step

abbrev pub owner : PlanUnit → ℕ
owner u = thread_in u.seen.moment

abbrev pub units_done : List Portion → List PlanUnit
units_done es = map (λ (e : Portion). e.unit) es

-- the units of thread t
abbrev pub units_by : ℕ → List PlanUnit → List PlanUnit
units_by t us = filter (λ (u : PlanUnit). t == owner u) us

-- all the steps, one portion behind another
abbrev pub steps_in : List Portion → List Step
steps_in [] = []
steps_in (e ∷ es) = e.step ∷ (e.inner ++ steps_in es)

-- each portion begins where those before it lead, and the last leads to z
abbrev pub AreChained : ReferenceRun → List ℤ → State → List Portion → State → Type 0
AreChained r input s [] z = s ≡ z
AreChained r input s (e ∷ es) z = (e.state ≡ s) × ((m : State) × IsRun r.gated r.program input s (e.step ∷ e.inner) m × AreChained r input m es z)

-- ---- what a unit rests on

-- in s the unit's thread stands at the unit's live step: in calls of the same functions, at the same places and with the same
-- heights of stack and heap; each known register has its number on this input, and known bounds are those of its pointer
abbrev pub StandsAtUnit : List ℤ → PlanUnit → State → Type 0
StandsAtUnit input u s = StandLike input (standing_of (local_at u.state (owner u)) (thread_of u.seen.before (owner u)).calls) (local_at s (owner u))

-- and so has each known cell that the unit may read; an event finds the objects of the reference run
pub record RestsAlike (input : List ℤ) (d : Taken) (u : PlanUnit) (s : State) : Type 0 where
  pub thread : StandsAtUnit input u s
  pub cells : (c : ℕ) → reads_cell d u.seen c ≡ true → IsCellLike input (cell_known u.seen.before c) (cell_at s c)
  pub objects : is_event_at u.seen ≡ true → objects_of u.state ≡ objects_of s

-- ---- one portion

-- a unit as a step that reads and writes all that it may
abbrev pub may_touch : Taken → View PlanUnit
may_touch d = record {
  thread = owner;
  is_event = λ u. is_event_at u.seen;
  reads = λ u c. reads_cell d u.seen c;
  writes = λ u c. writes_cell d u.seen c;
}

-- its steps are of one thread, and each is no event and accesses recorded bounds of the region alone
pub record StaysInInstance (r : ReferenceRun) (sums : ℕ → Option RootedList) (e : Portion) : Type 0 where
  pub begun : BeginsInstance r sums e.unit e.state
  pub own : AllByRecursion (λ (x : Step). x.thread.0 ≡ owner e.unit) (e.step ∷ e.inner)
  pub tells : AllByRecursion (λ (x : Step). TellsWithin (begun_instance r sums e.unit e.state begun) x.kind) (e.step ∷ e.inner)

-- the step reads and writes no more cells than the unit may
pub record TouchesWithin (d : Taken) (u : PlanUnit) (x : Step) : Type 0 where
  pub reads : (c : ℕ) → recorded.reads x c ≡ true → touches (may_touch d) u c ≡ true
  pub writes : (c : ℕ) → recorded.writes x c ≡ true → writes_cell d u.seen c ≡ true

-- the one step of a unit whose access is exact or an event writes each byte that the unit may write
pub record IsPlaced (d : Taken) (e : Portion) : Type 0 where
  pub single : e.inner ≡ []
  pub writes : (c : ℕ) → c < MEMORY_BYTES → writes_cell d e.unit.seen c ≡ true → recorded.writes e.step c ≡ true

-- the run does of a unit what this allows: the same instruction of the same thread, and the same turn with the same reply
pub record IsOfUnit (r : ReferenceRun) (d : Taken) (input : List ℤ) (sums : ℕ → Option RootedList) (e : Portion) : Type 0 where
  pub has : Has (units_of r d) e.unit
  pub rests : RestsAlike input d e.unit e.state
  pub told : IsToldLike e.unit.seen.moment.did.did e.step
  pub touches : AllByRecursion (TouchesWithin d e.unit) (e.step ∷ e.inner)
  pub placed : is_placed_access d e.unit.seen ≡ true → IsPlaced d e
  pub single : is_instance d e.unit.seen ≡ false → e.inner ≡ []
  pub inside : is_instance d e.unit.seen ≡ true → StaysInInstance r sums e

-- ---- the order of the units

-- units of one thread, or units that may conflict
abbrev pub AreTied : Taken → PlanUnit → PlanUnit → Type 0
AreTied d u v = (owner u ≡ owner v) ⊎ Conflict (may_touch d) u v

-- of the units that are tied to that of a portion, those before it in the reference run are done before the portion, and no others are
abbrev pub AreInOrder : ReferenceRun → Taken → List Portion → Type 0
AreInOrder r d es =
    (before : List Portion) (e : Portion) (later : List Portion) (us vs : List PlanUnit) (w : PlanUnit) → es ≡ before ++ e ∷ later → units_of r d ≡ us ++ e.unit ∷ vs →
    AreTied d w e.unit → (Has us w → Has (units_done before) w) × (Has (units_done before) w → Has us w)

-- ---- where threads stand behind a prefix

-- thread t has done these units, and stands in z at the live step of its next one
pub record StandsAtNext (r : ReferenceRun) (d : Taken) (input : List ℤ) (es : List Portion) (t : ℕ) (z : State) : Type 0 where
  pub unit : PlanUnit
  pub later : List PlanUnit
  pub next : units_by t (units_of r d) ≡ units_by t (units_done es) ++ unit ∷ later
  pub stands : StandsAtUnit input unit z

-- in z thread t is inside the instance that this portion began
pub record StandsInside (r : ReferenceRun) (d : Taken) (sums : ℕ → Option RootedList) (e : Portion) (t : ℕ) (z : State) : Type 0 where
  pub own : owner e.unit ≡ t
  pub free : is_instance d e.unit.seen ≡ true
  pub begun : BeginsInstance r sums e.unit e.state
  pub local : LocalState
  pub is_local : local_at z t ≡ Some local
  pub within : IsWithinExtent (begun_instance r sums e.unit e.state begun) local

-- the last portion of thread t is an instance, and in z the thread is inside of it
pub record IsInInstance (r : ReferenceRun) (d : Taken) (sums : ℕ → Option RootedList) (es : List Portion) (t : ℕ) (z : State) : Type 0 where
  pub before : List Portion
  pub portion : Portion
  pub later : List Portion
  pub among : es ≡ before ++ portion ∷ later
  pub last : AllByRecursion (λ (e : Portion). owner e.unit ≡ t → ⊥) later
  pub inside : StandsInside r d sums portion t z

-- a state a as which z looks, but for threads inside of instances, whose state there isn't looked at
pub record LooksButInside (r : ReferenceRun) (d : Taken) (sums : ℕ → Option RootedList) (es : List Portion) (a : RunState) (z : State) : Type 0 where
  pub locals : (t : ℕ) → ((a.locals t).local ≡ local_at z t) ⊎ IsInInstance r d sums es t z
  pub cells : (c : ℕ) → a.cells c ≡ cell_at z c
  pub objects : a.objects ≡ objects_of z

-- ---- the invariant

-- the steps xs, a prefix of the full guided run that leads to z, fall into portions, each as its unit allows;
pub record Invariant (r : ReferenceRun) (d : Taken) (input : List ℤ) (sums : ℕ → Option RootedList) (turns : List Turn) (xs : List Step) (z : State) : Type 0 where
  pub portions : List Portion
  pub whole : steps_in portions ≡ xs
  pub chained : AreChained r input (initial r.program) portions z
  pub each : AllByRecursion (IsOfUnit r d input sums) portions
  -- of each thread these do its first units, in their order;
  pub fronts : (t : ℕ) → IsFrontOf (units_by t (units_done portions)) (units_by t (units_of r d))
  -- units of one thread, and units that may conflict, are done in the order of the reference run;
  pub in_order : AreInOrder r d portions
  -- the state is like what the units that are done leave: the plan's, in the reference run's order;
  pub at : RunState
  pub cut : Follows (like input) (turns_of r) (plan_start r) (plan_of r d) (length (events xs)) at
  pub looks : LooksButInside r d sums portions at z
  -- a thread that has a turn left stands at its next unit, or is inside an instance;
  pub threads : (t : ℕ) → has_turn t (turns_left turns xs) ≡ true → StandsAtNext r d input portions t z ⊎ IsInInstance r d sums portions t z
  -- and the steps are ordered along the turns
  pub ordered : IsOrderedAlong turns xs
