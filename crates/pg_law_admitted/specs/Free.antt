-- Branch steps that are left free, on an admitted input.
use Rattle.std.specs.Prelude.{◌≡◌, ◌⊎◌, ℕ, suc, ℤ, List, ◌∷◌, [], drop, Option, Some, None, false, true, Contains, slice_get, if◌then◌else◌}
use Rattle.std.specs.List.{AllByRecursion, list_any}
use Rattle.pg_num.specs.Places.{ByteRange}
use Rattle.pg_region_accesses.specs.Accesses.{RootedList}
use Rattle.pg_region.specs.declared.region.Region.{Region}
use Rattle.pg_run_thread.specs.LocalState.{Frame, LocalState}
use Rattle.pg_law_threads.specs.Effects.{IsSame}
use Rattle.pg_run_trace.specs.declared.step.Step.{Step}
use Rattle.pg_run_trace.specs.declared.turn.Turn.{Turn}
use Rattle.pg_run_trace.specs.Races.{is_in, recorded}
use Rattle.pg_run.specs.Runs.{IsRun}
use Rattle.pg_run.specs.MachineStep.{is_gated}
use Rattle.pg_run.specs.State.{State}
use Rattle.pg_slice_rules.specs.Freeable.{FreeAccess, FreeRegion}
use Rattle.pg_slice_rules.specs.Known.{Taken, thread_of}
use Rattle.pg_slice_rules.specs.Moments.{thread_in}
use Rattle.pg_law_effects.specs.PermittedSteps.{MayTake}
use Rattle.pg_law_effects.specs.Reached.{IsReached}
use Rattle.pg_law_effects.specs.Views.{cell_at}
use Rattle.pg_law_instances.specs.Free.{instance_of}
use Rattle.pg_law_instances.specs.Inside.{Instance, IsAtJoin}
use Rattle.pg_law_instances.specs.Instances.{ChangesLittle}
use Rattle.pg_law_instances.specs.Stays.{AreOf, CanStepInside, TellsWithin}
use Rattle.pg_law_instances.specs.pg_slice_replay.OfRegions.{may_set}
use Rattle.pg_law_plan.specs.Lists.{Has}
use Rattle.pg_law_plan.specs.Likes.{StandLike}
use Rattle.pg_law_plan.specs.Moves.{IsMove, LooksTo, RunDeed, RunState, moved}
use Rattle.pg_law_plan.specs.Units.{PlanUnit, ReferenceRun, is_instance, reads_cell, standing_of, units_of}

-- the accesses of a step's region
abbrev pub accesses_of : Option FreeRegion → List FreeAccess
accesses_of None = []
accesses_of (Some q) = q.accesses

-- each byte that a path of the unit's region loads is one that the unit reads, where its branch step is left free
abbrev pub ReadsPaths : Taken → PlanUnit → Type 0
ReadsPaths d u = is_instance d u.seen ≡ true → (a : FreeAccess) → Contains (accesses_of u.seen.region) a → (c : ByteRange) → Contains a.at.cells c → (b : ℕ) → is_in c b ≡ true
    → reads_cell d u.seen b ≡ true

abbrev pub PathsAreRead : ReferenceRun → Taken → Type 0
PathsAreRead r d = AllByRecursion (ReadsPaths d) (units_of r d)

-- in s the unit's thread stands at its branch, and its steps from there on stay within the region as it was recorded
pub record BeginsInstance (r : ReferenceRun) (sums : ℕ → Option RootedList) (u : PlanUnit) (s : State) : Type 0 where
  pub region : Region
  pub free : FreeRegion
  pub local : LocalState
  pub frame : Frame
  pub lower : List Frame
  pub is_region : u.seen.region ≡ Some free
  pub is_local : slice_get s.locals (thread_in u.seen.moment) ≡ Some local
  pub frames : local.frames ≡ frame ∷ lower
  pub join : free.join ≡ region.join
  pub sets : (k : ℕ) → free.sets k ≡ may_set r.program region k
  pub can : CanStepInside (instance_of r.program (λ i. is_gated r.gated i) sums region free s local frame lower) r.gated s (thread_in u.seen.moment) local

abbrev pub begun_instance : (r : ReferenceRun) (sums : ℕ → Option RootedList) (u : PlanUnit) (s : State) → BeginsInstance r sums u s → Instance
begun_instance r sums u s b = instance_of r.program (λ i. is_gated r.gated i) sums b.region b.free s b.local b.frame b.lower

-- behind the unit its thread stands in the reference run at the join of the region, in the branch's call
pub record JoinsAgain (r : ReferenceRun) (sums : ℕ → Option RootedList) (u : PlanUnit) : Type 0 where
  pub begun : BeginsInstance r sums u u.state
  pub local : LocalState
  pub is_local : u.local ≡ Some local
  pub joined : IsAtJoin (begun_instance r sums u u.state begun) local

-- so does each unit that is a branch step left free
abbrev pub UnitsJoinAgain : ReferenceRun → (ℕ → Option RootedList) → Taken → Type 0
UnitsJoinAgain r sums d = AllByRecursion (λ (u : PlanUnit). is_instance d u.seen ≡ true → JoinsAgain r sums u) (units_of r d)

-- ---- moves of instances

-- what these steps of one thread do together, none of them an event, where they lead to this state, and leave the thread there
abbrev pub deed_along : (ℕ → ℕ) → Step → List Step → State → Option LocalState → RunDeed
deed_along moves x xs end local = record {
  thread = x.thread.0;
  to = record { local = local; moves = suc (moves x.thread.0) };
  told = x;
  reads = λ c. list_any (λ y. recorded.reads y c) (x ∷ xs);
  writes = λ c. if list_any (λ y. recorded.writes y c) (x ∷ xs) then Some (cell_at end c) else None;
  objects = None;
}

-- in what looks to the unit's thread like a, where g of the turns are done, the steps of the thread from its branch on: the first
-- may be taken along the turns, and each is within the region
pub record StepsInside (r : ReferenceRun) (input : List ℤ) (sums : ℕ → Option RootedList) (turns : List Turn) (u : PlanUnit) (a : RunState) (g : ℕ) : Type 0 where
  pub state : State
  pub moves : ℕ → ℕ
  pub taken : ℕ → ℕ
  pub reached : IsReached r.program state
  pub looks : LooksTo (thread_in u.seen.moment) a (moved state moves)
  pub begun : BeginsInstance r sums u state
  pub told : Step
  pub inner : List Step
  pub end : State
  pub may : MayTake r.gated r.program input state (drop g turns) taken told
  pub run : IsRun r.gated r.program input state (told ∷ inner) end
  pub own : AreOf (thread_in u.seen.moment) (told ∷ inner)
  pub tells : AllByRecursion (λ (x : Step). TellsWithin (begun_instance r sums u state begun) x.kind) (told ∷ inner)
  pub changes : ChangesLittle (begun_instance r sums u state begun) (thread_in u.seen.moment) state end

-- a whole instance: the last of the steps leads to the join
pub record IsWholeMove (r : ReferenceRun) (input : List ℤ) (sums : ℕ → Option RootedList) (turns : List Turn) (u : PlanUnit) (a : RunState) (g : ℕ) (e : RunDeed) : Type 0 where
  pub steps : StepsInside r input sums turns u a g
  pub local : LocalState
  pub is_local : slice_get steps.end.locals (thread_in u.seen.moment) ≡ Some local
  pub joined : IsAtJoin (begun_instance r sums u steps.state steps.begun) local
  pub is_deed : IsSame e (deed_along steps.moves steps.told steps.inner steps.end (Some local))

-- a part of an instance, behind which the thread takes no more steps. Where that leaves it isn't looked at any more: in its place
-- stands where it might have come, alike with where the unit leads
pub record IsPartMove (r : ReferenceRun) (input : List ℤ) (sums : ℕ → Option RootedList) (turns : List Turn) (u : PlanUnit) (a : RunState) (g : ℕ) (e : RunDeed) : Type 0 where
  pub steps : StepsInside r input sums turns u a g
  pub local : LocalState
  pub stands : StandLike input (standing_of u.local (thread_of u.known (thread_in u.seen.moment)).calls) (Some local)
  pub is_deed : IsSame e (deed_along steps.moves steps.told steps.inner steps.end (Some local))

-- ---- moves of either kind

-- the unit of thread t behind so many is a single step
abbrev pub IsSingle : ReferenceRun → Taken → ℕ → ℕ → Type 0
IsSingle r d t k = (u : PlanUnit) → Has (units_of r d) u → thread_in u.seen.moment ≡ t → u.units ≡ k → is_instance d u.seen ≡ false

-- a step, where its thread's next unit is a single one
pub record IsSingleMove (r : ReferenceRun) (d : Taken) (input : List ℤ) (turns : List Turn) (a : RunState) (g : ℕ) (e : RunDeed) : Type 0 where
  pub move : IsMove r.gated r.program input turns a g e
  pub single : IsSingle r d e.thread (a.locals e.thread).moves

-- an instance, whole or a part of it, where it is a branch step that is left free
pub record IsFreeMove (r : ReferenceRun) (d : Taken) (input : List ℤ) (sums : ℕ → Option RootedList) (turns : List Turn) (a : RunState) (g : ℕ) (e : RunDeed) : Type 0 where
  pub unit : PlanUnit
  pub has : Has (units_of r d) unit
  pub free : is_instance d unit.seen ≡ true
  pub move : IsWholeMove r input sums turns unit a g e ⊎ IsPartMove r input sums turns unit a g e
  pub units : (a.locals (thread_in unit.seen.moment)).moves ≡ unit.units
  pub thread : e.thread ≡ thread_in unit.seen.moment

abbrev pub IsAnyMove : ReferenceRun → Taken → List ℤ → (ℕ → Option RootedList) → List Turn → RunState → ℕ → RunDeed → Type 0
IsAnyMove r d input sums turns a g e = IsSingleMove r d input turns a g e ⊎ IsFreeMove r d input sums turns a g e
