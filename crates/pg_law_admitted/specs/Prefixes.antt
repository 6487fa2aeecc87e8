-- The four parts of the invariant, each as it is said of a prefix of the full guided run: values, memory, free regions, order.
use Rattle.std.specs.Prelude.{◌==◌, ◌≡◌, ◌⊎◌, ◌<◌, ℕ, ℤ, List, [], ◌∷◌, ◌++◌, map, filter, false, true, Option, Some, None, slice_get, if◌then◌else◌}
use Rattle.std.specs.List.{AllByRecursion}
use Rattle.pg_num.specs.declared.layout.TheConstants.{MEMORY_BYTES}
use Rattle.pg_region_accesses.specs.Accesses.{RootedList}
use Rattle.pg_ir.specs.declared.ids.InstrId.{InstrId}
use Rattle.pg_run_thread.specs.LocalState.{Frame, LocalState}
use Rattle.pg_run_trace.specs.declared.step.Step.{Step}
use Rattle.pg_run_trace.specs.declared.turn.Turn.{Turn}
use Rattle.pg_run_trace.specs.Races.{recorded}
use Rattle.pg_run.specs.Permitted.{has_turn, turns_left}
use Rattle.pg_run.specs.State.{State}
use Rattle.pg_slice_rules.specs.Known.{Taken, thread_of}
use Rattle.pg_slice_rules.specs.SymbolicValues.{Known, OnInput, Symbolic}
use Rattle.pg_law_effects.specs.Views.{local_at}
use Rattle.pg_law_plan.specs.pg_law_runs.Cuts.{IsFrontOf}
use Rattle.pg_law_plan.specs.Units.{PlanUnit, ReferenceRun, is_instance, is_placed_access, reads_cell, units_of, writes_cell}
use Rattle.pg_law_admitted.specs.Invariant.{IsInInstance, Portion, StandsAtNext, StaysInInstance, owner, steps_in, units_by}

-- ---- values: outside instances each thread has done a prefix of its live steps of the reference run, the same instructions in
-- the same order. A value that is known at such a step is that of its function on this input

abbrev pub instr_at : PlanUnit → InstrId
instr_at u = u.seen.moment.did.did.instr

-- the instructions of thread t's steps outside instances, a branch step at which an instance begins among them
abbrev pub instrs_done : ℕ → List Portion → List InstrId
instrs_done t es = map (λ (e : Portion). e.step.instr) (filter (λ (e : Portion). t == e.step.thread.0) es)

-- before the step of a thread that has begun each register of its calls that is known has the number that its function gives
abbrev pub HasKnownValues : List ℤ → Portion → Type 0
HasKnownValues input e =
    (l : LocalState) (call k : ℕ) (known : List Symbolic) (f g : OnInput) → local_at e.state (owner e.unit) ≡ Some l →
    slice_get (thread_of e.unit.seen.before (owner e.unit)).calls call ≡ Some known → slice_get known k ≡ Some (Known f g) →
    (frame : Frame) × (slice_get l.frames call ≡ Some frame) × (slice_get frame.registers k ≡ Some (f input))

pub record KeepsValues (r : ReferenceRun) (d : Taken) (input : List ℤ) (es : List Portion) : Type 0 where
  pub same : (t : ℕ) → IsFrontOf (instrs_done t es) (map instr_at (units_by t (units_of r d)))
  pub known : AllByRecursion (HasKnownValues input) es

-- ---- memory: each byte that a live step may read, the bytes of exact loads and those that the paths of unpinned branch steps load
-- among them, was last written by the store that is its source under the decisions, where that is exact or an event, and is
-- initial where it has neither a store nor an instance as its source. Else nothing is said of it

abbrev pub or_earlier : Option PlanUnit → Option PlanUnit → Option PlanUnit
or_earlier None v = v
or_earlier (Some u) v = Some u

-- the last of these units that may write the byte
abbrev pub source_in : Taken → ℕ → List PlanUnit → Option PlanUnit
source_in d b [] = None
source_in d b (u ∷ us) = or_earlier (source_in d b us) (if writes_cell d u.seen b then Some u else None)

-- none of the steps writes the byte
abbrev pub NoneWrites : ℕ → List Step → Type 0
NoneWrites b xs = AllByRecursion (λ (x : Step). recorded.writes x b ≡ false) xs

-- the last write of the byte among these portions is that of unit v
pub record IsLastWrittenBy (es : List Portion) (v : PlanUnit) (b : ℕ) : Type 0 where
  pub before : List Portion
  pub portion : Portion
  pub later : List Portion
  pub among : es ≡ before ++ portion ∷ later
  pub unit : portion.unit ≡ v
  pub writes : recorded.writes portion.step b ≡ true
  pub last : NoneWrites b (portion.inner ++ steps_in later)

abbrev pub IsFromSource : Taken → List Portion → ℕ → Option PlanUnit → Type 0
IsFromSource d es b None = NoneWrites b (steps_in es)
IsFromSource d es b (Some v) = is_placed_access d v.seen ≡ true → IsLastWrittenBy es v b

abbrev pub KeepsMemory : ReferenceRun → Taken → List Portion → Type 0
KeepsMemory r d es =
    (before : List Portion) (e : Portion) (later : List Portion) (us vs : List PlanUnit) (b : ℕ) → es ≡ before ++ e ∷ later → units_of r d ≡ us ++ e.unit ∷ vs →
    b < MEMORY_BYTES → reads_cell d e.unit.seen b ≡ true → IsFromSource d before b (source_in d b us)

-- ---- free regions: a thread that has a turn left and doesn't stand at its next live step is inside an instance. In each
-- instance, finished or not, its thread has done no event, and has read and written only within the recorded bounds

pub record KeepsRegions (r : ReferenceRun) (d : Taken) (input : List ℤ) (sums : ℕ → Option RootedList) (turns : List Turn) (es : List Portion) (xs : List Step) (z : State) : Type 0 where
  pub threads : (t : ℕ) → has_turn t (turns_left turns xs) ≡ true → StandsAtNext r d input es t z ⊎ IsInInstance r d sums es t z
  pub instances : AllByRecursion (λ (e : Portion). is_instance d e.unit.seen ≡ true → StaysInInstance r sums e) es
