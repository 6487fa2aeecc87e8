-- A recorded run and the input that it was recorded on.
use Rattle.std.specs.Prelude.{◌≡◌, ◌<◌, ℕ, ℤ, List, Some, true, slice_index_or}
use Rattle.std.specs.List.{AllByRecursion}
use Rattle.pg_num.specs.declared.layout.TheConstants.{MEMORY_BYTES}
use Rattle.pg_run.specs.Runs.{IsRun}
use Rattle.pg_run.specs.State.{State, initial}
use Rattle.pg_slice_rules.specs.Closed.{admits}
use Rattle.pg_slice_rules.specs.Freeable.{registers_by}
use Rattle.pg_slice_rules.specs.Known.{Seen, Taken, seen_in}
use Rattle.pg_slice_rules.specs.Moments.{registers_in}
use Rattle.pg_slice_rules.specs.Rules.{registers_before}
use Rattle.pg_slice_rules.specs.SymbolicValues.{OnInput, Known, unset}
use Rattle.pg_law_instances.specs.pg_law_least.Keeps.{ExtentsKeep, every}
use Rattle.pg_law_plan.specs.pg_law_runs.Cuts.{CanRun}
use Rattle.pg_law_plan.specs.Units.{ReferenceRun, reference_of}

-- steps of the machine on an input from its first state on, in any order of the threads
pub record IsMachineRun (r : ReferenceRun) : Type 0 where
  pub can : CanRun r.program r.input
  pub last : State
  pub run : IsRun r.gated r.program r.input (initial r.program) r.steps last

-- all decisions together admit the run's own input
abbrev pub AllAdmitOwn : Type 0
AllAdmitOwn = (r : ReferenceRun) → IsMachineRun r → admits (reference_of r) every r.input ≡ true

-- so do any decisions, where the steps in extents keep to their regions
abbrev pub AnyAdmitOwn : Type 0
AnyAdmitOwn = (r : ReferenceRun) → IsMachineRun r → ExtentsKeep (reference_of r) → (d : Taken) → admits (reference_of r) d r.input ≡ true

-- what is known before a step of the registers of its thread's present call, where the step is live, and of the bytes of memory
-- is, on this input, what the machine had there
pub record IsTrueOn (input : List ℤ) (x : Seen) : Type 0 where
  pub registers : x.live ≡ true → (i : ℕ) (f g : OnInput) → slice_index_or (registers_before x) i unset ≡ Known f g → f input ≡ registers_by (registers_in x.moment.calls) i
  pub bytes : (b : ℕ) (f g : OnInput) → b < MEMORY_BYTES → x.before.bytes b ≡ Known f g → f input ≡ Some (x.moment.bytes b)

-- before each step of a run on its own input, under any decisions
abbrev pub KnownIsTrue : Type 0
KnownIsTrue = (r : ReferenceRun) → IsMachineRun r → ExtentsKeep (reference_of r) → (d : Taken) → AllByRecursion (IsTrueOn r.input) (seen_in (reference_of r) d)
