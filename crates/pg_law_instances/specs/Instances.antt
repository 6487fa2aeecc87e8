-- The instance at the front of a run of one thread alone.
use Rattle.std.specs.Prelude.{◌≡◌, ℕ, ◌<◌, ◌⊎◌, ℤ, List, [], ◌++◌, Some, slice_get}
use Rattle.std.specs.List.{AllByRecursion}
use Rattle.pg_num.specs.declared.layout.TheConstants.{MEMORY_BYTES}
use Rattle.pg_run_memory.specs.Memory.{byte_at}
use Rattle.pg_ir.specs.declared.ids.InstrId.{InstrId}
use Rattle.pg_run_thread.specs.LocalState.{LocalState}
use Rattle.pg_run_trace.specs.declared.step.Step.{Step}
use Rattle.pg_run.specs.State.{State}
use Rattle.pg_run.specs.Runs.{IsRun}
use Rattle.pg_run.specs.Locality.{LeavesRest}
use Rattle.pg_law_instances.specs.Inside.{Instance, IsAtJoin}
use Rattle.pg_law_instances.specs.Stays.{AreOf, CanStepInside, IsOutside, IsWithinExtent, TellsWithin}

-- from s to z nothing has changed but thread t's local state, and bytes in the bounds of recorded stores
pub record ChangesLittle (I : Instance) (t : ℕ) (s z : State) : Type 0 where
  pub others : (u : ℕ) → (u ≡ t → ⊥) → slice_get z.locals u ≡ slice_get s.locals u
  pub rest : LeavesRest s z
  pub bytes : (b : ℕ) → b < MEMORY_BYTES → IsOutside I.recorded b → byte_at z.memory b ≡ byte_at s.memory b

-- of steps of thread t alone, those up to the first that leads to the join, or all where none does: each is no event and
-- accesses recorded bounds alone, and together they change little
pub record HasInstance (I : Instance) (gated : List InstrId) (input : List ℤ) (t : ℕ) (s : State) (xs : List Step) (z : State) : Type 0 where
  pub inner : List Step
  pub rest : List Step
  pub whole : xs ≡ inner ++ rest
  pub local : LocalState
  pub state : State
  pub is_local : slice_get state.locals t ≡ Some local
  pub front : IsRun gated I.program input s inner state
  pub behind : IsRun gated I.program input state rest z
  pub ends : IsAtJoin I local ⊎ ((rest ≡ []) × IsWithinExtent I local)
  pub tells : AllByRecursion (λ (x : Step). TellsWithin I x.kind) inner
  pub changes : ChangesLittle I t s state

abbrev pub RunsHaveInstances : Type 0
RunsHaveInstances = (I : Instance) (gated : List InstrId) (input : List ℤ) (s z : State) (t : ℕ) (l : LocalState) (xs : List Step) → CanStepInside I gated s t l →
    IsRun gated I.program input s xs z → AreOf t xs → HasInstance I gated input t s xs z
