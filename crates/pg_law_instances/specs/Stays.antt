-- What a step of a thread inside an instance does.
use Rattle.std.specs.Prelude.{◌≡◌, ℕ, ◌<◌, ◌⊎◌, ℤ, List, [], ◌∷◌, true, false, Some, slice_get}
use Rattle.std.specs.List.{AllByRecursion}
use Rattle.pg_num.specs.Places.{ByteRange}
use Rattle.pg_num.specs.declared.layout.TheConstants.{MEMORY_BYTES}
use Rattle.pg_run_memory.specs.Memory.{byte_at, read}
use Rattle.pg_ir.specs.declared.ids.InstrId.{InstrId}
use Rattle.pg_run_thread.specs.LocalState.{LocalState}
use Rattle.pg_run_trace.specs.declared.step.Step.{Step}
use Rattle.pg_run_trace.specs.declared.step.Access.{Access}
use Rattle.pg_run_trace.specs.declared.step.StepKind.{StepKind}
use Rattle.pg_run_trace.specs.declared.step.StepKind.TheVariants as kinds
use Rattle.pg_run_trace.specs.Steps.{range_of}
use Rattle.pg_run.specs.State.{State}
use Rattle.pg_run.specs.MachineStep.{Did, is_gated, ready, step}
use Rattle.pg_run.specs.Locality.{LeavesRest}
use Rattle.pg_run.specs.Runs.{IsRun, Takes}
use Rattle.pg_slice_replay.specs.pg_slice_rules.Freeable.{FreeAccess, bounds_of}
use Rattle.pg_slice_replay.specs.pg_slice_rules.SymbolicValues.{is_within}
use Rattle.pg_law_instances.specs.Leads.{IsReached, IsWithin, KeepsCells}
use Rattle.pg_law_instances.specs.Inside.{Instance, IsInside, Joins, IsAtBranch}

-- an access that is no event, in the bounds of its pointer, which are the recorded bounds of an access of its kind
pub record AccessesWithin (I : Instance) (a : Access) : Type 0 where
  pub plain : a.event ≡ false
  pub bounds : IsReached I.recorded a.writes (bounds_of a.pointer)
  pub within : IsWithin (range_of a) (bounds_of a.pointer)

-- a step that isn't an event and allocates nothing, and whose access is within recorded bounds
abbrev pub TellsWithin : Instance → StepKind → Type 0
TellsWithin I kinds.Other = Unit {0}
TellsWithin I (kinds.Branch c) = Unit {0}
TellsWithin I (kinds.Access a) = AccessesWithin I a
TellsWithin I k = ⊥

-- the thread is at the branch step, or inside
abbrev pub IsWithinExtent : Instance → LocalState → Type 0
IsWithinExtent I l = (l ≡ I.state) ⊎ IsInside I l

-- a byte in no bounds to which a recorded store leads
abbrev pub IsOutside : List FreeAccess → ℕ → Type 0
IsOutside xs b = (bounds : ByteRange) → IsReached xs true bounds → is_within bounds b ≡ false

-- a step of thread t, whose local state is l, from s to z tells no event and no allocation, and accesses recorded bounds
-- alone; it leaves the thread inside or takes the edge to the join; and it leaves the other threads, all but memory, the
-- numbers that recorded paths load, and each byte outside of the bounds of recorded stores
pub record StaysInside (I : Instance) (t : ℕ) (l : LocalState) (x : Step) (s z : State) : Type 0 where
  pub tells : TellsWithin I x.kind
  pub local : LocalState
  pub is_local : slice_get z.locals t ≡ Some local
  pub goes_on : IsInside I local ⊎ Joins I l local
  pub others : (u : ℕ) → (u ≡ t → ⊥) → slice_get z.locals u ≡ slice_get s.locals u
  pub rest : LeavesRest s z
  pub cells : KeepsCells I.recorded I.memory (read z.memory)
  pub bytes : (b : ℕ) → b < MEMORY_BYTES → IsOutside I.recorded b → byte_at z.memory b ≡ byte_at s.memory b

-- of a thread that is at the branch step or inside, while recorded paths load what they loaded at the branch step
pub record CanStepInside (I : Instance) (gated : List InstrId) (s : State) (t : ℕ) (l : LocalState) : Type 0 where
  pub branch : IsAtBranch I
  pub gates : (i : ℕ) → is_gated gated i ≡ I.gated i
  pub is_local : slice_get s.locals t ≡ Some l
  pub within : IsWithinExtent I l
  pub cells : KeepsCells I.recorded I.memory (read s.memory)

abbrev pub StepsInsideStay : Type 0
StepsInsideStay = (I : Instance) (gated : List InstrId) (input : List ℤ) (s z : State) (t : ℕ) (l : LocalState) (x : Step) → CanStepInside I gated s t l →
    ready I.program s t ≡ true → step gated I.program input s t ≡ Did x z → StaysInside I t l x s z

-- ---- a thread alone

-- from s on these steps stay inside, all of them or up to the first that leads to the join
abbrev pub StaysUntilJoin : Instance → List InstrId → List ℤ → ℕ → LocalState → State → List Step → Type 0
StaysUntilJoin I gated input t l s [] = Unit {0}
StaysUntilJoin I gated input t l s (x ∷ xs) =
    (k : Takes gated I.program input s x) × (j : StaysInside I t l x s k.after) × (Joins I l j.local ⊎ (IsInside I j.local × StaysUntilJoin I gated input t j.local k.after xs))

-- all steps are of thread t
abbrev pub AreOf : ℕ → List Step → Type 0
AreOf t xs = AllByRecursion (λ (x : Step). x.thread.0 ≡ t) xs

abbrev pub TheThreadAlone : Type 0
TheThreadAlone = (I : Instance) (gated : List InstrId) (input : List ℤ) (s z : State) (t : ℕ) (l : LocalState) (xs : List Step) → CanStepInside I gated s t l →
    IsRun gated I.program input s xs z → AreOf t xs → StaysUntilJoin I gated input t l s xs
