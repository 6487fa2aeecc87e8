-- A branch that is reached inside an instance has its region within it.
use Rattle.std.specs.Prelude.{◌≡◌, ℕ, ◌<◌, ◌^◌, ℤ, List, ◌∷◌, length, Option, Some, Contains, slice_get}
use Rattle.pg_run_memory.specs.Memory.{read}
use Rattle.pg_ir.specs.declared.ids.InstrId.{InstrId}
use Rattle.pg_ir.specs.declared.instr.Instr.{Instr}
use Rattle.pg_ir.specs.Program.{NumberedProgram}
use Rattle.pg_region_paths.specs.FollowedPaths.{PathPointers, followed}
use Rattle.pg_region_accesses.specs.declared.rooted.Rooted.{Rooted}
use Rattle.pg_region_accesses.specs.Accesses.{RootedList}
use Rattle.pg_region.specs.declared.region.Region.{Region}
use Rattle.pg_region.specs.Regions.{IsRegion}
use Rattle.pg_region.specs.Laws.{AreNested}
use Rattle.pg_run_thread.specs.LocalState.{Frame, LocalState}
use Rattle.pg_run_trace.specs.declared.step.Step.{Step}
use Rattle.pg_run.specs.State.{State}
use Rattle.pg_run.specs.MachineStep.{is_gated}
use Rattle.pg_run.specs.Runs.{IsRun}
use Rattle.pg_slice_replay.specs.pg_law_effects.Reached.{IsReached}
use Rattle.pg_slice_replay.specs.pg_slice_rules.Freeable.{FreeRegion, bounds_of}
use Rattle.pg_law_instances.specs.Free.{instance_of}
use Rattle.pg_law_instances.specs.Inside.{Instance, IsInside, registers_by}
use Rattle.pg_law_instances.specs.Leads.{IsReached as LeadsTo}
use Rattle.pg_law_instances.specs.Stays.{CanStepInside}
use Rattle.pg_law_instances.specs.Together.{AreTogether, IsNext}

-- thread t, whose local state is l in s, is inside the instance, and goes on alone until its next event
pub record GoesOnInside (I : Instance) (gated : List InstrId) (input : List ℤ) (s : State) (t : ℕ) (l : LocalState) : Type 0 where
  pub can : CanStepInside I gated s t l
  pub inside : IsInside I l
  pub reached : IsReached I.program s
  pub small : length input < 2 ^ 64
  pub steps : List Step
  pub end : State
  pub run : IsRun gated I.program input s steps end
  pub together : AreTogether steps
  pub next : IsNext t steps

-- at a branch the region's accesses lead from here to recorded bounds of accesses of their kind; and in the branch's frame of
-- the instance the inner region lies in the outer one, and its join is the outer one's or lies there too
pub record LiesWithin (outer inner : Region) (I : Instance) (s : State) (frame : Frame) (below : List Frame) : Type 0 where
  pub leads : (a : Rooted) (at : PathPointers) → Contains inner.accesses.items a → followed I.program (registers_by frame.registers) (read s.memory) a.path ≡ Some at →
      LeadsTo I.recorded a.writes (bounds_of at.last)
  pub nested : length below ≡ length I.lower → AreNested outer inner

abbrev pub InnerRegionsLieWithin : Type 0
InnerRegionsLieWithin = (p : NumberedProgram) (gated : List InstrId) (sums : ℕ → Option RootedList) (input : List ℤ) (c : ℕ) (outer inner : Region) (q : FreeRegion) (first s : State)
    (l0 l : LocalState) (f0 frame : Frame) (fs0 below : List Frame) (t : ℕ) (x : Instr) →
    IsRegion p (λ i. is_gated gated i) sums c outer → GoesOnInside (instance_of p (λ i. is_gated gated i) sums outer q first l0 f0 fs0) gated input s t l →
    l.frames ≡ frame ∷ below → slice_get p.instrs frame.place ≡ Some x → IsRegion p (λ i. is_gated gated i) sums x.block.0 inner →
    LiesWithin outer inner (instance_of p (λ i. is_gated gated i) sums outer q first l0 f0 fs0) s frame below
