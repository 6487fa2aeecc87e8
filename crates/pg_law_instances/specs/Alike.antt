-- States in which a region's paths lead where they were recorded to lead.
use Rattle.std.specs.Prelude.{◌≡◌, ℕ, List, ◌∷◌, map, Bool, true, false, Option, Some, Contains, slice_get}
use Rattle.std.specs.List.{list_any}
use Rattle.pg_num.specs.Places.{ByteRange}
use Rattle.pg_run_memory.specs.Memory.{read}
use Rattle.pg_ir.specs.declared.instr.Instr.{Instr}
use Rattle.pg_ir.specs.Program.{NumberedProgram, function_of}
use Rattle.pg_ir.specs.WellFormed.{IsProgram}
use Rattle.pg_region_paths.specs.declared.path.Loads.TheVariants.{Never}
use Rattle.pg_region_paths.specs.declared.path.RootPath.{RootPath}
use Rattle.pg_region_paths.specs.FollowedPaths.{PathPointers, followed, root_value}
use Rattle.pg_region_accesses.specs.declared.rooted.Rooted.{Rooted}
use Rattle.pg_region_accesses.specs.Accesses.{RootedList}
use Rattle.pg_region_summaries.specs.Summaries.{AreSummaries}
use Rattle.pg_region.specs.declared.region.Region.{Region}
use Rattle.pg_region.specs.Regions.{IsJoin}
use Rattle.pg_run_thread.specs.LocalState.{Frame, LocalState}
use Rattle.pg_run.specs.State.{State}
use Rattle.pg_slice_replay.specs.pg_slice_rules.Moments.{Moment, number_in, registers_in}
use Rattle.pg_slice_replay.specs.pg_slice_rules.Freeable.{FreeRegion, accesses_at, bounds_of, stores_on}
use Rattle.pg_law_instances.specs.Free.{instance_of}
use Rattle.pg_law_instances.specs.Inside.{IsAtBranch, IsBranch, registers_by}
use Rattle.pg_slice_replay.specs.OfRegions.{free_access}

-- the registers of the present call at a recorded moment
abbrev pub recorded_registers : Moment → ℕ → Option ℕ
recorded_registers m = registers_by (registers_in m.calls)

-- the path's root has a number, in the recorded bounds; and where the path loads, the root has the recorded number, and so has
-- each cell that it loads
pub record IsAlike (p : NumberedProgram) (m : Moment) (registers : ℕ → Option ℕ) (memory : ByteRange → ℕ) (path : RootPath) : Type 0 where
  pub word : ℕ
  pub is_word : root_value p registers path.root ≡ Some word
  pub bounds : (w : ℕ) → root_value p (recorded_registers m) path.root ≡ Some w → bounds_of word ≡ bounds_of w
  pub same : (w : ℕ) → root_value p (recorded_registers m) path.root ≡ Some w → (path.loads ≡ Never → ⊥) → word ≡ w
  pub cells : (at : PathPointers) → followed p (recorded_registers m) (number_in m) path ≡ Some at → (c : ByteRange) → Contains at.cells c → memory c ≡ number_in m c

-- a thread in state l, in frame f on lower frames, stands at the branch x with this region, which was recorded as freeable; and
-- in s its paths are alike
pub record IsAlikeBranch (p : NumberedProgram) (gated : ℕ → Bool) (sums : ℕ → Option RootedList) (r : Region) (q : FreeRegion) (m : Moment) (s : State) (l : LocalState) (f : Frame)
    (fs : List Frame) (x : Instr) : Type 0 where
  pub program : IsProgram p
  pub summaries : AreSummaries p gated sums
  pub begun : l.begun ≡ true
  pub frames : l.frames ≡ f ∷ fs
  pub is : slice_get p.instrs f.place ≡ Some x
  pub kind : IsBranch x.op
  pub function : function_of p x.block.0 ≡ f.function
  pub join : IsJoin p gated sums x.block.0 r.join r.blocks.items r.accesses.items
  pub recorded : accesses_at p m (map free_access r.accesses.items) ≡ Some q.accesses
  pub apart : list_any (stores_on q.accesses) q.accesses ≡ false
  pub alike : (a : Rooted) → Contains r.accesses.items a → IsAlike p m (registers_by f.registers) (read s.memory) a.path

abbrev pub AlikeStatesBeginInstances : Type 0
AlikeStatesBeginInstances = (p : NumberedProgram) (gated : ℕ → Bool) (sums : ℕ → Option RootedList) (r : Region) (q : FreeRegion) (m : Moment) (s : State) (l : LocalState) (f : Frame)
    (fs : List Frame) (x : Instr) → IsAlikeBranch p gated sums r q m s l f fs x →
    IsAtBranch (instance_of p gated sums r q s l f fs)
