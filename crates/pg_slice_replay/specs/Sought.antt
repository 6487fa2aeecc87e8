-- The regions of those blocks whose branches were sought, and what they make of steps.
use Rattle.std.specs.Prelude.{◌≡◌, ℕ, ◌<◌, ◌++◌, All, List, [], ◌∷◌, length, Bool, true, false, Option, Some, None, option_map, slice_get, if◌then◌else◌}
use Rattle.pg_ir.specs.declared.instr.Instr.{Instr}
use Rattle.pg_ir.specs.Program.{NumberedProgram}
use Rattle.pg_region_accesses.specs.Accesses.{RootedList}
use Rattle.pg_region_accesses.specs.Tables.{in_table}
use Rattle.pg_region.specs.declared.region.Region.{Region}
use Rattle.pg_region.specs.Regions.{IsRegion, RegionOf}
use Rattle.pg_run_trace.specs.declared.step.Step.{Step}
use Rattle.pg_law_effects.specs.pg_run.State.{State}
use Rattle.pg_slice_rules.specs.Freeable.{FreeRegion}
use Rattle.pg_slice_rules.specs.Known.{is_branch}
use Rattle.pg_slice_replay.specs.declared.at.At.{At}
use Rattle.pg_slice_replay.specs.declared.found.FoundRegion.{FoundRegion}
use Rattle.pg_slice_replay.specs.declared.found.Sought.{Sought}
use Rattle.pg_slice_replay.specs.declared.found.Sought.TheVariants as sought
use Rattle.pg_slice_replay.specs.declared.row.FreeStep.{FreeStep}
use Rattle.pg_slice_replay.specs.OfRegions.{may_set}
use Rattle.pg_slice_replay.specs.Paths.{accesses_in}
use Rattle.pg_slice_replay.specs.Apart.{apart}
use Rattle.pg_slice_replay.specs.Kept.{FitsIn, free_in, region_with}

-- ---- what is kept of a region

pub record IsKept (p : NumberedProgram) (r : Region) (f : FoundRegion) : Type 0 where
  pub join : f.join ≡ r.join
  pub sets : (k : ℕ) → in_table f.sets.items k ≡ may_set p r k
  pub accesses : f.accesses.items ≡ r.accesses.items

abbrev pub IsKeptIn : NumberedProgram → Region → Option FoundRegion → Type 0
IsKeptIn p r None = ⊥
IsKeptIn p r (Some f) = IsKept p r f

-- a block's branch wasn't sought, or has no region, or this is its region
abbrev pub IsFoundAs : NumberedProgram → (ℕ → Bool) → (ℕ → Option RootedList) → List FoundRegion → ℕ → Sought → Type 0
IsFoundAs p gated sums regions c sought.Unsought = Unit {0}
IsFoundAs p gated sums regions c sought.Nothing = RegionOf p gated sums c None
IsFoundAs p gated sums regions c (sought.At k) = (r : Region) × IsRegion p gated sums c r × IsKeptIn p r (slice_get regions k)

abbrev pub IsFoundIn : NumberedProgram → (ℕ → Bool) → (ℕ → Option RootedList) → List FoundRegion → ℕ → Option Sought → Type 0
IsFoundIn p gated sums regions c None = Unit {0}
IsFoundIn p gated sums regions c (Some s) = IsFoundAs p gated sums regions c s

pub record AreFound (p : NumberedProgram) (gated : ℕ → Bool) (sums : ℕ → Option RootedList) (blocks : List Sought) (regions : List FoundRegion) : Type 0 where
  pub count : length blocks ≡ length p.blocks
  pub found : (c : ℕ) → IsFoundIn p gated sums regions c (slice_get blocks c)

-- a region's blocks and its join are blocks of the program
abbrev pub WithinProgram : NumberedProgram → Option Region → Type 0
WithinProgram p None = Unit {0}
WithinProgram p (Some r) = All (λ b. b < length p.blocks) r.blocks.items × (r.join < length p.blocks)

-- what is added for a region
pub record IsAdded (p : NumberedProgram) (r : Region) (old : List FoundRegion) (s : Sought) (new : List FoundRegion) (f : FoundRegion) : Type 0 where
  pub behind : new ≡ old ++ f ∷ []
  pub kept : IsKept p r f
  pub number : s ≡ sought.At (length old)

abbrev pub AddsRegion : NumberedProgram → Option Region → List FoundRegion → Sought → List FoundRegion → Type 0
AddsRegion p None old s new = (s ≡ sought.Nothing) × (new ≡ old)
AddsRegion p (Some r) old s new = (f : FoundRegion) × IsAdded p r old s new f

-- ---- what was sought

abbrev pub was_sought : Option Sought → Bool
was_sought None = false
was_sought (Some sought.Unsought) = false
was_sought (Some s) = true

-- s is what is known of the block c from now on, by these regions, and what was known of other blocks stands
pub record IsNowKnown (p : NumberedProgram) (gated : ℕ → Bool) (sums : ℕ → Option RootedList) (blocks : List Sought) (regions : List FoundRegion) (c : ℕ) (s : Sought) : Type 0 where
  pub others : AreFound p gated sums blocks regions
  pub own : IsFoundAs p gated sums regions c s
  pub sought : was_sought (Some s) ≡ true

-- the branch of a branch step was sought
abbrev pub WasSought : NumberedProgram → List Sought → Step → Type 0
WasSought p blocks x = (i : Instr) → slice_get p.instrs x.instr.0 ≡ Some i → is_branch x.kind ≡ true → was_sought (slice_get blocks i.block.0) ≡ true

-- ---- the region that makes a step freeable

abbrev pub number_by : Option Sought → Option ℕ
number_by (Some (sought.At k)) = Some k
number_by o = None

abbrev pub found_by : List FoundRegion → Option ℕ → Option FoundRegion
found_by regions None = None
found_by regions (Some k) = slice_get regions k

abbrev pub found_in : List Sought → List FoundRegion → ℕ → Option FoundRegion
found_in blocks regions c = found_by regions (number_by (slice_get blocks c))

-- a region as it is in a state, for a thread
abbrev pub freed : NumberedProgram → State → ℕ → Option FoundRegion → Option FreeRegion
freed p s t None = None
freed p s t (Some r) = option_map (region_with r) (apart (accesses_in p s t r.accesses.items))

abbrev pub freed_at : NumberedProgram → List Sought → List FoundRegion → State → Step → Option Instr → Option FreeRegion
freed_at p blocks regions s x None = None
freed_at p blocks regions s x (Some i) = if is_branch x.kind then freed p s x.thread.0 (found_in blocks regions i.block.0) else None

-- what a step is freeable with, by the regions that were found
abbrev pub freed_in : NumberedProgram → List Sought → List FoundRegion → State → Step → Option FreeRegion
freed_in p blocks regions s x = freed_at p blocks regions s x (slice_get p.instrs x.instr.0)

-- this is added for a free step, if it is one
pub record IsFreed (free : Option FreeRegion) (regions : List FoundRegion) (old new xs : List At) (f : Option FreeStep) : Type 0 where
  pub behind : new ≡ old ++ xs
  pub fits : FitsIn new regions f
  pub given : free_in new regions f ≡ free
