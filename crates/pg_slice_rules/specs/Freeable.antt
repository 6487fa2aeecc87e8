-- The region of a branch as it is at a step: where its accesses lead.
use Rattle.std.specs.Prelude.{ℕ, ◌*◌, ◌&&◌, List, [], ◌∷◌, Bool, true, false, Option, Some, None, slice_get, if◌then◌else◌}
use Rattle.std.specs.List.{list_any}
use Rattle.pg_precondition.specs.pg_num.Places.{ByteRange}
use Rattle.pg_precondition.specs.pg_num.Pointers.{pointer_of}
use Rattle.pg_region_paths.specs.pg_ir.Program.{NumberedProgram}
use Rattle.pg_region_paths.specs.declared.path.RootPath.{RootPath}
use Rattle.pg_region_paths.specs.FollowedPaths.{PathPointers, followed}
use Rattle.pg_run.specs.pg_run_thread.Operands as operands
use Rattle.pg_run.specs.pg_run_trace.Races.{share}
use Rattle.pg_slice_rules.specs.Moments.{Moment, number_in, registers_in}

-- ---- bounds

-- the bytes within the bounds of a pointer
abbrev pub bounds_of : ℕ → ByteRange
bounds_of word = record { start = 8 * (pointer_of word).start; bytes = (pointer_of word).length }

-- ---- regions

-- an access within a region: whether it writes, and its root path
pub record RegionAccess : Type 0 where
  pub writes : Bool
  pub path : RootPath

-- the region of a branch: its join, the registers that its instructions and the join's phis set, and its accesses, those of
-- its calls among them
pub record BranchRegion : Type 0 where
  pub join : ℕ
  pub sets : ℕ → Bool
  pub accesses : List RegionAccess

-- the regions of a program's branches, by the block that the branch ends
abbrev pub Regions : Type 0
Regions = ℕ → Option BranchRegion

-- ---- a region at a step

-- an access of a region with its path as it is at a step
pub record FreeAccess : Type 0 where
  pub writes : Bool
  pub path : RootPath
  pub at : PathPointers

pub record FreeRegion : Type 0 where
  pub join : ℕ
  pub sets : ℕ → Bool
  pub accesses : List FreeAccess

abbrev pub registers_by : List (Option ℕ) → ℕ → Option ℕ
registers_by rs r = operands.flat (slice_get rs r)

abbrev pub one_access : RegionAccess → Option PathPointers → Option (List FreeAccess) → Option (List FreeAccess)
one_access a None xs = None
one_access a (Some f) None = None
one_access a (Some f) (Some xs) = Some (record { writes = a.writes; path = a.path; at = f } ∷ xs)

-- each root is set, and no load of a path traps
abbrev pub accesses_at : NumberedProgram → Moment → List RegionAccess → Option (List FreeAccess)
accesses_at p m [] = Some []
accesses_at p m (a ∷ xs) = one_access a (followed p (registers_by (registers_in m.calls)) (number_in m) a.path) (accesses_at p m xs)

-- a path loads from the bounds of this pointer
abbrev pub loads_from : ℕ → FreeAccess → Bool
loads_from word a = list_any (λ from. share (bounds_of word) (bounds_of from)) a.at.pointers

-- a store's bounds meet those from which a path loads
abbrev pub stores_on : List FreeAccess → FreeAccess → Bool
stores_on xs a = a.writes && list_any (loads_from a.at.last) xs

abbrev pub if_apart : BranchRegion → Option (List FreeAccess) → Option FreeRegion
if_apart r None = None
if_apart r (Some xs) = if list_any (stores_on xs) xs then None else Some (record { join = r.join; sets = r.sets; accesses = xs })

abbrev pub region_at : NumberedProgram → Moment → Option BranchRegion → Option FreeRegion
region_at p m None = None
region_at p m (Some r) = if_apart r (accesses_at p m r.accesses)
