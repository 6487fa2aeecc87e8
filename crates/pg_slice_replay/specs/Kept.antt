-- What is kept of a replay, and the landmarks that it stands for.
use Rattle.std.specs.Prelude.{ℕ, ◌+◌, ◌≤◌, List, length, drop, Option, Some, None, option_map, slice_get}
use Rattle.pg_region_accesses.specs.Tables.{in_table}
use Rattle.pg_slice_rules.specs.Freeable.{FreeAccess, FreeRegion}
use Rattle.pg_slice_replay.specs.declared.at.At.{At}
use Rattle.pg_slice_replay.specs.declared.found.FoundRegion.{FoundRegion}
use Rattle.pg_slice_replay.specs.declared.row.FreeStep.{FreeStep}
use Rattle.pg_slice_replay.specs.declared.row.Row.{Row}
use Rattle.pg_slice_replay.specs.declared.run.ReferenceRun.{ReferenceRun}
use Rattle.pg_slice_replay.specs.Landmarks.{Landmark}
use Rattle.pg_slice_replay.specs.Paths.{accesses_with}

-- a region with its accesses as they are at a step
abbrev pub region_with : FoundRegion → List FreeAccess → FreeRegion
region_with r xs = record { join = r.join; sets = in_table r.sets.items; accesses = xs }

abbrev pub free_by : List At → ℕ → Option FoundRegion → Option FreeRegion
free_by ats first None = None
free_by ats first (Some r) = Some (region_with r (accesses_with r.accesses.items (drop first ats)))

abbrev pub free_in : List At → List FoundRegion → Option FreeStep → Option FreeRegion
free_in ats regions None = None
free_in ats regions (Some f) = free_by ats f.first (slice_get regions f.region)

-- the landmark of a row
abbrev pub landmark_in : List At → List FoundRegion → Row → Landmark
landmark_in ats regions r = record { depth = r.depth; edge = r.edge; target = r.target; function = r.function; region = free_in ats regions r.free }

-- the landmark of step n, if there is such a step
abbrev pub landmark_at : ReferenceRun → ℕ → Option Landmark
landmark_at r n = option_map (landmark_in r.ats.items r.regions.items) (slice_get r.rows.items n)

-- how many steps there are
abbrev pub step_count : ReferenceRun → ℕ
step_count r = length r.rows.items

-- ---- each row's accesses are there

abbrev pub FitsBy : List At → ℕ → Option FoundRegion → Type 0
FitsBy ats first None = Unit {0}
FitsBy ats first (Some r) = first + length r.accesses.items ≤ length ats

abbrev pub FitsIn : List At → List FoundRegion → Option FreeStep → Type 0
FitsIn ats regions None = Unit {0}
FitsIn ats regions (Some f) = FitsBy ats f.first (slice_get regions f.region)

abbrev pub FitsRow : List At → List FoundRegion → Row → Type 0
FitsRow ats regions r = FitsIn ats regions r.free

-- ---- what makes step n freeable

abbrev pub free_of_row : Option Row → Option FreeStep
free_of_row None = None
free_of_row (Some r) = r.free

abbrev pub free_at : ReferenceRun → ℕ → Option FreeStep
free_at r n = free_of_row (slice_get r.rows.items n)

abbrev pub region_by : List FoundRegion → Option FreeStep → Option FoundRegion
region_by regions None = None
region_by regions (Some f) = slice_get regions f.region
