-- Where the open extents of a thread end, of those whose branch steps aren't pinned.
use Rattle.std.specs.Prelude.{◌≡◌, ℕ, ◌==◌, ◌&&◌, not, List, Bool, true, false, Option, Some, None}
use Rattle.std.specs.List.{list_any}
use Rattle.pg_slice_rules.specs.Extents.{Extent}
use Rattle.pg_slice_rules.specs.Freeable.{FreeRegion}

-- by depth and join, whether an extent ends there
abbrev pub Ends : Type 0
Ends = ℕ → ℕ → Bool

-- an extent whose branch step isn't pinned, and which ends there
abbrev pub is_free_at : (ℕ → Bool) → ℕ → ℕ → Extent → Bool
is_free_at pinned depth join e = not (pinned e.step) && (e.depth == depth && e.join == join)

-- these are the ends of those extents whose branch steps aren't pinned
abbrev pub AreOpen : (ℕ → Bool) → List Extent → Ends → Type 0
AreOpen pinned es ends = (depth join : ℕ) → ends depth join ≡ list_any (is_free_at pinned depth join) es

-- the join of a region, if there is one
abbrev pub join_in : Option FreeRegion → Option ℕ
join_in None = None
join_in (Some r) = Some r.join

-- the join of a freeable step's region, where the step isn't pinned
abbrev pub left_free : Bool → Option FreeRegion → Option ℕ
left_free true region = None
left_free false region = join_in region
