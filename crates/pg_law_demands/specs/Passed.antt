-- Steps in extents of branch steps that aren't pinned: what the extent's region may have set, and what passes it as it was.
use Rattle.std.specs.Prelude.{ℕ, ◌==◌, ◌&&◌, ◌||◌, not, nat_le, nat_lt, filter, List, [], ◌∷◌, length, Bool, true, false, Option, Some, None, if◌then◌else◌, slice_get}
use Rattle.std.specs.List.{list_any}
use Rattle.pg_law_least.specs.pg_slice_rules.Moments.{Moment, thread_in}
use Rattle.pg_law_least.specs.pg_slice_rules.Freeable.{FreeRegion}
use Rattle.pg_law_least.specs.pg_slice_rules.Extents.{Extent}
use Rattle.pg_law_least.specs.pg_slice_rules.Known.{Reference, Seen, thread_of}
use Rattle.pg_law_least.specs.Along.{region_in}
use Rattle.pg_law_least.specs.Keeps.{depth_of, may_write}
use Rattle.pg_law_demands.specs.Cells.{Cell, Demand, Register, Byte, Word, call_at}

-- the region of a branch step by its number
abbrev pub region_then : Reference → Option Moment → Option FreeRegion
region_then R None = None
region_then R (Some m) = region_in R m

abbrev pub region_at_step : Reference → ℕ → Option FreeRegion
region_at_step R n = region_then R (slice_get R.moments n)

-- how many registers the call of the step's thread has that has so many calls with it on top
abbrev pub count_at : Seen → ℕ → ℕ
count_at y depth = length (call_at depth (thread_of y.before (thread_in y.moment)).calls)

-- the region may set the cell: a register of the branch's call, or a byte
abbrev pub may_set_cell : FreeRegion → ℕ → ℕ → ℕ → Cell → Bool
may_set_cell q t depth count (Register i j r) = ((i == t) && (j == depth)) && (nat_lt r count && q.sets r)
may_set_cell q t depth count (Byte b) = may_write q.accesses b
may_set_cell q t depth count (Word w) = false

abbrev pub sets_any : Option FreeRegion → Seen → ℕ → List Demand → Bool
sets_any None y depth qs = false
sets_any (Some q) y depth qs = list_any (λ (c : Demand). may_set_cell q (thread_in y.moment) depth (count_at y depth) c.cell) qs

-- no step in the extent sets the cell
abbrev pub passes_cell : FreeRegion → ℕ → ℕ → Cell → Bool
passes_cell q t depth (Register i j r) = not (i == t) || (nat_lt j depth || ((j == depth) && not (q.sets r)))
passes_cell q t depth (Byte b) = not (may_write q.accesses b)
passes_cell q t depth (Word w) = true

-- the oldest of open extents whose branch step isn't pinned
abbrev pub or_first : Bool → Extent → Option Extent → Option Extent
or_first pinned e (Some x) = Some x
or_first true e None = None
or_first false e None = Some e

abbrev pub first_free : (ℕ → Bool) → List Extent → Option Extent
first_free pinned [] = None
first_free pinned (e ∷ older) = or_first (pinned e.step) e (first_free pinned older)

abbrev pub passing_by : Seen → ℕ → Option FreeRegion → List Demand → List Demand
passing_by y depth None qs = []
passing_by y depth (Some q) qs = if nat_le depth (depth_of y) then filter (λ (c : Demand). passes_cell q (thread_in y.moment) depth c.cell) qs else []

-- the demands that are met before the step too
abbrev pub passing : Reference → Seen → Option Extent → List Demand → List Demand
passing R y None qs = []
passing R y (Some x) qs = passing_by y x.depth (region_at_step R x.step) qs
