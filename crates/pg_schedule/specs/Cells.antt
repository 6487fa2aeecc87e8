-- What a table keeps of a byte.
use Rattle.std.specs.Prelude.{◌≡◌, ℕ, ◌/◌, ◌%◌, ◌==◌, ◌&&◌, not, max, List, get_or, Bool, nat_eq, nat_lt, Option, Some, None, if◌then◌else◌}
use Rattle.indexmap.specs.IndexMap.{get}
use Rattle.pg_num.specs.Places.{ByteRange}
use Rattle.pg_run_trace.specs.Races.{is_in}
use Rattle.pg_run_trace.specs.Best.{IsBest, no_best, other}
use Rattle.pg_schedule.specs.Touches.{greatest, range_of, rank_if}
use Rattle.pg_run_trace.specs.declared.best.Best.{Best}
use Rattle.pg_schedule.specs.declared.cell.Cell.{Cell}
use Rattle.pg_schedule.specs.declared.table.Table.{Table}
use Rattle.pg_schedule.specs.declared.touch.Touch.{Touch}

abbrev pub no_cell : Cell
no_cell = record { all = no_best; writes = no_best }

-- the cell at a place among these
abbrev pub nth_cell : List Cell → ℕ → Cell
nth_cell cells i = get_or cells i no_cell

-- that of a block, which may not be there
abbrev pub cell_in : Option (List Cell) → ℕ → Cell
cell_in None i = no_cell
cell_in (Some cells) i = nth_cell cells i

-- the cell of a byte; eight bytes are a block
abbrev pub cell_at : Table → ℕ → Cell
cell_at t b = cell_in (get nat_eq t.blocks (b / 8)) (b % 8)

-- a touch of another thread than u holds the byte of a range
abbrev pub holds_in : ByteRange → ℕ → ℕ → Touch → Bool
holds_in r b u x = is_in r b && not (x.thread.0 == u)

abbrev pub holds : ℕ → ℕ → Touch → Bool
holds b u x = holds_in (range_of x) b u x

-- and writes
abbrev pub writes_at : ℕ → ℕ → Touch → Bool
writes_at b u x = x.writes && holds b u x

abbrev pub AreBest : (ℕ → Cell) → Type 0
AreBest cells = (b : ℕ) → IsBest (cells b).all × IsBest (cells b).writes

-- the cells keep the greatest ranks of these touches
pub record Keeps (cells : ℕ → Cell) (xs : List Touch) : Type 0 where
  pub all : (b u : ℕ) → other (cells b).all u ≡ greatest (holds b u) xs
  pub writes : (b u : ℕ) → other (cells b).writes u ≡ greatest (writes_at b u) xs
  pub best : AreBest cells

-- the cells with one touch more, noted at the bytes of a range
pub record Noted (old new' : ℕ → Cell) (r : ByteRange) (y : Touch) : Type 0 where
  pub all : (b u : ℕ) → other (new' b).all u ≡ max (other (old b).all u) (rank_if (holds_in r b u y) y.rank)
  pub writes : (b u : ℕ) → other (new' b).writes u ≡ max (other (old b).writes u) (rank_if (y.writes && holds_in r b u y) y.rank)
  pub best : AreBest new'

-- what a touch that writes or not meets in a cell
abbrev pub met_by : Bool → Cell → Best
met_by writes c = if writes then c.all else c.writes

-- the cell of this byte has a rank of another thread above the one that y needs
abbrev pub is_above : (ℕ → Cell) → Touch → ℕ → Bool
is_above cells y b = nat_lt y.need (other (met_by y.writes (cells b)) y.thread.0)
