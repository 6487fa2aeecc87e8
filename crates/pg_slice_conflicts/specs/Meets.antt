-- Which of the byte ranges that steps may access conflict.
use Rattle.std.specs.Prelude.{◌==◌, ◌≢◌, ◌≤◌, ◌&&◌, ◌||◌, not, nat_lt, List, Bool}
use Rattle.std.specs.List.{list_any}
use Rattle.pg_num.specs.Places.{ByteRange}
use Rattle.pg_law_threads.specs.Steps.{EachPair}
use Rattle.pg_run_trace.specs.Races as races
use Rattle.pg_slice_conflicts.specs.declared.footprint.Footprint.{Footprint}

abbrev pub bytes_of : Footprint → ByteRange
bytes_of x = record { start = x.start; bytes = x.bytes }

-- the two have a byte in common
abbrev pub share : ByteRange → ByteRange → Bool
share = races.share

-- neither's next turn stands before the other's last turn
abbrev pub overlap : Footprint → Footprint → Bool
overlap x y = not (nat_lt x.high y.low) && not (nat_lt y.high x.low)

-- their steps are of different threads, in overlapping intervals, they have a byte in common, and one of them writes
abbrev pub conflict : Footprint → Footprint → Bool
conflict x y = not (x.thread.0 == y.thread.0) && overlap x y && ((x.writes || y.writes) && share (bytes_of x) (bytes_of y))

-- the footprint of a region's access minds all others, that of another access those of such
abbrev pub minds : Footprint → Footprint → Bool
minds x y = x.of_region || not y.of_region

abbrev pub meets : Footprint → Footprint → Bool
meets x y = minds x y && conflict x y

-- one of these conflicts with x, and x minds it
abbrev pub is_met : List Footprint → Footprint → Bool
is_met ys x = list_any (meets x) ys

-- of each two of different threads the last turn of the earlier one doesn't stand behind the next turn of the later one
abbrev pub InOrder : List Footprint → Type 0
InOrder xs = EachPair (λ (x y : Footprint). x.thread.0 ≢ y.thread.0 → x.low ≤ y.high) xs
