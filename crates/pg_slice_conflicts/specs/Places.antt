-- Where footprints stand among the first bytes of all footprints.
use Rattle.std.specs.Prelude.{ℕ, ◌+◌, ◌<◌, ◌≤◌, List, length, slice_index_or, Contains}
use Rattle.pg_slice_conflicts.specs.declared.footprint.Footprint.{Footprint}
use Rattle.pg_slice_conflicts.specs.declared.places.Placed.{Placed}

abbrev pub start_of : Footprint → ℕ
start_of x = x.start

abbrev pub footprint_of : Placed → Footprint
footprint_of z = z.footprint

-- of these bytes, ascending, the first k are those below byte b
pub record IsPlace (bytes : List ℕ) (b k : ℕ) : Type 0 where
  pub within : k ≤ length bytes
  pub below : (i d : ℕ) → i < k → slice_index_or bytes i d < b
  pub from : (i d : ℕ) → k ≤ i → i < length bytes → b ≤ slice_index_or bytes i d

-- a footprint with the places of its first byte and of its end among these bytes, of which the first is one
pub record IsPlaced (bytes : List ℕ) (z : Placed) : Type 0 where
  pub low : z.footprint.low < 4294967296
  pub high : z.footprint.high < 4294967296
  pub first : IsPlace bytes z.footprint.start z.first
  pub end : IsPlace bytes (z.footprint.start + z.footprint.bytes) z.end
  pub start : Contains bytes z.footprint.start
