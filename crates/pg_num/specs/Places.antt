-- Places in memory: aligned ranges of bytes.
use Rattle.std.specs.Prelude.{◌≡◌, ℕ, ◌+◌, ◌%◌, ◌≤◌, ◌<◌, Bool, ◌||◌, ◌&&◌, ◌==◌, nat_lt, IsTrue}
use Rattle.pg_num.specs.declared.layout.TheConstants.{GRANULE_COUNT, MEMORY_BYTES}

-- the bytes from a start on
pub record ByteRange : Type 0 where
  pub start : ℕ
  pub bytes : ℕ

-- the sizes of an access, in bytes
abbrev pub is_size : ℕ → Bool
is_size bytes = bytes == 1 || bytes == 2 || bytes == 4 || bytes == 8

-- one, two, four or eight bytes of memory that begin at a multiple of their number
pub record IsPlace (r : ByteRange) : Type 0 where
  pub size : IsTrue (is_size r.bytes)
  pub aligned : r.start % r.bytes ≡ 0
  pub in_memory : r.start + r.bytes ≤ MEMORY_BYTES

-- the same, by the granule and the first byte in it
pub record IsWithinGranule (granule first bytes : ℕ) : Type 0 where
  pub size : IsTrue (is_size bytes)
  pub aligned : first % bytes ≡ 0
  pub in_granule : first + bytes ≤ 8
  pub in_memory : granule < GRANULE_COUNT

-- two ranges have a byte in common
abbrev pub meet : ByteRange → ByteRange → Bool
meet r s = nat_lt r.start (s.start + s.bytes) && nat_lt s.start (r.start + r.bytes)
