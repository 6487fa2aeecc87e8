-- Memory: a finite map from the byte places below MEMORY_BYTES to bytes. It is kept as the list of its granules, each
-- the number of eight bytes.
use Rattle.std.specs.Prelude.{◌≡◌, ℕ, zero, suc, ◌*◌, ◌/◌, ◌%◌, ◌^◌, ◌<◌, List, [], ◌∷◌, length, slice_index}
use Rattle.pg_ir.specs.pg_num.Places.{ByteRange}
use Rattle.pg_ir.specs.pg_num.declared.layout.TheConstants.{GRANULE_COUNT}
use Rattle.pg_run_memory.specs.Bytes.{byte_of, number_of, with_bytes}

abbrev pub Words : Type 0
Words = List ℕ

-- every granule has a number of eight bytes
pub record IsMemory (memory : Words) : Type 0 where
  pub granules : length memory ≡ GRANULE_COUNT
  pub small : (g : ℕ) → slice_index memory g < 2 ^ 64

-- the byte at a place
unfoldable pub byte_at : Words → ℕ → ℕ
byte_at memory at = byte_of (slice_index memory (at / 8)) (at % 8)

-- n granules with the bytes of f, from a granule on
unfoldable pub words_from : (ℕ → ℕ) → ℕ → ℕ → Words
words_from f granule zero = []
words_from f granule (suc n) = number_of f (granule * 8) 8 ∷ words_from f (suc granule) n

-- the memory whose bytes are those of f
unfoldable pub memory_of : (ℕ → ℕ) → Words
memory_of f = words_from f 0 GRANULE_COUNT

-- the number that stands in a range
unfoldable pub read : Words → ByteRange → ℕ
read memory r = number_of (byte_at memory) r.start r.bytes

-- the memory with a number in a range, and all other bytes as they were
unfoldable pub written : Words → ByteRange → ℕ → Words
written memory r number = memory_of (with_bytes (byte_at memory) r number)
