-- Pointers as 64-bit words, and the place of an access. All 64 bits are used, so each word is a pointer.
use Rattle.std.specs.Prelude.{ℕ, ◌+◌, ◌-◌, ◌*◌, ◌/◌, ◌%◌, ◌^◌, ◌<◌, Bool, not, ◌==◌, ◌&&◌, nat_le, if◌then◌else◌, ℤ, pos, negsuc, ◌+ℤ◌}
use Rattle.std.specs.Prelude.{Result, Ok, Err}
use Rattle.pg_num.specs.Places.{ByteRange}
use Rattle.pg_num.specs.declared.layout.TheConstants.{MEMORY_BYTES}
use Rattle.pg_num.specs.declared.pointer.Pointer.{Pointer}
use Rattle.pg_num.specs.declared.places.PlaceFault.{PlaceFault}
use Rattle.pg_num.specs.declared.places.PlaceFault.TheVariants.{OutOfRange, Misaligned}

-- ---- words

-- a start granule of 22 bits, a length in bytes of 21 bits, an offset in bytes of 21 bits
pub record IsPointer (p : Pointer) : Type 0 where
  pub start_fits : p.start < 2 ^ 22
  pub length_fits : p.length < 2 ^ 21
  pub offset_fits : p.offset < 2 ^ 21

-- the word of a pointer
abbrev pub word_of : Pointer → ℕ
word_of p = p.start * 2 ^ 42 + p.length * 2 ^ 21 + p.offset

-- the pointer that a word is
abbrev pub pointer_of : ℕ → Pointer
pointer_of word = record { start = word / 2 ^ 42; length = word / 2 ^ 21 % 2 ^ 21; offset = word % 2 ^ 21 }

-- the offset that an integer is, modulo 2 ^ 21; negsuc n is -(n + 1)
abbrev pub offset_of : ℤ → ℕ
offset_of (pos n) = n % 2 ^ 21
offset_of (negsuc n) = 2 ^ 21 - 1 - n % 2 ^ 21

-- the word with its offset moved, and nothing else changed
abbrev pub moved_by : ℕ → ℤ → ℕ
moved_by word delta =
    let p = pointer_of word in
    word_of (record p { offset = offset_of (pos p.offset +ℤ delta) })

-- ---- accesses

-- the place of the first byte that a word points to
abbrev pub byte_place : ℕ → ℕ
byte_place word = 8 * (pointer_of word).start + (pointer_of word).offset

-- the bytes lie within the pointer's length and within memory
abbrev pub is_in_range : ℕ → ℕ → Bool
is_in_range word bytes =
    nat_le ((pointer_of word).offset + bytes) (pointer_of word).length && nat_le (byte_place word + bytes) MEMORY_BYTES

-- the offset is a multiple of the number of bytes
abbrev pub is_aligned : ℕ → ℕ → Bool
is_aligned word bytes = (pointer_of word).offset % bytes == 0

-- the bytes of an access, or why it has none; the range is tested first
abbrev pub place_of : ℕ → ℕ → Result ByteRange PlaceFault
place_of word bytes =
    if not (is_in_range word bytes) then Err OutOfRange
    else if not (is_aligned word bytes) then Err Misaligned
    else Ok (record { start = byte_place word; bytes = bytes })
