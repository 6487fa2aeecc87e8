-- Reads and writes of memory as a map of bytes.
use Rattle.std.proofs.Common.{◌≡◌, ℕ, zero, suc, ◌+◌, ◌-◌, ◌*◌, ◌/◌, ◌%◌, ◌^◌, ◌<◌, ◌≤◌, Bool, true, false, ◌&&◌, nat_le, nat_lt}
use Rattle.std.proofs.Common.{if◌then◌else◌, length, refl, sym, ap, ◌∙◌, arith, inl, inr, ◌⊎◌, add-zero, slice_index}
use Rattle.std.proofs.lemmas.Bool.{cases_lt}
use Rattle.std.proofs.lemmas.Bool.Decides.{nat_tests}
use Rattle.std.proofs.lemmas.Nat.{shr_high, mod_low, pow-add, mul-add-lt}
use Rattle.std.proofs.lemmas.List.{get_or_past}
use Rattle.std.proofs.Math.Nat.{zero-div}
use Rattle.pg_ir.specs.pg_num.Places.{ByteRange, meet}
use Rattle.pg_ir.specs.pg_num.declared.layout.TheConstants.{GRANULE_COUNT, MEMORY_BYTES}
use Rattle.pg_run_memory.specs.Bytes.{byte_of, number_of, with_bytes}
use Rattle.pg_run_memory.specs.Memory.{Words, IsMemory, byte_at, words_from, memory_of, read, written}
use Rattle.pg_run_memory.proofs.Parts.{number_cut, byte_shifted}
use Rattle.pg_run_memory.proofs.Places.{same_number, inside, outside, memory_of_is}

-- ---- the memory whose bytes are given

byte_of-number_of : (f : ℕ → ℕ) (at n k : ℕ) → ((i : ℕ) → f i < 2 ^ 8) → k < n → byte_of (number_of f at n) k ≡ f (at + k)
unfolding number_of
byte_of-number_of f at zero k h l = absurd (omega arith)
byte_of-number_of f at (suc n) zero h l =
    let low : (number_of f (suc at) n * 2 ^ 8 + f at) % 2 ^ 8 ≡ f at = mod_low (number_of f (suc at) n) 8 (f at) (h at) in
    let whole : (number_of f (suc at) n * 2 ^ 8 + f at) / 2 ^ (8 * 0) ≡ number_of f (suc at) n * 2 ^ 8 + f at = omega arith in
    rw (whole, low, add-zero at) refl
byte_of-number_of f at (suc n) (suc k) h l =
    let high : (number_of f (suc at) n * 2 ^ 8 + f at) / 2 ^ 8 ≡ number_of f (suc at) n = shr_high (number_of f (suc at) n) 8 (f at) (h at) in
    let one : suc k ≡ 1 + k = omega arith in
    let there : at + (1 + k) ≡ suc at + k = omega arith in
    rw (one, there) (byte_shifted (number_of f (suc at) n * 2 ^ 8 + f at) 1 k ∙ ap (λ x. byte_of x k) high ∙ byte_of-number_of f (suc at) n k h (omega arith))

slice_index-words_from : (f : ℕ → ℕ) (at n k : ℕ) → k < n → slice_index (words_from f at n) k ≡ number_of f ((at + k) * 8) 8
unfolding words_from
slice_index-words_from f at zero k l = absurd (omega arith)
slice_index-words_from f at (suc n) zero l = rw (add-zero at) refl
slice_index-words_from f at (suc n) (suc k) l =
    let there : at + suc k ≡ suc at + k = omega arith in
    rw there (slice_index-words_from f (suc at) n k (omega arith))

length-words_from : (f : ℕ → ℕ) (at n : ℕ) → length (words_from f at n) ≡ n
unfolding words_from
length-words_from f at zero = refl
length-words_from f at (suc n) = ap suc (length-words_from f (suc at) n)

number_of-small : (f : ℕ → ℕ) (at n : ℕ) → ((i : ℕ) → f i < 2 ^ 8) → number_of f at n < 2 ^ (8 * n)
unfolding number_of
number_of-small f at zero h = omega arith
number_of-small f at (suc n) h =
    let e : 8 * suc n ≡ 8 + 8 * n = omega arith in
    rw (e, pow-add 2 8 (8 * n)) (mul-add-lt (number_of f (suc at) n) (2 ^ 8) (f at) (2 ^ (8 * n)) (number_of-small f (suc at) n h) (h at))

-- a memory made of bytes has just these
pub byte_at-memory_of : (f : ℕ → ℕ) (at : ℕ) → ((i : ℕ) → f i < 2 ^ 8) → at < MEMORY_BYTES → byte_at (memory_of f) at ≡ f at
unfolding memory_of byte_at
byte_at-memory_of f at h l =
    let g : at / 8 < GRANULE_COUNT = omega arith in
    let e : (0 + at / 8) * 8 + at % 8 ≡ at = omega arith in
    ap (λ w. byte_of w (at % 8)) (slice_index-words_from f 0 GRANULE_COUNT (at / 8) g)
    ∙ byte_of-number_of f ((0 + at / 8) * 8) 8 (at % 8) h (omega arith)
    ∙ ap f e

pub memory_of_memory : (f : ℕ → ℕ) → ((i : ℕ) → f i < 2 ^ 8) → IsMemory (memory_of f)
unfolding memory_of
memory_of_memory f h = record {
  granules = length-words_from f 0 GRANULE_COUNT;
  small = λ g. each g (cases_lt g GRANULE_COUNT);
}
  where
    each : (g : ℕ) → (g < GRANULE_COUNT) ⊎ (GRANULE_COUNT ≤ g) → slice_index (words_from f 0 GRANULE_COUNT) g < 2 ^ 64
    each g (inl l) = rw (slice_index-words_from f 0 GRANULE_COUNT g l) (number_of-small f ((0 + g) * 8) 8 h)
    each g (inr l) =
        let past : slice_index (words_from f 0 GRANULE_COUNT) g ≡ 0 = get_or_past (words_from f 0 GRANULE_COUNT) g 0 (rw (length-words_from f 0 GRANULE_COUNT) l) in
        rw past (omega arith)

-- ---- a write to any list of granules

byte_small : (number k : ℕ) → byte_of number k < 2 ^ 8
byte_small number k = omega arith

byte_at-small : (m : Words) (at : ℕ) → byte_at m at < 2 ^ 8
unfolding byte_at
byte_at-small m at = byte_small (slice_index m (at / 8)) (at % 8)

with_bytes-small : (m : Words) (r : ByteRange) (v at : ℕ) → with_bytes (byte_at m) r v at < 2 ^ 8
with_bytes-small m r v at = either (nat_le r.start at && nat_lt at (r.start + r.bytes))
  where
    either : (inside : Bool) → (if inside then byte_of v (at - r.start) else byte_at m at) < 2 ^ 8
    either true = byte_small v (at - r.start)
    either false = byte_at-small m at

pub byte_at-written_law : (m : Words) (r : ByteRange) (v at : ℕ) → at < MEMORY_BYTES → byte_at (written m r v) at ≡ with_bytes (byte_at m) r v at
unfolding written
byte_at-written_law m r v at l = byte_at-memory_of (with_bytes (byte_at m) r v) at (with_bytes-small m r v) l

pub written_memory_law : (m : Words) (r : ByteRange) (v : ℕ) → IsMemory (written m r v)
unfolding written
written_memory_law m r v = memory_of_memory (with_bytes (byte_at m) r v) (with_bytes-small m r v)

-- past memory's size each byte is zero
pub byte_at-past : (m : Words) (at : ℕ) → IsMemory m → MEMORY_BYTES ≤ at → byte_at m at ≡ 0
unfolding byte_at
byte_at-past m at h l =
    let g : length m ≤ at / 8 = let n = h.granules in omega (arith, n) in
    ap (λ w. byte_of w (at % 8)) (get_or_past m (at / 8) 0 g) ∙ zero_byte (at % 8)
  where
    zero_byte : (k : ℕ) → byte_of 0 k ≡ 0
    zero_byte k = rw (zero-div (2 ^ (8 * k))) refl

-- ---- a read

-- two ranges that don't meet lie one before the other
apart : (r s : ByteRange) → meet r s ≡ false → (s.start + s.bytes ≤ r.start) ⊎ (r.start + r.bytes ≤ s.start)
apart r s h = go (cases_lt r.start (s.start + s.bytes)) (cases_lt s.start (r.start + r.bytes))
  where
    go : (r.start < s.start + s.bytes) ⊎ (s.start + s.bytes ≤ r.start) → (s.start < r.start + r.bytes) ⊎ (r.start + r.bytes ≤ s.start)
        → (s.start + s.bytes ≤ r.start) ⊎ (r.start + r.bytes ≤ s.start)
    go (inr a) _ = inl a
    go (inl a) (inr b) = inr b
    go (inl a) (inl b) = absurd (both a b h)
      where
        both : r.start < s.start + s.bytes → s.start < r.start + r.bytes → meet r s ≡ false → ⊥
        both a b h = grind (arith, nat_tests)

pub read-small : (m : Words) (r : ByteRange) → read m r < 2 ^ (8 * r.bytes)
unfolding read
read-small m r = number_of-small (byte_at m) r.start r.bytes (byte_at-small m)

pub read-written_overlapping : (m : Words) (r s : ByteRange) (v : ℕ) → s.start + s.bytes ≤ MEMORY_BYTES
    → read (written m r v) s ≡ number_of (with_bytes (byte_at m) r v) s.start s.bytes
unfolding read
read-written_overlapping m r s v l =
    same_number (byte_at (written m r v)) (with_bytes (byte_at m) r v) s.start s.start s.bytes (λ i k. byte_at-written_law m r v (s.start + i) (omega arith))

pub read-written_same : (m : Words) (r : ByteRange) (v : ℕ) → r.start + r.bytes ≤ MEMORY_BYTES → read (written m r v) r ≡ v % 2 ^ (8 * r.bytes)
unfolding read
read-written_same m r v l =
    same_number (byte_at (written m r v)) (byte_of v) r.start 0 r.bytes each ∙ number_cut r.bytes v
  where
    each : (i : ℕ) → i < r.bytes → byte_at (written m r v) (r.start + i) ≡ byte_of v (0 + i)
    each i k =
        let a : r.start + i - r.start ≡ 0 + i = omega arith in
        byte_at-written_law m r v (r.start + i) (omega arith)
        ∙ inside (byte_at m) r v (r.start + i) (omega arith) (omega arith)
        ∙ ap (byte_of v) a

pub read-written_apart : (m : Words) (r s : ByteRange) (v : ℕ) → s.start + s.bytes ≤ MEMORY_BYTES → meet r s ≡ false → read (written m r v) s ≡ read m s
unfolding read
read-written_apart m r s v l e = same_number (byte_at (written m r v)) (byte_at m) s.start s.start s.bytes (each (apart r s e))
  where
    each : (s.start + s.bytes ≤ r.start) ⊎ (r.start + r.bytes ≤ s.start) → (i : ℕ) → i < s.bytes → byte_at (written m r v) (s.start + i) ≡ byte_at m (s.start + i)
    each (inl a) i k = byte_at-written_law m r v (s.start + i) (omega arith) ∙ outside (byte_at m) r v (s.start + i) (inl (omega arith))
    each (inr a) i k = byte_at-written_law m r v (s.start + i) (omega arith) ∙ outside (byte_at m) r v (s.start + i) (inr (omega arith))

-- memories with the same bytes are the same
pub same_bytes : (m n : Words) → IsMemory m → IsMemory n → ((at : ℕ) → at < MEMORY_BYTES → byte_at m at ≡ byte_at n at) → m ≡ n
same_bytes m n h k e = sym (memory_of_is (byte_at m) m h (λ at. refl)) ∙ memory_of_is (byte_at m) n k (λ at. each at (cases_lt at MEMORY_BYTES))
  where
    each : (at : ℕ) → (at < MEMORY_BYTES) ⊎ (MEMORY_BYTES ≤ at) → byte_at m at ≡ byte_at n at
    each at (inl l) = e at l
    each at (inr l) = byte_at-past m at h l ∙ sym (byte_at-past n at k l)

with_bytes_same : (f g : ℕ → ℕ) (r : ByteRange) (v at : ℕ) → f at ≡ g at → with_bytes f r v at ≡ with_bytes g r v at
with_bytes_same f g r v at e = ap (λ x. if nat_le r.start at && nat_lt at (r.start + r.bytes) then byte_of v (at - r.start) else x) e

in_or_out : (r : ByteRange) (at : ℕ) → ((r.start ≤ at) × (at < r.start + r.bytes)) ⊎ ((at < r.start) ⊎ (r.start + r.bytes ≤ at))
in_or_out r at = go (cases_lt at r.start) (cases_lt at (r.start + r.bytes))
  where
    go : (at < r.start) ⊎ (r.start ≤ at) → (at < r.start + r.bytes) ⊎ (r.start + r.bytes ≤ at)
        → ((r.start ≤ at) × (at < r.start + r.bytes)) ⊎ ((at < r.start) ⊎ (r.start + r.bytes ≤ at))
    go (inl a) _ = inr (inl a)
    go (inr a) (inl b) = inl (a, b)
    go (inr a) (inr b) = inr (inr b)

with_bytes_apart : (f : ℕ → ℕ) (r s : ByteRange) (v w at : ℕ) → meet r s ≡ false → with_bytes (with_bytes f r v) s w at ≡ with_bytes (with_bytes f s w) r v at
with_bytes_apart f r s v w at e = go (apart r s e) (in_or_out r at)
  where
    go : (s.start + s.bytes ≤ r.start) ⊎ (r.start + r.bytes ≤ s.start) → ((r.start ≤ at) × (at < r.start + r.bytes)) ⊎ ((at < r.start) ⊎ (r.start + r.bytes ≤ at))
        → with_bytes (with_bytes f r v) s w at ≡ with_bytes (with_bytes f s w) r v at
    go x (inl y) =
        outside (with_bytes f r v) s w at (out_of_s x)
        ∙ inside f r v at y.0 y.1
        ∙ sym (inside (with_bytes f s w) r v at y.0 y.1)
      where
        out_of_s : (s.start + s.bytes ≤ r.start) ⊎ (r.start + r.bytes ≤ s.start) → (at < s.start) ⊎ (s.start + s.bytes ≤ at)
        out_of_s (inl a) = inr (omega arith)
        out_of_s (inr a) = inl (omega arith)
    go x (inr y) =
        with_bytes_same (with_bytes f r v) f s w at (outside f r v at y)
        ∙ sym (outside (with_bytes f s w) r v at y)

-- two writes that don't meet may change places
pub written-written_apart : (m : Words) (r s : ByteRange) (v w : ℕ) → meet r s ≡ false → written (written m r v) s w ≡ written (written m s w) r v
written-written_apart m r s v w e =
    same_bytes (written (written m r v) s w) (written (written m s w) r v)
    (written_memory_law (written m r v) s w)
    (written_memory_law (written m s w) r v)
    each
  where
    each : (at : ℕ) → at < MEMORY_BYTES → byte_at (written (written m r v) s w) at ≡ byte_at (written (written m s w) r v) at
    each at l =
        byte_at-written_law (written m r v) s w at l
        ∙ with_bytes_same (byte_at (written m r v)) (with_bytes (byte_at m) r v) s w at (byte_at-written_law m r v at l)
        ∙ with_bytes_apart (byte_at m) r s v w at e
        ∙ sym (with_bytes_same (byte_at (written m s w)) (with_bytes (byte_at m) s w) r v at (byte_at-written_law m s w at l))
        ∙ sym (byte_at-written_law (written m s w) r v at l)
