-- Memory by its bytes, whatever is written where.
use Rattle.std.proofs.Common.{◌≡◌, ℕ, zero, suc, ◌+◌, ◌-◌, ◌*◌, ◌/◌, ◌%◌, ◌^◌, ◌<◌, ◌≤◌, Bool, true, false, length, refl, sym, ap, ◌∙◌, arith}
use Rattle.std.proofs.Common.{slice_index}
use Rattle.std.specs.Prelude.{◌&&◌, nat_le, nat_lt, if◌then◌else◌}
use Rattle.std.proofs.lemmas.Bool.Decides.{nat_tests}
use Rattle.std.proofs.lemmas.List.{get_or_past}
use Rattle.pg_num.specs.Places.{ByteRange}
use Rattle.pg_num.specs.declared.layout.TheConstants.{GRANULE_COUNT, MEMORY_BYTES}
use Rattle.pg_run.specs.pg_run_memory.Bytes.{byte_of, number_of, with_bytes}
use Rattle.pg_run.specs.pg_run_memory.Memory.{Words, byte_at, words_from, memory_of, read, written}
use Rattle.pg_run.proofs.of_pg_run_memory.Places.{same_number}
use Rattle.pg_run.proofs.of_pg_run_memory.ReadsAndWrites.{byte_at-memory_of, memory_of_memory}
use Rattle.pg_law_effects.specs.Meets.{is_in}

-- ---- one byte

pub byte_small : (n k : ℕ) → byte_of n k < 2 ^ 8
byte_small n k = omega arith

pub with_small : (f : ℕ → ℕ) (r : ByteRange) (v b : ℕ) → f b < 2 ^ 8 → with_bytes f r v b < 2 ^ 8
with_small f r v b h = go (is_in r b)
  where
    go : (c : Bool) → (if c then byte_of v (b - r.start) else f b) < 2 ^ 8
    go true = byte_small v (b - r.start)
    go false = h

pub byte_at_small : (m : Words) (b : ℕ) → byte_at m b < 2 ^ 8
unfolding byte_at
byte_at_small m b = byte_small _ _

pub with_in : (f : ℕ → ℕ) (r : ByteRange) (v b : ℕ) → is_in r b ≡ true → with_bytes f r v b ≡ byte_of v (b - r.start)
with_in f r v b h = rw h refl

pub with_out : (f : ℕ → ℕ) (r : ByteRange) (v b : ℕ) → is_in r b ≡ false → with_bytes f r v b ≡ f b
with_out f r v b h = rw h refl

-- a byte of memory after a write
pub byte_after : (m : Words) (r : ByteRange) (v b : ℕ) → b < MEMORY_BYTES → byte_at (written m r v) b ≡ with_bytes (byte_at m) r v b
unfolding written
byte_after m r v b h = byte_at-memory_of (with_bytes (byte_at m) r v) b (λ i. with_small (byte_at m) r v i (byte_at_small m i)) h

-- ---- behind memory's end

pub past_end : (m n : Words) (b : ℕ) → length m ≡ GRANULE_COUNT → length n ≡ GRANULE_COUNT → MEMORY_BYTES ≤ b → byte_at m b ≡ byte_at n b
unfolding byte_at
past_end m n b h k l =
    let g : GRANULE_COUNT ≤ b / 8 = omega arith in
    ap (λ (w : ℕ). byte_of w (b % 8)) (get_or_past m (b / 8) 0 (rw h g) ∙ sym (get_or_past n (b / 8) 0 (rw k g)))

pub written_length : (m : Words) (r : ByteRange) (v : ℕ) → length (written m r v) ≡ GRANULE_COUNT
unfolding written
written_length m r v = (memory_of_memory (with_bytes (byte_at m) r v) (λ i. with_small (byte_at m) r v i (byte_at_small m i))).granules

-- a byte outside of the range that is written
pub byte_kept : (m : Words) (r : ByteRange) (v b : ℕ) → length m ≡ GRANULE_COUNT → is_in r b ≡ false → byte_at (written m r v) b ≡ byte_at m b
byte_kept m r v b h k = go (nat_lt b MEMORY_BYTES) refl
  where
    go : (c : Bool) → nat_lt b MEMORY_BYTES ≡ c → byte_at (written m r v) b ≡ byte_at m b
    go true e = byte_after m r v b (grind (arith, nat_tests)) ∙ with_out (byte_at m) r v b k
    go false e = past_end (written m r v) m b (written_length m r v) h (grind (arith, nat_tests))

-- ---- memories and reads by their bytes

same_words : (f g : ℕ → ℕ) (at n : ℕ) → ((b : ℕ) → b < (at + n) * 8 → f b ≡ g b) → words_from f at n ≡ words_from g at n
unfolding words_from
same_words f g at zero h = refl
same_words f g at (suc n) h =
    let first : number_of f (at * 8) 8 ≡ number_of g (at * 8) 8 = same_number f g (at * 8) (at * 8) 8 (λ i l. h (at * 8 + i) (omega arith)) in
    let rest : words_from f (suc at) n ≡ words_from g (suc at) n = same_words f g (suc at) n (λ b l. h b (omega arith)) in
    cc

pub same_memory : (f g : ℕ → ℕ) → ((b : ℕ) → b < MEMORY_BYTES → f b ≡ g b) → memory_of f ≡ memory_of g
unfolding memory_of
same_memory f g h = same_words f g 0 GRANULE_COUNT (λ b l. h b (omega arith))

is_in_at : (r : ByteRange) (i : ℕ) → i < r.bytes → is_in r (r.start + i) ≡ true
is_in_at r i h = grind (arith, nat_tests)

pub same_read : (m n : Words) (r : ByteRange) → ((b : ℕ) → is_in r b ≡ true → byte_at m b ≡ byte_at n b) → read m r ≡ read n r
unfolding read
same_read m n r h = same_number (byte_at m) (byte_at n) r.start r.start r.bytes (λ i l. h (r.start + i) (is_in_at r i l))

-- ---- two writes

both_with : (m : Words) (r q : ByteRange) (v w b : ℕ) → b < MEMORY_BYTES → (is_in r b && is_in q b) ≡ false
    → with_bytes (byte_at (written m r v)) q w b ≡ with_bytes (byte_at (written m q w)) r v b
both_with m r q v w b l h = go (is_in r b) (is_in q b) refl refl
  where
    go : (x y : Bool) → is_in r b ≡ x → is_in q b ≡ y → with_bytes (byte_at (written m r v)) q w b ≡ with_bytes (byte_at (written m q w)) r v b
    go true true e k = let z : true ≡ false = rw (e, k) at h in absurd cc
    go true false e k =
        with_out (byte_at (written m r v)) q w b k ∙ byte_after m r v b l ∙ with_in (byte_at m) r v b e
        ∙ sym (with_in (byte_at (written m q w)) r v b e)
    go false true e k =
        with_in (byte_at (written m r v)) q w b k
        ∙ sym (with_out (byte_at (written m q w)) r v b e ∙ byte_after m q w b l ∙ with_in (byte_at m) q w b k)
    go false false e k =
        with_out (byte_at (written m r v)) q w b k ∙ byte_after m r v b l ∙ with_out (byte_at m) r v b e
        ∙ sym (with_out (byte_at (written m q w)) r v b e ∙ byte_after m q w b l ∙ with_out (byte_at m) q w b k)

-- two writes that have no byte in common may change places
pub written_cross : (m : Words) (r q : ByteRange) (v w : ℕ) → ((b : ℕ) → (is_in r b && is_in q b) ≡ false) → written (written m r v) q w ≡ written (written m q w) r v
unfolding written
written_cross m r q v w h = same_memory (with_bytes (byte_at (written m r v)) q w) (with_bytes (byte_at (written m q w)) r v) (λ b l. both_with m r q v w b l (h b))
