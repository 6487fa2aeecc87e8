-- Memory as words and as a map of bytes: what a read gives, and what a write changes.
use Rattle.std.proofs.Common.{◌≡◌, ℕ, zero, suc, ◌+◌, ◌-◌, ◌*◌, ◌/◌, ◌%◌, ◌^◌, ◌<◌, ◌≤◌, [], ◌∷◌, length, refl, sym, ap, ◌∙◌, arith}
use Rattle.std.proofs.Common.{add-zero, zero-add, inl, inr, ◌⊎◌, ◌≢◌, slice_index, slice_set, subst}
use Rattle.std.proofs.lemmas.Bool.{cases_lt, cases_eq}
use Rattle.std.proofs.lemmas.Bool.Decides.{nat_tests}
use Rattle.std.proofs.lemmas.List.{get_or-set_same, get_or-set_other, length-set}
use Rattle.pg_ir.specs.pg_num.Places.{ByteRange}
use Rattle.pg_ir.specs.pg_num.declared.layout.TheConstants.{GRANULE_COUNT}
use Rattle.pg_run_memory.specs.Bytes.{byte_of, number_of, with_bytes}
use Rattle.pg_run_memory.specs.Memory.{Words, IsMemory, byte_at, words_from, memory_of, read, written}
use Rattle.pg_run_memory.specs.Words.{part_of, with_part}
use Rattle.pg_run_memory.proofs.Parts.{part_number, number_again, byte_inside, byte_below, byte_above, with_part_small}

-- two maps that are alike from a place on give the same number
pub same_number : (f g : ℕ → ℕ) (start from n : ℕ) → ((i : ℕ) → i < n → f (start + i) ≡ g (from + i)) → number_of f start n ≡ number_of g from n
unfolding number_of
same_number f g start from zero h = refl
same_number f g start from (suc n) h =
    let first : f start ≡ g from = rw (add-zero start, add-zero from) at (h 0 (omega arith)) in
    let rest : number_of f (suc start) n ≡ number_of g (suc from) n = same_number f g (suc start) (suc from) n (λ i l. later i (h (suc i) (omega arith))) in
    cc
  where
    later : (i : ℕ) → f (start + suc i) ≡ g (from + suc i) → f (suc start + i) ≡ g (suc from + i)
    later i e =
        let a : suc start + i ≡ start + suc i = omega arith in
        let b : suc from + i ≡ from + suc i = omega arith in
        rw (a, b) e

pub byte_at_word : (m : Words) (g k : ℕ) → k < 8 → byte_at m (g * 8 + k) ≡ byte_of (slice_index m g) k
unfolding byte_at
byte_at_word m g k l =
    let a : (g * 8 + k) / 8 ≡ g = omega arith in
    let b : (g * 8 + k) % 8 ≡ k = omega arith in
    rw (a, b) refl

-- a granule is the number of its bytes
granule_number : (m : Words) (g : ℕ) → slice_index m g < 2 ^ 64 → number_of (byte_at m) (g * 8) 8 ≡ slice_index m g
granule_number m g h =
    same_number (byte_at m) (byte_of (slice_index m g)) (g * 8) 0 8 (λ i l. rw (zero-add i) (byte_at_word m g i l))
    ∙ number_again 8 (slice_index m g) h

words_from_is : (f : ℕ → ℕ) (at : ℕ) (m : Words) → ((k : ℕ) → k < length m → number_of f ((at + k) * 8) 8 ≡ slice_index m k) → words_from f at (length m) ≡ m
unfolding words_from
words_from_is f at [] h = refl
words_from_is f at (w ∷ m) h =
    let first : number_of f (at * 8) 8 ≡ w = rw (add-zero at) at (h 0 (omega arith)) in
    let rest : words_from f (suc at) (length m) ≡ m = words_from_is f (suc at) m (λ k l. later k (h (suc k) (omega arith))) in
    cc
  where
    later : (k : ℕ) → number_of f ((at + suc k) * 8) 8 ≡ slice_index (w ∷ m) (suc k) → number_of f ((suc at + k) * 8) 8 ≡ slice_index m k
    later k e = let a : (suc at + k) * 8 ≡ (at + suc k) * 8 = omega arith in rw a e

-- a memory is told by its bytes
pub memory_of_is : (f : ℕ → ℕ) (m : Words) → IsMemory m → ((at : ℕ) → f at ≡ byte_at m at) → memory_of f ≡ m
unfolding memory_of
memory_of_is f m h e = ap (words_from f 0) (sym h.granules) ∙ words_from_is f 0 m (λ k l. granule k)
  where
    granule : (k : ℕ) → number_of f ((0 + k) * 8) 8 ≡ slice_index m k
    granule k =
        let a : (0 + k) * 8 ≡ k * 8 = omega arith in
        rw a (same_number f (byte_at m) (k * 8) (k * 8) 8 (λ i l. e (k * 8 + i)) ∙ granule_number m k (h.small k))

-- ---- a write

put_in : Words → ℕ → ℕ → ℕ → ℕ → Words
put_in m g first n v = slice_set m g (with_part (slice_index m g) first n v)

byte_same : (m : Words) (g first n v k : ℕ) → g < length m → k < 8 → byte_at (put_in m g first n v) (g * 8 + k) ≡ byte_of (with_part (slice_index m g) first n v) k
unfolding put_in
byte_same m g first n v k h l =
    byte_at_word (put_in m g first n v) g k l
    ∙ ap (λ w. byte_of w k) (get_or-set_same m g (with_part (slice_index m g) first n v) 0 h)

byte_other : (m : Words) (g first n v at : ℕ) → at / 8 ≢ g → byte_at (put_in m g first n v) at ≡ byte_at m at
unfolding put_in byte_at
byte_other m g first n v at h = ap (λ w. byte_of w (at % 8)) (get_or-set_other m g (at / 8) (with_part (slice_index m g) first n v) 0 h)

abbrev range : ℕ → ℕ → ByteRange
range start n = record { start = start; bytes = n }

pub outside : (f : ℕ → ℕ) (r : ByteRange) (v at : ℕ) → (at < r.start) ⊎ (r.start + r.bytes ≤ at) → with_bytes f r v at ≡ f at
outside f r v at h = grind (arith, nat_tests)

pub inside : (f : ℕ → ℕ) (r : ByteRange) (v at : ℕ) → r.start ≤ at → at < r.start + r.bytes → with_bytes f r v at ≡ byte_of v (at - r.start)
inside f r v at h k = grind (arith, nat_tests)

in_word : (m : Words) (g first n v k : ℕ) → g < length m → first + n ≤ 8 → v < 2 ^ (8 * n) → k < 8
    → byte_at (put_in m g first n v) (g * 8 + k) ≡ with_bytes (byte_at m) (range (g * 8 + first) n) v (g * 8 + k)
in_word m g first n v k h l small k8 = go (cases_lt k first) (cases_lt k (first + n))
  where
    go : (k < first) ⊎ (first ≤ k) → (k < first + n) ⊎ (first + n ≤ k) → byte_at (put_in m g first n v) (g * 8 + k) ≡ with_bytes (byte_at m) (range (g * 8 + first) n) v (g * 8 + k)
    go (inl a) _ =
        byte_same m g first n v k h k8
        ∙ byte_below (slice_index m g) first n v k a
        ∙ sym (byte_at_word m g k k8)
        ∙ sym (outside (byte_at m) (range (g * 8 + first) n) v (g * 8 + k) (inl (omega arith)))
    go (inr a) (inl b) =
        let e : first + (k - first) ≡ k = omega arith in
        let f : g * 8 + k - (g * 8 + first) ≡ k - first = omega arith in
        byte_same m g first n v k h k8
        ∙ ap (byte_of (with_part (slice_index m g) first n v)) (sym e)
        ∙ byte_inside (slice_index m g) first n v (k - first) (omega arith)
        ∙ ap (byte_of v) (sym f)
        ∙ sym (inside (byte_at m) (range (g * 8 + first) n) v (g * 8 + k) (omega arith) (omega arith))
    go (inr a) (inr b) =
        let e : first + (n + (k - (first + n))) ≡ k = omega arith in
        byte_same m g first n v k h k8
        ∙ ap (byte_of (with_part (slice_index m g) first n v)) (sym e)
        ∙ byte_above (slice_index m g) first n v (k - (first + n)) small
        ∙ ap (byte_of (slice_index m g)) e
        ∙ sym (byte_at_word m g k k8)
        ∙ sym (outside (byte_at m) (range (g * 8 + first) n) v (g * 8 + k) (inr (omega arith)))

-- a write changes just these bytes
put_bytes : (m : Words) (g first n v at : ℕ) → g < length m → first + n ≤ 8 → v < 2 ^ (8 * n) → byte_at (put_in m g first n v) at ≡ with_bytes (byte_at m) (range (g * 8 + first) n) v at
put_bytes m g first n v at h l small = go (cases_eq (at / 8) g)
  where
    go : (at / 8 ≡ g) ⊎ (at / 8 ≡ g → ⊥) → byte_at (put_in m g first n v) at ≡ with_bytes (byte_at m) (range (g * 8 + first) n) v at
    go (inl e) =
        let k : g * 8 + at % 8 ≡ at = omega arith in
        rw k at (in_word m g first n v (at % 8) h l small (omega arith))
    go (inr e) = byte_other m g first n v at e ∙ sym (outside (byte_at m) (range (g * 8 + first) n) v at (apart (cases_lt at (g * 8 + first)) (cases_lt at (g * 8 + first + n))))
      where
        apart : (at < g * 8 + first) ⊎ (g * 8 + first ≤ at) → (at < g * 8 + first + n) ⊎ (g * 8 + first + n ≤ at) → (at < g * 8 + first) ⊎ (g * 8 + first + n ≤ at)
        apart (inl x) _ = inl x
        apart (inr x) (inr y) = inr y
        apart (inr x) (inl y) = absurd (e (omega arith))

put_memory : (m : Words) (g first n v : ℕ) → IsMemory m → g < length m → first + n ≤ 8 → v < 2 ^ (8 * n) → IsMemory (put_in m g first n v)
unfolding put_in
put_memory m g first n v h l fit small = record {
  granules = length-set m g (with_part (slice_index m g) first n v) ∙ h.granules;
  small = λ k. each k (cases_eq g k);
}
  where
    w : ℕ
    w = with_part (slice_index m g) first n v

    each : (k : ℕ) → (g ≡ k) ⊎ (g ≡ k → ⊥) → slice_index (slice_set m g w) k < 2 ^ 64
    each k (inl e) = subst (λ j. slice_index (slice_set m g w) j < 2 ^ 64) e (rw (get_or-set_same m g w 0 l) (with_part_small (slice_index m g) first n v (h.small g) small fit))
    each k (inr e) = rw (get_or-set_other m g k w 0 (λ q. e (sym q))) (h.small k)

-- the same, of a range of one granule
pub written_is_put : (m : Words) (r : ByteRange) (v : ℕ) → IsMemory m → r.start / 8 < GRANULE_COUNT → r.start % 8 + r.bytes ≤ 8 → v < 2 ^ (8 * r.bytes)
    → written m r v ≡ slice_set m (r.start / 8) (with_part (slice_index m (r.start / 8)) (r.start % 8) r.bytes v)
unfolding written put_in
written_is_put m r v h g l small =
    memory_of_is (with_bytes (byte_at m) r v) (put_in m (r.start / 8) (r.start % 8) r.bytes v)
    (put_memory m (r.start / 8) (r.start % 8) r.bytes v h (rw h.granules g) l small)
    (λ at. sym (bytes at))
  where
    start : r.start / 8 * 8 + r.start % 8 ≡ r.start
    start = omega arith

    bytes : (at : ℕ) → byte_at (put_in m (r.start / 8) (r.start % 8) r.bytes v) at ≡ with_bytes (byte_at m) r v at
    bytes at = put_bytes m (r.start / 8) (r.start % 8) r.bytes v at (rw h.granules g) l small ∙ ap (λ s. with_bytes (byte_at m) (range s r.bytes) v at) start

pub written_memory : (m : Words) (r : ByteRange) (v : ℕ) → IsMemory m → r.start / 8 < GRANULE_COUNT → r.start % 8 + r.bytes ≤ 8 → v < 2 ^ (8 * r.bytes) → IsMemory (written m r v)
unfolding put_in
written_memory m r v h g l small = rw (written_is_put m r v h g l small) (put_memory m (r.start / 8) (r.start % 8) r.bytes v h (rw h.granules g) l small)

-- a write changes just the bytes of its range
pub byte_at-written : (m : Words) (r : ByteRange) (v at : ℕ) → IsMemory m → r.start / 8 < GRANULE_COUNT → r.start % 8 + r.bytes ≤ 8 → v < 2 ^ (8 * r.bytes)
    → byte_at (written m r v) at ≡ with_bytes (byte_at m) r v at
unfolding put_in
byte_at-written m r v at h g l small =
    rw (written_is_put m r v h g l small)
    (put_bytes m (r.start / 8) (r.start % 8) r.bytes v at (rw h.granules g) l small ∙ ap (λ s. with_bytes (byte_at m) (range s r.bytes) v at) start)
  where
    start : r.start / 8 * 8 + r.start % 8 ≡ r.start
    start = omega arith

-- what is read stands in one granule
pub read_is_part : (m : Words) (r : ByteRange) → r.start % 8 + r.bytes ≤ 8 → read m r ≡ part_of (slice_index m (r.start / 8)) (r.start % 8) r.bytes
unfolding read
read_is_part m r l =
    same_number (byte_at m) (byte_of (slice_index m (r.start / 8))) r.start (r.start % 8) r.bytes each
    ∙ sym (part_number (slice_index m (r.start / 8)) (r.start % 8) r.bytes)
  where
    each : (i : ℕ) → i < r.bytes → byte_at m (r.start + i) ≡ byte_of (slice_index m (r.start / 8)) (r.start % 8 + i)
    each i k =
        let e : r.start + i ≡ r.start / 8 * 8 + (r.start % 8 + i) = omega arith in
        rw e (byte_at_word m (r.start / 8) (r.start % 8 + i) (omega arith))
