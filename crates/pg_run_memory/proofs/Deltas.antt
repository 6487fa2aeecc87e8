-- A part of a word changed by one sum or difference.
use Rattle.std.proofs.Common.{◌≡◌, ℕ, ◌+◌, ◌-◌, ◌*◌, ◌%◌, ◌^◌, ◌<◌, ◌≤◌, sym, ap, ◌∙◌, arith, inl, inr, ◌⊎◌}
use Rattle.std.proofs.lemmas.Bool.{cases_lt}
use Rattle.pg_run_memory.specs.Bytes.{byte_of, with_bytes}
use Rattle.pg_run_memory.specs.Words.{part_of, with_part}
use Rattle.pg_run_memory.proofs.Parts.{part_moved, with_part_small, byte_inside, byte_below, byte_above}
use Rattle.pg_run_memory.proofs.Places.{inside, outside}

pub add_is : (w first n from to : ℕ) → w < 2 ^ 64 → first + n ≤ 8 → to < 2 ^ (8 * n) → part_of w first n ≡ from → from ≤ to
    → (w + (to - from) * 2 ^ (8 * first) % 2 ^ 64) % 2 ^ 64 ≡ with_part w first n to
add_is w first n from to small fit t e l =
    let m : with_part w first n to + from * 2 ^ (8 * first) ≡ w + to * 2 ^ (8 * first) = rw e at (part_moved w first n to) in
    let s : from + (to - from) ≡ to = omega arith in
    let m' : with_part w first n to + from * 2 ^ (8 * first) ≡ w + (from + (to - from)) * 2 ^ (8 * first) = rw s m in
    wrapped w (with_part w first n to) ((to - from) * 2 ^ (8 * first)) (more (with_part w first n to) w from (to - from) (2 ^ (8 * first)) m') (with_part_small w first n to small t fit)
  where
    more : (r w f t p : ℕ) → r + f * p ≡ w + (f + t) * p → r ≡ w + t * p
    more r w f t p h = omega arith

    wrapped : (w r x : ℕ) → r ≡ w + x → r < 2 ^ 64 → (w + x % 2 ^ 64) % 2 ^ 64 ≡ r
    wrapped w r x h k = omega arith

pub sub_is : (w first n from to : ℕ) → w < 2 ^ 64 → part_of w first n ≡ from → to ≤ from → (w + (2 ^ 64 - (from - to) * 2 ^ (8 * first) % 2 ^ 64)) % 2 ^ 64 ≡ with_part w first n to
sub_is w first n from to small e l =
    let m : with_part w first n to + from * 2 ^ (8 * first) ≡ w + to * 2 ^ (8 * first) = rw e at (part_moved w first n to) in
    let s : to + (from - to) ≡ from = omega arith in
    let m' : with_part w first n to + (to + (from - to)) * 2 ^ (8 * first) ≡ w + to * 2 ^ (8 * first) = rw s m in
    wrapped w (with_part w first n to) ((from - to) * 2 ^ (8 * first)) (less (with_part w first n to) w to (from - to) (2 ^ (8 * first)) m') small
  where
    less : (r w f t p : ℕ) → r + (f + t) * p ≡ w + f * p → r + t * p ≡ w
    less r w f t p h = omega arith

    wrapped : (w r x : ℕ) → r + x ≡ w → w < 2 ^ 64 → (w + (2 ^ 64 - x % 2 ^ 64)) % 2 ^ 64 ≡ r
    wrapped w r x h k = omega arith

-- the bytes of a word with a part of it changed
pub byte_of-with_part : (w first n v k : ℕ) → v < 2 ^ (8 * n) → byte_of (with_part w first n v) k ≡ with_bytes (byte_of w) (record { start = first; bytes = n }) v k
byte_of-with_part w first n v k h = go (cases_lt k first) (cases_lt k (first + n))
  where
    go : (k < first) ⊎ (first ≤ k) → (k < first + n) ⊎ (first + n ≤ k) → byte_of (with_part w first n v) k ≡ with_bytes (byte_of w) (record { start = first; bytes = n }) v k
    go (inl a) _ = byte_below w first n v k a ∙ sym (outside (byte_of w) (record { start = first; bytes = n }) v k (inl a))
    go (inr a) (inl b) =
        let e : first + (k - first) ≡ k = omega arith in
        ap (byte_of (with_part w first n v)) (sym e)
        ∙ byte_inside w first n v (k - first) (omega arith)
        ∙ sym (inside (byte_of w) (record { start = first; bytes = n }) v k a b)
    go (inr a) (inr b) =
        let e : first + (n + (k - (first + n))) ≡ k = omega arith in
        ap (byte_of (with_part w first n v)) (sym e)
        ∙ byte_above w first n v (k - (first + n)) h
        ∙ ap (byte_of w) e
        ∙ sym (outside (byte_of w) (record { start = first; bytes = n }) v k (inr b))
