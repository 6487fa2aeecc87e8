-- The number of eight bytes, made byte by byte, the high one first.
use Rattle.std.proofs.Common.{◌≡◌, ℕ, zero, suc, ◌+◌, ◌-◌, ◌*◌, ◌/◌, ◌%◌, ◌^◌, ◌<◌, ◌≤◌, List, sym, ◌∙◌, ap, subst, arith, add-zero}
use Rattle.std.specs.Prelude.{slice_index}
use Rattle.std.proofs.lemmas.Nat.{mod_low, mul-add-lt, pow-add, shr_high}
use Rattle.std.proofs.Math.Nat.{pow-le-pow_right}
use Rattle.pg_crew.specs.pg_run_memory.Bytes.{byte_of}
use Rattle.pg_crew.proofs.of_pg_run_memory.Parts.{byte_shifted}

-- its bytes from `left` on are those of the list
pub record IsMade (bytes : List ℕ) (from left word : ℕ) : Type 0 where
  pub few : left ≤ 8
  pub small : word < 2 ^ (8 * (8 - left))
  pub same : (k : ℕ) → left + k < 8 → byte_of word k ≡ slice_index bytes (from + (left + k))

pub none_made : (bytes : List ℕ) (from : ℕ) → IsMade bytes from 8 0
none_made bytes from = record { few = omega arith; small = omega arith; same = λ k lt. absurd (omega (arith, lt)) }

low_byte : (w b : ℕ) → b < 2 ^ 8 → byte_of (w * 256 + b) 0 ≡ b
low_byte w b small =
    let low : (w * 2 ^ 8 + b) % 2 ^ 8 ≡ b = mod_low w 8 b small in
    let whole : (w * 2 ^ 8 + b) / 2 ^ (8 * 0) ≡ w * 2 ^ 8 + b = omega arith in
    ap (λ (n : ℕ). n % 2 ^ 8) whole ∙ low

high_byte : (w b k : ℕ) → b < 2 ^ 8 → byte_of (w * 256 + b) (suc k) ≡ byte_of w k
high_byte w b k small =
    let high : (w * 2 ^ 8 + b) / 2 ^ 8 ≡ w = shr_high w 8 b small in
    let one : suc k ≡ 1 + k = omega arith in
    ap (byte_of (w * 2 ^ 8 + b)) one ∙ byte_shifted (w * 2 ^ 8 + b) 1 k ∙ ap (λ (n : ℕ). byte_of n k) high

pub fits_more : (bytes : List ℕ) (from left word : ℕ) → IsMade bytes from left word → 0 < left → word < 2 ^ 56
fits_more bytes from left word h some = below (8 * (8 - left)) (let f = h.few in omega (arith, some, f)) h.small
  where
    below : (n : ℕ) → n ≤ 56 → word < 2 ^ n → word < 2 ^ 56
    below n le lt = let p : 2 ^ n ≤ 2 ^ 56 = pow-le-pow_right (omega arith) le in omega (arith, p, lt)

-- one byte more
pub made_more : (bytes : List ℕ) (from left word b next : ℕ) → IsMade bytes from left word → 0 < left → next ≡ left - 1 → b ≡ slice_index bytes (from + next) → b < 2 ^ 8
    → IsMade bytes from next (word * 256 + b)
made_more bytes from left word b next h some e is small = record {
  few = (let f = h.few in omega (arith, f, e));
  small = (
      let f = h.few in
      let n : 8 * (8 - next) ≡ 8 + 8 * (8 - left) = omega (arith, f, e, some) in
      subst (λ (m : ℕ). word * 256 + b < 2 ^ m) (sym n) (subst (λ (m : ℕ). word * 2 ^ 8 + b < m) (sym (pow-add 2 8 (8 * (8 - left)))) (mul-add-lt word (2 ^ 8) b (2 ^ (8 * (8 - left))) h.small small))
      );
  same = at;
}
  where
    at : (k : ℕ) → next + k < 8 → byte_of (word * 256 + b) k ≡ slice_index bytes (from + (next + k))
    at zero lt = low_byte word b small ∙ is ∙ ap (λ (n : ℕ). slice_index bytes (from + n)) (sym (add-zero next))
    at (suc k) lt =
        let shift : left + k ≡ next + suc k = omega (arith, e, some) in
        high_byte word b k small ∙ h.same k (omega (arith, shift, lt)) ∙ ap (λ (n : ℕ). slice_index bytes (from + n)) shift

pub all_made : (bytes : List ℕ) (from left word : ℕ) → IsMade bytes from left word → left ≤ 0 → (k : ℕ) → k < 8 → byte_of word k ≡ slice_index bytes (from + k)
all_made bytes from left word h none k lt =
    let z : left ≡ 0 = omega (arith, none) in
    let shift : left + k ≡ k = omega (arith, z) in
    h.same k (omega (arith, z, lt)) ∙ ap (λ (n : ℕ). slice_index bytes (from + n)) shift
