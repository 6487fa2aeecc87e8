-- The classes of the nodes above a place, and what follows where the levels from one on have no numbers.
use Rattle.std.proofs.Common.{◌≡◌, ℕ, zero, suc, ◌+◌, ◌-◌, ◌*◌, ◌/◌, ◌%◌, ◌^◌, ◌<◌, ◌≤◌, sym, ap, ◌∙◌, arith}
use Rattle.std.specs.Int.{bit_at, w64}
use Rattle.std.specs.Prelude.{bit_or}
use Rattle.std.proofs.lemmas.Nat.Bits.{bit_at_set_other, bit_at_set_same}
use Rattle.std.proofs.lemmas.Nat.{shr-shr, shr_le}
use lib.Count.{leading_unique}
use Rattle.pg_stamps.specs.declared.stamps.TheConstants.{PLACE_COUNT}
use Rattle.pg_stamps.specs.Marks.{greatest_below, node_at}
use Rattle.pg_stamps.specs.Numbers.{class_of}
use Rattle.pg_stamps.proofs.Levels.{greatest_next, high, high_low, high_next, low, node_high, node_low}

-- what has no bit after one was set had none before, and isn't that
pub without_bit : (c k i : ℕ) → k < 64 → bit_at (bit_or c (1 * 2 ^ k % 2 ^ 64)) i ≡ 0 → (i ≡ k → ⊥) × (bit_at c i ≡ 0)
without_bit c k i lt e = (other, sym (bit_at_set_other w64 c k lt i other) ∙ e)
  where
    other : i ≡ k → ⊥
    other s = let a : bit_at (bit_or c (1 * 2 ^ k % 2 ^ 64)) i ≡ 1 = ap (bit_at (bit_or c (1 * 2 ^ k % 2 ^ 64))) s ∙ bit_at_set_same w64 c k lt in omega (arith, a, e)

node_below : (x h : ℕ) → x < PLACE_COUNT → h ≤ 26 → node_at x h < 2 ^ (27 - h)
unfolding high
node_below x h lx le = node_high x h lx (omega (arith, le))

node_above : (x h : ℕ) → h ≤ 26 → 2 ^ (27 - h) ≤ 2 * node_at x h + 1
unfolding high
node_above x h le =
    let a = node_low x h le in
    let b : high h ≡ 2 * high (suc h) = high_next h (omega (arith, le)) in
    let c : high (suc h) ≡ low h = high_low h in
    let d : high h ≤ 2 * node_at x h + 1 = omega (arith, a, b, c) in
    d

class_at : (x h : ℕ) → x < PLACE_COUNT → h ≤ 26 → class_of (node_at x h) ≡ 37 + h
class_at x h lx le = sym (leading_unique 64 (node_at x h) (37 + h) (27 - h) (omega (arith, le)) (node_below x h lx le) (node_above x h le))

module _ (m : ℕ → ℕ) (c : ℕ) (unused : (n : ℕ) → bit_at c (class_of n) ≡ 0 → m n ≡ 0) (x : ℕ) (lx : x < PLACE_COUNT) where
  pub unmarked_level : (h : ℕ) → h ≤ 26 → c / 2 ^ 37 / 2 ^ h % 2 ≡ 0 → m (node_at x h) ≡ 0
  unmarked_level h le e = unused (node_at x h) (ap (bit_at c) (class_at x h lx le) ∙ ap (λ (k : ℕ). k % 2) (sym (shr-shr c 37 h)) ∙ e)

  -- where no level from one on has a bit, the nodes there have no numbers
  pub none_above : (h k : ℕ) → h + k ≤ 27 → c / 2 ^ 37 / 2 ^ h ≡ 0 → greatest_below m x (h + k) ≡ greatest_below m x h
  none_above h zero le e = let s : h + 0 ≡ h = omega arith in ap (greatest_below m x) s
  none_above h (suc k) le e =
      let s : h + suc k ≡ suc (h + k) = omega arith in
      let z : c / 2 ^ 37 / 2 ^ (h + k) % 2 ≡ 0 = ap (λ (i : ℕ). i % 2) (sym (shr-shr (c / 2 ^ 37) h k) ∙ ap (λ (i : ℕ). i / 2 ^ k) e ∙ nothing k) in
      let a = none_above h k (omega (arith, le)) e in
      let b = unmarked_level (h + k) (omega (arith, le)) z in
      let d = greatest_next m x (h + k) in
      ap (greatest_below m x) s ∙ omega (arith, a, b, d)
    where
      nothing : (k : ℕ) → 0 / 2 ^ k ≡ 0
      nothing k = let a = shr_le 0 k in omega (arith, a)
