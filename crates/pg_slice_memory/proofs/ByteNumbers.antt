-- Numbers that are made of bytes, the highest first, one byte more at a time.
use Rattle.std.proofs.Common.{◌≡◌, ℕ, suc, ◌+◌, ◌-◌, ◌*◌, ◌^◌, ◌<◌, ◌≤◌, arith, ap, sym, ◌∙◌}
use Rattle.std.proofs.Math.Nat.{pow-le-pow_right}
use Rattle.std.proofs.lemmas.Nat.{pow-add}
use Rattle.pg_run_memory.specs.Bytes as bytes
use Rattle.pg_slice_memory.proofs.LoadedNumbers.{bytes_next}

bits_more : (k : ℕ) → 2 ^ (8 * (k + 1)) ≡ 2 ^ (8 * k) * 256
bits_more k = let e : 8 * (k + 1) ≡ 8 * k + 8 = omega arith in ap (λ (j : ℕ). 2 ^ j) e ∙ pow-add 2 (8 * k) 8

pub digit_small : (n b k : ℕ) → n < 2 ^ (8 * k) → b < 256 → n * 256 + b < 2 ^ (8 * (k + 1))
digit_small n b k h l = let e = bits_more k in omega (arith, e, h, l)

pub digits_small : (n k : ℕ) → k ≤ 7 → n < 2 ^ (8 * k) → n < 2 ^ 56
digits_small n k le h =
    let m : 8 * k ≤ 56 = omega arith in
    let e : 2 ^ (8 * k) ≤ 2 ^ 56 = pow-le-pow_right (omega arith) m in
    omega (arith, e, h)

pub digit_next : (f : ℕ → ℕ) (start count k number byte : ℕ) → k < count → number ≡ bytes.number_of f (start + (count - k)) k → byte ≡ f (start + (count - 1 - k)) →
    number * 256 + byte ≡ bytes.number_of f (start + (count - (k + 1))) (k + 1)
digit_next f start count k number byte lt e b =
    let at = start + (count - (k + 1)) in
    let a : start + (count - k) ≡ at + 1 = omega (arith, lt) in
    let c : start + (count - 1 - k) ≡ at = omega arith in
    let s : suc k ≡ k + 1 = omega arith in
    ap (λ (n : ℕ). n * 256 + byte) (e ∙ ap (λ (i : ℕ). bytes.number_of f i k) a)
    ∙ ap (λ (n : ℕ). bytes.number_of f (at + 1) k * 256 + n) (b ∙ ap f c)
    ∙ sym (bytes_next f at k) ∙ ap (λ (n : ℕ). bytes.number_of f at n) s
