-- A list of zeros.
use Rattle.std.proofs.Common.{◌≡◌, ℕ, zero, suc, List, ◌<◌, ◌≤◌, ◌⊎◌, inl, inr, length, replicate, get_or, refl, ap, ◌∙◌, arith}
use Rattle.std.specs.Prelude.{slice_index}
use Rattle.std.proofs.lemmas.Bool.{cases_lt}
use Rattle.std.proofs.lemmas.List.{get_or-replicate}

length_zeros : (n : ℕ) → length (replicate {A = ℕ} n 0) ≡ n
length_zeros zero = refl
length_zeros (suc n) = ap suc (length_zeros n)

pub zeros_length : (n : ℕ) (l : List ℕ) → l ≡ replicate n 0 → length l ≡ n
zeros_length n l e = ap length e ∙ length_zeros n

zero_at : (n i : ℕ) → slice_index (replicate {A = ℕ} n 0) i ≡ 0
zero_at n i = go (cases_lt i n)
  where
    past : (n i : ℕ) → n ≤ i → get_or (replicate {A = ℕ} n 0) i 0 ≡ 0
    past zero i l = refl
    past (suc n) zero l = refl
    past (suc n) (suc i) l = past n i (omega arith)

    go : (i < n) ⊎ (n ≤ i) → slice_index (replicate {A = ℕ} n 0) i ≡ 0
    go (inl l) = get_or-replicate n i 0 0 l
    go (inr l) = past n i l

pub zeros_at : (n : ℕ) (l : List ℕ) (i : ℕ) → l ≡ replicate n 0 → slice_index l i ≡ 0
zeros_at n l i e = ap (λ k. slice_index k i) e ∙ zero_at n i
