-- Numbers that are joined of bytes, one byte more at a time.
use Rattle.std.proofs.Common.{◌≡◌, ℕ, zero, suc, ◌+◌, ◌-◌, ◌*◌, ◌%◌, ◌^◌, ◌<◌, ◌≤◌, ◌==◌, List, [], ◌∷◌, length, drop, false, Option, Some}
use Rattle.std.proofs.Common.{slice_index, arith, refl, ap, ◌∙◌, subst}
use Rattle.pg_precondition.specs.Values.{joined, number_of, with_both}
use Rattle.pg_precondition.specs.Bounds.{bound_of}

dropped : (xs : List ℕ) (i : ℕ) → i < length xs → drop i xs ≡ slice_index xs i ∷ drop (suc i) xs
dropped [] i h = absurd (omega arith)
dropped (x ∷ xs) zero h = refl
dropped (x ∷ xs) (suc i) h = dropped xs i (omega arith)

pub joined_none : (known : List (Option ℕ)) (parts : List ℕ) → joined known parts 0 ≡ Some 0
unfolding joined
joined_none known parts = refl

next_of : (known : List (Option ℕ)) (p : ℕ) (parts : List ℕ) (n : ℕ)
    → joined known (p ∷ parts) (suc n) ≡ with_both (number_of known p) (joined known parts n) (λ byte rest. Some (rest * 2 ^ 8 + byte % 2 ^ 8))
unfolding joined
next_of known p parts n = refl

pub joined_next : (known : List (Option ℕ)) (parts : List ℕ) (first count : ℕ) → (count == 0) ≡ false → first < length parts
    → joined known (drop first parts) count ≡ with_both (number_of known (slice_index parts first)) (joined known (drop (first + 1) parts) (count - 1))
    (λ byte rest. Some (rest * 2 ^ 8 + byte % 2 ^ 8))
joined_next known parts first zero e h = absurd cc
joined_next known parts first (suc n) e h =
    let k : suc n - 1 ≡ n = omega arith in
    let l : first + 1 ≡ suc first = omega arith in
    rw k (rw l (ap (λ (ps : List ℕ). joined known ps (suc n)) (dropped parts first h) ∙ next_of known (slice_index parts first) (drop (suc first) parts) n))

pub bound_zero : bound_of 0 ≡ 1
unfolding bound_of
bound_zero = refl

bound_suc : (n : ℕ) → bound_of (suc n) ≡ 256 * bound_of n
unfolding bound_of
bound_suc n = refl

-- a byte more
pub bound_next : (rest byte count : ℕ) → (count ≡ 0 → ⊥) → rest < bound_of (count - 1) → rest * 256 + byte % 256 < bound_of count
bound_next rest byte zero e h = absurd (e refl)
bound_next rest byte (suc n) e h =
    let k : suc n - 1 ≡ n = omega arith in
    let b : bound_of (suc n) ≡ 256 * bound_of n = bound_suc n in
    let l : rest < bound_of n = subst (λ (m : ℕ). rest < bound_of m) k h in
    omega (arith, b, l)

pub bound_small : (count : ℕ) → count ≤ 8 → bound_of (count - 1) ≤ 2 ^ 56
unfolding bound_of
bound_small zero h = omega arith
bound_small (suc zero) h = omega arith
bound_small (suc (suc zero)) h = omega arith
bound_small (suc (suc (suc zero))) h = omega arith
bound_small (suc (suc (suc (suc zero)))) h = omega arith
bound_small (suc (suc (suc (suc (suc zero))))) h = omega arith
bound_small (suc (suc (suc (suc (suc (suc zero)))))) h = omega arith
bound_small (suc (suc (suc (suc (suc (suc (suc zero))))))) h = omega arith
bound_small (suc (suc (suc (suc (suc (suc (suc (suc zero)))))))) h = omega arith
bound_small (suc (suc (suc (suc (suc (suc (suc (suc (suc n))))))))) h = absurd (omega arith)
