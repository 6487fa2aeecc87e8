-- Numbers and lines one after another: how many they are, the one at each place, and the last one.
use Rattle.std.proofs.Common.{◌≡◌, ℕ, zero, suc, ◌+◌, ◌<◌, ℤ, pos, List, [], ◌∷◌, ◌++◌, length, Some, slice_get, refl, ap, sym, ◌∙◌, arith}
use Rattle.pg_session_trial.specs.Lines.{numbers_from, lines_from, trial_line}

-- one number more stands behind the others
pub from_more : (first count : ℕ) → numbers_from first (suc count) ≡ numbers_from first count ++ pos (first + count) ∷ []
from_more first zero = let e : first ≡ first + 0 = omega arith in ap (λ k. pos k ∷ []) e
from_more first (suc count) =
    let e : (first + 1) + count ≡ first + suc count = omega arith in
    ap (λ l. pos first ∷ l) (from_more (first + 1) count ∙ ap (λ k. numbers_from (first + 1) count ++ pos k ∷ []) e)

pub from-length : (first count : ℕ) → length (numbers_from first count) ≡ count
from-length first zero = refl
from-length first (suc count) = ap suc (from-length (first + 1) count)

pub from-at : (first count j : ℕ) → j < count → slice_get (numbers_from first count) j ≡ Some (pos (first + j))
from-at first zero j h = absurd (omega (arith, h))
from-at first (suc count) zero h = let e : first ≡ first + 0 = omega arith in ap (λ k. Some (pos k)) e
from-at first (suc count) (suc j) h =
    let e : (first + 1) + j ≡ first + suc j = omega arith in
    let g : j < count = omega (arith, h) in
    from-at (first + 1) count j g ∙ ap (λ k. Some (pos k)) e

pub lines-length : (n i count : ℕ) → length (lines_from n i count) ≡ count
lines-length n i zero = refl
lines-length n i (suc count) = ap suc (lines-length n (i + 1) count)

pub lines-at : (n i count j : ℕ) → j < count → slice_get (lines_from n i count) j ≡ Some (trial_line n (i + j))
lines-at n i zero j h = absurd (omega (arith, h))
lines-at n i (suc count) zero h = let e : i ≡ i + 0 = omega arith in ap (λ k. Some (trial_line n k)) e
lines-at n i (suc count) (suc j) h =
    let e : (i + 1) + j ≡ i + suc j = omega arith in
    let g : j < count = omega (arith, h) in
    lines-at n (i + 1) count j g ∙ ap (λ k. Some (trial_line n k)) e
