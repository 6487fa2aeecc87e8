-- The items before a place of a list, and those from it on.
use Rattle.std.proofs.Common.{◌≡◌, ℕ, ◌+◌, zero, suc, List, [], ◌∷◌, ◌++◌, take, drop, Some, ap, arith}
use Rattle.std.specs.Prelude.{slice_get}

pub take_get : {A : Type 0} (xs : List A) (i : ℕ) (x : A) → slice_get xs i ≡ Some x → take (i + 1) xs ≡ take i xs ++ x ∷ []
take_get [] i x h = absurd (cc)
take_get (y ∷ xs) zero x h = let q : y ≡ x = cc in ap (λ z. z ∷ []) q
take_get (y ∷ xs) (suc i) x h = let ih = take_get xs i x h in let e : suc i + 1 ≡ suc (i + 1) = omega arith in rw e (ap (λ l. y ∷ l) ih)

pub drop_get : {A : Type 0} (xs : List A) (i : ℕ) (x : A) → slice_get xs i ≡ Some x → drop i xs ≡ x ∷ drop (i + 1) xs
drop_get [] i x h = absurd (cc)
drop_get (y ∷ xs) zero x h = let q : y ≡ x = cc in ap (λ z. z ∷ xs) q
drop_get (y ∷ xs) (suc i) x h = let ih = drop_get xs i x h in let e : suc i + 1 ≡ suc (i + 1) = omega arith in rw e ih
