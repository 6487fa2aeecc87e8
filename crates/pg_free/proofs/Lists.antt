-- Lists that have the same elements.
use Rattle.std.proofs.Common.{◌≡◌, ◌<◌, ℕ, suc, List, [], ◌∷◌, length, refl, ap, ◌∙◌, arith}
use Rattle.std.specs.Prelude.{slice_index_or}

pub same_elements : {A : Type 0} (xs ys : List A) → length ys ≡ length xs → ((i : ℕ) (d : A) → i < length xs → slice_index_or ys i d ≡ slice_index_or xs i d) → ys ≡ xs
same_elements [] [] l f = refl
same_elements [] (y ∷ ys) l f = absurd (omega (arith, l))
same_elements (x ∷ xs) [] l f = absurd (omega (arith, l))
same_elements (x ∷ xs) (y ∷ ys) l f =
    let head : y ≡ x = f 0 x (omega arith) in
    let tail : ys ≡ xs = same_elements xs ys (omega (arith, l)) (λ i d h. f (suc i) d (omega (arith, h))) in
    ap (λ z. z ∷ ys) head ∙ ap (λ zs. x ∷ zs) tail
