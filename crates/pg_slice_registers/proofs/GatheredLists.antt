-- Lists that are gathered one after another.
use Rattle.std.proofs.Common.{◌≡◌, ℕ, zero, suc, ◌+◌, ◌<◌, ◌≤◌, List, [], ◌∷◌, ◌++◌, length, map, drop, slice_index_or, arith, refl, ap, sym, ◌∙◌, append_assoc}

dropped : {A : Type 0} (xs : List A) (i : ℕ) (d : A) → i < length xs → drop i xs ≡ slice_index_or xs i d ∷ drop (i + 1) xs
dropped [] i d h = absurd (omega arith)
dropped (x ∷ xs) zero d h = refl
dropped (x ∷ xs) (suc i) d h = let z : suc i + 1 ≡ suc (i + 1) = omega arith in rw z (dropped xs i d (omega arith))

-- one more of what is made of each
pub one_pushed : {A B : Type 0} (f : A → B) (xs : List A) (i : ℕ) (d : A) (old new whole : List B) → i < length xs → new ≡ old ++ f (slice_index_or xs i d) ∷ [] →
    old ++ map f (drop i xs) ≡ whole → new ++ map f (drop (i + 1) xs) ≡ whole
one_pushed f xs i d old new whole h e k =
    ap (λ ys. ys ++ map f (drop (i + 1) xs)) e
    ∙ append_assoc old (f (slice_index_or xs i d) ∷ []) (map f (drop (i + 1) xs))
    ∙ ap (λ ys. old ++ map f ys) (sym (dropped xs i d h))
    ∙ k

past_all : {A : Type 0} (xs : List A) (i : ℕ) → length xs ≤ i → drop i xs ≡ []
past_all [] zero h = refl
past_all [] (suc i) h = refl
past_all (x ∷ xs) zero h = absurd (omega arith)
past_all (x ∷ xs) (suc i) h = past_all xs i (omega arith)

append_none : {A : Type 0} (xs : List A) → xs ++ [] ≡ xs
append_none [] = refl
append_none (x ∷ xs) = ap (λ ys. x ∷ ys) (append_none xs)

pub all_pushed : {A B : Type 0} (f : A → B) (xs : List A) (i : ℕ) (old whole : List B) → length xs ≤ i → old ++ map f (drop i xs) ≡ whole → old ≡ whole
all_pushed f xs i old whole h k = sym (append_none old) ∙ ap (λ ys. old ++ map f ys) (sym (past_all xs i h)) ∙ k
