-- A search through values that may be changed by each call, but not in what they stand for.
use Rattle.std.proofs.Common.{◌≡◌, ℕ, zero, suc, ◌+◌, ◌<◌, ◌≤◌, Bool, true, false, cond, List, [], ◌∷◌, length, get_or, drop, map, refl, sym, ap, ◌∙◌}
use Rattle.std.proofs.Common.{subst, arith, Option, Some, None}
use Rattle.std.proofs.Math.ListN.{set}
use Rattle.pg_cache.specs.Kept.{first_from}

-- a value's place gets one that stands for the same
pub map-set : {V M : Type 0} (m : V → M) (xs : List V) (i : ℕ) (x y : V) → get_or xs i x ≡ x → m y ≡ m x → map m (set xs i y) ≡ map m xs
map-set m [] i x y e q = refl
map-set m (z ∷ xs) zero x y e q = ap (λ k. k ∷ map m xs) (q ∙ ap m (sym e))
map-set m (z ∷ xs) (suc i) x y e q = ap (λ l. m z ∷ l) (map-set m xs i x y e q)

drop-map : {V B : Type 0} (f : V → B) (xs : List V) (i : ℕ) (x : V) → i < length xs → get_or xs i x ≡ x → drop i (map f xs) ≡ f x ∷ drop (suc i) (map f xs)
drop-map f [] i x lt e = absurd (omega (arith, lt))
drop-map f (z ∷ xs) zero x lt e = ap (λ y. f y ∷ map f xs) e
drop-map f (z ∷ xs) (suc i) x lt e = drop-map f xs i x (omega (arith, lt)) e

drop-past : {V B : Type 0} (f : V → B) (xs : List V) (i : ℕ) → length xs ≤ i → drop i (map f xs) ≡ []
drop-past f [] zero le = refl
drop-past f [] (suc i) le = refl
drop-past f (z ∷ xs) zero le = absurd (omega (arith, le))
drop-past f (z ∷ xs) (suc i) le = drop-past f xs i (omega (arith, le))

map-map : {V M B : Type 0} (m : V → M) (t : M → B) (xs : List V) → map t (map m xs) ≡ map (λ v. t (m v)) xs
map-map m t [] = refl
map-map m t (x ∷ xs) = ap (λ l. t (m x) ∷ l) (map-map m t xs)

same_answers : {V M : Type 0} (m : V → M) (t : M → Bool) (xs ys : List V) → map m xs ≡ map m ys → map (λ v. t (m v)) xs ≡ map (λ v. t (m v)) ys
same_answers m t xs ys e = sym (map-map m t xs) ∙ ap (λ l. map t l) e ∙ map-map m t ys

found : {V M : Type 0} (m : V → M) (t : M → Bool) (xs ys : List V) (n i : ℕ) (x : V) →
    map m xs ≡ map m ys → i < length xs → get_or xs i x ≡ x →
    first_from n (map (λ v. t (m v)) ys) ≡ first_from (n + i) (drop i (map (λ v. t (m v)) ys)) →
    first_from n (map (λ v. t (m v)) ys) ≡ cond (t (m x)) (Some (n + i)) (first_from (suc (n + i)) (drop (suc i) (map (λ v. t (m v)) ys)))
unfolding first_from
found m t xs ys n i x e lt at h =
    h ∙ ap (λ l. first_from (n + i) l) (ap (λ l. drop i l) (sym (same_answers m t xs ys e)) ∙ drop-map (λ v. t (m v)) xs i x lt at
    ∙ ap (λ l. t (m x) ∷ drop (suc i) l) (same_answers m t xs ys e))

-- What a search that came to place `i` finds where the value there may be used.
pub found_here : {V M : Type 0} (m : V → M) (t : M → Bool) (xs ys : List V) (n i : ℕ) (x : V) →
    map m xs ≡ map m ys → i < length xs → x ≡ get_or xs i x →
    first_from n (map (λ v. t (m v)) ys) ≡ first_from (n + i) (drop i (map (λ v. t (m v)) ys)) →
    (b : Bool) → b ≡ t (m x) → b ≡ true → first_from n (map (λ v. t (m v)) ys) ≡ Some (n + i)
found_here m t xs ys n i x e lt at h b q is =
    found m t xs ys n i x e lt (sym at) h ∙ ap (λ y. cond y (Some (n + i)) (first_from (suc (n + i)) (drop (suc i) (map (λ v. t (m v)) ys)))) (sym q ∙ is)

-- How far it came where that value may not.
pub found_later : {V M : Type 0} (m : V → M) (t : M → Bool) (xs ys : List V) (n i : ℕ) (x : V) →
    map m xs ≡ map m ys → i < length xs → x ≡ get_or xs i x →
    first_from n (map (λ v. t (m v)) ys) ≡ first_from (n + i) (drop i (map (λ v. t (m v)) ys)) →
    (b : Bool) → b ≡ t (m x) → b ≡ false → first_from n (map (λ v. t (m v)) ys) ≡ first_from (n + (i + 1)) (drop (i + 1) (map (λ v. t (m v)) ys))
found_later m t xs ys n i x e lt at h b q is =
    let one : suc i ≡ i + 1 = omega arith in
    let more : suc (n + i) ≡ n + (i + 1) = omega arith in
    found m t xs ys n i x e lt (sym at) h ∙ ap (λ y. cond y (Some (n + i)) (first_from (suc (n + i)) (drop (suc i) (map (λ v. t (m v)) ys)))) (sym q ∙ is)
    ∙ ap (λ k. first_from k (drop (suc i) (map (λ v. t (m v)) ys))) more ∙ ap (λ k. first_from (n + (i + 1)) (drop k (map (λ v. t (m v)) ys))) one

-- A search that came past the last value finds none.
pub found_none : {V : Type 0} (f : V → Bool) (ys : List V) (n i : ℕ) → length ys ≤ i →
    first_from n (map f ys) ≡ first_from (n + i) (drop i (map f ys)) → first_from n (map f ys) ≡ None
unfolding first_from
found_none f ys n i le h = h ∙ ap (λ l. first_from (n + i) l) (drop-past f ys i le)
