-- Lists by number.
use Rattle.std.proofs.Common.{◌≡◌, ℕ, zero, suc, ◌+◌, ◌<◌, ◌==◌, ◌⊎◌, inl, inr, true, List, [], ◌∷◌, ◌++◌, length, take, Some, refl, sym, ap, arith}
use Rattle.std.specs.Prelude.{slice_get, slice_index}
use Rattle.std.proofs.lemmas.Bool.{eq-eqb, eqb-true, or_cases, or_left, or_right, true≢false}
use Rattle.pg_precondition.specs.Names.{is_among}

pub get_below : {A : Type 0} (xs : List A) (i : ℕ) (x : A) → slice_get xs i ≡ Some x → i < length xs
get_below [] i x h = absurd (cc)
get_below (y ∷ xs) zero x h = omega arith
get_below (y ∷ xs) (suc i) x h = let l = get_below xs i x h in omega (arith, l)

pub record Got {A : Type 0} (xs : List A) (i : ℕ) : Type 0 where
  pub it : A
  pub is : slice_get xs i ≡ Some it

pub get_some : {A : Type 0} (xs : List A) (i : ℕ) → i < length xs → Got xs i
get_some [] i h = absurd (omega arith)
get_some (x ∷ xs) zero h = record { it = x; is = refl }
get_some (x ∷ xs) (suc i) h = let g = get_some xs i (omega (arith, h)) in record { it = g.it; is = g.is }

pub take_get : {A : Type 0} (xs : List A) (i : ℕ) (x : A) → slice_get xs i ≡ Some x → take (i + 1) xs ≡ take i xs ++ x ∷ []
take_get [] i x h = absurd (cc)
take_get (y ∷ xs) zero x h = let q : y ≡ x = cc in ap (λ z. z ∷ []) q
take_get (y ∷ xs) (suc i) x h = let ih = take_get xs i x h in let e : suc i + 1 ≡ suc (i + 1) = omega arith in rw e (ap (λ l. y ∷ l) ih)

-- a number among numbers

pub among_first : (i a : ℕ) (xs : List ℕ) → a ≡ i → is_among i (a ∷ xs) ≡ true
among_first i a xs e = or_left (a == i) (is_among i xs) (eq-eqb a i e)

pub among_rest : (i a : ℕ) (xs : List ℕ) → is_among i xs ≡ true → is_among i (a ∷ xs) ≡ true
among_rest i a xs e = or_right (a == i) (is_among i xs) e

pub among_cases : (i a : ℕ) (xs : List ℕ) → is_among i (a ∷ xs) ≡ true → (a ≡ i) ⊎ (is_among i xs ≡ true)
among_cases i a xs h = go (or_cases (a == i) (is_among i xs) h)
  where
    go : ((a == i) ≡ true) ⊎ (is_among i xs ≡ true) → (a ≡ i) ⊎ (is_among i xs ≡ true)
    go (inl e) = inl (eqb-true a i e)
    go (inr e) = inr e

-- what holds of each of some numbers holds of those among them
pub below_one : (k a i : ℕ) → a < k → is_among i (a ∷ []) ≡ true → i < k
below_one k a i l h = go (among_cases i a [] h)
  where
    go : (a ≡ i) ⊎ (is_among i [] ≡ true) → i < k
    go (inl e) = omega (arith, e, l)
    go (inr e) = absurd (true≢false (sym e))

pub below_more : (k a i : ℕ) (xs : List ℕ) → a < k → (is_among i xs ≡ true → i < k) → is_among i (a ∷ xs) ≡ true → i < k
below_more k a i xs l f h = go (among_cases i a xs h)
  where
    go : (a ≡ i) ⊎ (is_among i xs ≡ true) → i < k
    go (inl e) = omega (arith, e, l)
    go (inr e) = f e

pub below_take : (k i n : ℕ) (xs : List ℕ) → ((j : ℕ) → j < n → slice_index xs j < k) → is_among i (take n xs) ≡ true → i < k
below_take k i zero xs f h = absurd (true≢false (sym h))
below_take k i (suc n) [] f h = absurd (true≢false (sym h))
below_take k i (suc n) (x ∷ xs) f h = below_more k x i (take n xs) (f 0 (omega arith)) (below_take k i n xs (λ j l. f (suc j) (omega (arith, l)))) h
