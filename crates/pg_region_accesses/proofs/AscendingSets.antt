-- Ascending lists of numbers, as sets.
use Rattle.std.proofs.Common.{◌≡◌, ◌≢◌, ℕ, zero, suc, ◌+◌, ◌<◌, ◌≤◌, List, [], ◌∷◌, length, get_or, take, refl, sym, ◌∙◌, subst, arith, inl, inr, ◌⊎◌}
use Rattle.std.specs.Prelude.{Contains}
use Rattle.std.specs.List.Sorted.{IsStrictlyIncreasing}
use Rattle.pg_region_paths.proofs.Elements.{here, there, cases, none_in}

pub tail_of : (x : ℕ) (xs : List ℕ) → IsStrictlyIncreasing (x ∷ xs) → IsStrictlyIncreasing xs
tail_of x xs h k lt = let q : suc k + 1 ≡ suc (k + 1) = omega arith in rw q at (h (suc k) (omega arith))

-- the first is below each other
below_at : (x : ℕ) (xs : List ℕ) → IsStrictlyIncreasing (x ∷ xs) → (k : ℕ) → k < length xs → x < get_or xs k 0
below_at x [] h k lt = absurd (omega arith)
below_at x (y ∷ xs) h zero lt = h 0 (omega arith)
below_at x (y ∷ xs) h (suc k) lt = let first : x < y = h 0 (omega arith) in omega (arith, first, below_at y xs (tail_of x (y ∷ xs) h) k (omega arith))

pub below : (x : ℕ) (xs : List ℕ) → IsStrictlyIncreasing (x ∷ xs) → (z : ℕ) → Contains xs z → x < z
below x xs h z c = let q : get_or xs c.0 0 ≡ get_or xs c.0 z = get_or_irrelevant xs c.0 0 z c.1 in omega (arith, below_at x xs h c.0 c.1, q, c.2)
  where
    get_or_irrelevant : (ys : List ℕ) (k d e : ℕ) → k < length ys → get_or ys k d ≡ get_or ys k e
    get_or_irrelevant [] k d e lt = absurd (omega arith)
    get_or_irrelevant (y ∷ ys) zero d e lt = refl
    get_or_irrelevant (y ∷ ys) (suc k) d e lt = get_or_irrelevant ys k d e (omega arith)

-- a part of an ascending list is no longer than the whole
pub shorter : (ys xs : List ℕ) → IsStrictlyIncreasing xs → IsStrictlyIncreasing ys → ((z : ℕ) → Contains xs z → Contains ys z) → length xs ≤ length ys
shorter ys [] a b h = omega arith
shorter [] (x ∷ xs) a b h = absurd (none_in x (h x (here x xs)))
shorter (y ∷ ys) (x ∷ xs) a b h = go (cases y ys x (h x (here x xs))) (λ k. shorter ys xs (tail_of x xs a) (tail_of y ys b) k) (λ k. shorter ys (x ∷ xs) a (tail_of y ys b) k)
  where
    past : (z : ℕ) → y ≢ z → Contains (y ∷ ys) z → Contains ys z
    past z ne c = past_by (cases y ys z c)
      where
        past_by : (y ≡ z) ⊎ Contains ys z → Contains ys z
        past_by (inl e) = absurd (ne e)
        past_by (inr d) = d

    go : (y ≡ x) ⊎ Contains ys x → (((z : ℕ) → Contains xs z → Contains ys z) → length xs ≤ length ys)
        → (((z : ℕ) → Contains (x ∷ xs) z → Contains ys z) → length (x ∷ xs) ≤ length ys) → length (x ∷ xs) ≤ length (y ∷ ys)
    go (inl e) f g = omega (arith, f (λ z c. past z (λ q. omega (arith, below x xs a z c, e, q)) (h z (there x xs z c))))
    go (inr d) f g = omega (arith, g (λ z c. past z (λ q. above z q (cases x xs z c)) (h z c)))
      where
        above : (z : ℕ) → y ≡ z → (x ≡ z) ⊎ Contains xs z → ⊥
        above z q (inl e) = omega (arith, below y ys b x d, q, e)
        above z q (inr c) = omega (arith, below y ys b x d, below x xs a z c, q)

-- and shorter where the whole has one more
pub strictly_shorter : (ys xs : List ℕ) (v : ℕ) → IsStrictlyIncreasing xs → IsStrictlyIncreasing ys → ((z : ℕ) → Contains xs z → Contains ys z) → Contains ys v
    → (Contains xs v → ⊥) → length xs < length ys
strictly_shorter [] xs v a b h c no' = absurd (none_in v c)
strictly_shorter (y ∷ ys) [] v a b h c no' = omega arith
strictly_shorter (y ∷ ys) (x ∷ xs) v a b h c no' = go (cases y ys x (h x (here x xs))) (λ k d n. strictly_shorter ys xs v (tail_of x xs a) (tail_of y ys b) k d n)
  where
    past : (z : ℕ) → y ≢ z → Contains (y ∷ ys) z → Contains ys z
    past z ne e = past_by (cases y ys z e)
      where
        past_by : (y ≡ z) ⊎ Contains ys z → Contains ys z
        past_by (inl q) = absurd (ne q)
        past_by (inr d) = d

    go : (y ≡ x) ⊎ Contains ys x → (((z : ℕ) → Contains xs z → Contains ys z) → Contains ys v → (Contains xs v → ⊥) → length xs < length ys)
        → length (x ∷ xs) < length (y ∷ ys)
    go (inl e) f = omega (
      arith,
      f (λ z d. past z (λ q. omega (arith, below x xs a z d, e, q)) (h z (there x xs z d))) (past v (λ q. no' (subst (λ (w : ℕ). Contains (x ∷ xs) w) (sym e ∙ q) (here x xs))) c)
          (λ d. no' (there x xs v d)),
    )
    go (inr d) f = omega (arith, shorter ys (x ∷ xs) a (tail_of y ys b) (λ z e. past z (λ q. above z q (cases x xs z e)) (h z e)))
      where
        above : (z : ℕ) → y ≡ z → (x ≡ z) ⊎ Contains xs z → ⊥
        above z q (inl e) = omega (arith, below y ys b x d, q, e)
        above z q (inr e) = omega (arith, below y ys b x d, below x xs a z e, q)

-- what stands before a place is below what stands there
pub taken_below : (xs : List ℕ) → IsStrictlyIncreasing xs → (i : ℕ) → i < length xs → (k : ℕ) → Contains (take i xs) k → k < get_or xs i 0
taken_below [] a i lt k c = absurd (omega (arith, lt))
taken_below (x ∷ xs) a zero lt k c = absurd (none_in k c)
taken_below (x ∷ xs) a (suc i) lt k c = go (cases x (take i xs) k c) (λ d. taken_below xs (tail_of x xs a) i (omega arith) k d)
  where
    go : (x ≡ k) ⊎ Contains (take i xs) k → (Contains (take i xs) k → k < get_or xs i 0) → k < get_or xs i 0
    go (inl e) f = omega (arith, below_at x xs a i (omega (arith, lt)), e)
    go (inr d) f = f d
