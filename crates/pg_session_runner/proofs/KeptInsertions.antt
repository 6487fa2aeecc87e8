-- What a cache keeps after an insertion: what it kept before, and the inserted value under the next number.
use Rattle.std.proofs.Common.{◌≡◌, ◌⊎◌, ℕ, zero, suc, ◌+◌, ◌-◌, ◌≤◌, Bool, true, false, cond, List, [], ◌∷◌, ◌++◌}
use Rattle.std.proofs.Common.{length, drop, Some, None, refl, sym, ap, ◌∙◌, arith, inl, inr}
use Rattle.std.specs.Prelude.{nat_lt, slice_get}
use Rattle.std.proofs.lemmas.List.{length-append}
use Rattle.pg_cache.specs.Kept.{Kept, oldest, value_of, with_value}

same_some : {V : Type 0} (x y : V) → Some x ≡ Some y → x ≡ y
same_some x y e = cc

-- ---- places

dropped_at : {V : Type 0} (d : ℕ) (xs : List V) (k : ℕ) → slice_get (drop d xs) k ≡ slice_get xs (d + k)
dropped_at zero xs k = let e : k ≡ 0 + k = omega arith in ap (slice_get xs) e
dropped_at (suc d) [] k = refl
dropped_at (suc d) (x ∷ xs) k = let e : suc (d + k) ≡ suc d + k = omega arith in dropped_at d xs k ∙ ap (slice_get (x ∷ xs)) e

-- a value behind which there is none
last_at : {V : Type 0} (v : V) (xs : List V) (k : ℕ) (x : V) → slice_get (xs ++ v ∷ []) k ≡ Some x → (slice_get xs k ≡ Some x) ⊎ ((k ≡ length xs) × (x ≡ v))
last_at v [] zero x e = inr (refl, same_some x v (sym e))
last_at v [] (suc k) x e = absurd cc
last_at v (y ∷ ys) zero x e = inl e
last_at v (y ∷ ys) (suc k) x e = go (last_at v ys k x e)
  where
    go : (slice_get ys k ≡ Some x) ⊎ ((k ≡ length ys) × (x ≡ v)) → (slice_get ys k ≡ Some x) ⊎ ((suc k ≡ suc (length ys)) × (x ≡ v))
    go (inl h) = inl h
    go (inr h) = inr (ap suc h.0, h.1)

length_drop : {V : Type 0} (d : ℕ) (xs : List V) → length (drop d xs) ≡ length xs - d
length_drop zero xs = omega arith
length_drop (suc d) [] = omega arith
length_drop (suc d) (x ∷ xs) = let h = length_drop d xs in omega (arith, h)

-- ---- numbers

-- no more is kept than was inserted
abbrev pub Fits : {V : Type 0} → Kept V → Type 0
Fits c = length c.values ≤ c.inserted

-- where a number has a value, it isn't below the oldest
pub from_oldest : {V : Type 0} (c : Kept V) (n : ℕ) (x : V) → value_of c n ≡ Some x → (oldest c ≤ n) × (slice_get c.values (n - oldest c) ≡ Some x)
from_oldest c n x e = go (nat_lt n (oldest c)) refl e
  where
    go : (b : Bool) → nat_lt n (oldest c) ≡ b → cond b None (slice_get c.values (n - oldest c)) ≡ Some x → (oldest c ≤ n) × (slice_get c.values (n - oldest c) ≡ Some x)
    go true t h = absurd cc
    go false t h = (grind (arith, t), h)

not_below : (a b : ℕ) → b ≤ a → nat_lt a b ≡ false
not_below a b h = grind (arith, h)

at_oldest : {V : Type 0} (c : Kept V) (n : ℕ) (x : V) → oldest c ≤ n → slice_get c.values (n - oldest c) ≡ Some x → value_of c n ≡ Some x
at_oldest c n x h e = ap (λ b. cond b None (slice_get c.values (n - oldest c))) (not_below n (oldest c) h) ∙ e

module _ {V : Type 0} (v : V) (c : Kept V) (fits : Fits c) where
  abbrev all : List V
  all = c.values ++ v ∷ []

  abbrev cut : ℕ
  cut = length all - c.size

  one_more : length all ≡ length c.values + 1
  one_more = length-append c.values (v ∷ [])

  left_over : length (drop cut all) ≡ length all - cut
  left_over = length_drop cut all

  pub fits_with : Fits (with_value v c)
  fits_with = let a = one_more in let b = left_over in omega (arith, a, b, fits)

  -- the oldest number that is kept grows by what is dropped
  oldest_with : oldest (with_value v c) ≡ oldest c + cut
  oldest_with = let a = one_more in let b = left_over in omega (arith, a, b, fits)

  pub value_with : (n : ℕ) (x : V) → value_of (with_value v c) n ≡ Some x → (value_of c n ≡ Some x) ⊎ ((n ≡ c.inserted) × (x ≡ v))
  value_with n x e =
      let k = from_oldest (with_value v c) n x e in
      let o = oldest_with in
      let place : cut + (n - oldest (with_value v c)) ≡ n - oldest c = omega (arith, k.0, o) in
      let there : slice_get all (n - oldest c) ≡ Some x = ap (slice_get all) (sym place) ∙ sym (dropped_at cut all (n - oldest (with_value v c))) ∙ k.1 in
      let old : oldest c ≤ n = omega (arith, k.0, o) in
      go old (last_at v c.values (n - oldest c) x there)
    where
      go : oldest c ≤ n → (slice_get c.values (n - oldest c) ≡ Some x) ⊎ ((n - oldest c ≡ length c.values) × (x ≡ v)) → (value_of c n ≡ Some x) ⊎ ((n ≡ c.inserted) × (x ≡ v))
      go old (inl h) = inl (at_oldest c n x old h)
      go old (inr h) = let a = h.0 in inr (omega (arith, a, old, fits), h.1)
