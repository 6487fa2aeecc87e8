-- Lists that are alike place by place.
use Rattle.std.proofs.Common.{◌≡◌, ℕ, zero, suc, List, [], ◌∷◌, ◌++◌, length, replicate, map, refl, ap}
use Rattle.std.specs.List.{AllZip}
use Rattle.std.specs.Prelude.{Contains, slice_index_or, slice_set}
use Rattle.pg_region_paths.proofs.Elements.{here}

pub all_none : {A : Type 0} (xs : List A) → ((z : A) → Contains xs z → ⊥) → xs ≡ []
all_none [] h = refl
all_none (x ∷ xs) h = absurd (h x (here x xs))

-- ---- lists that are alike

module _ {A : Type 0} (L : A → A → Type 0) where
  pub set_like : (xs ys : List A) (i : ℕ) (x y : A) → AllZip L xs ys → L x y → AllZip L (slice_set xs i x) (slice_set ys i y)
  set_like [] [] i x y h k = tt
  set_like [] (b ∷ ys) i x y h k = absurd h
  set_like (a ∷ xs) [] i x y h k = absurd h
  set_like (a ∷ xs) (b ∷ ys) zero x y h k = (k, h.1)
  set_like (a ∷ xs) (b ∷ ys) (suc i) x y h k = (h.0, set_like xs ys i x y h.1 k)

  pub index_like : (xs ys : List A) (i : ℕ) (z : A) → L z z → AllZip L xs ys → L (slice_index_or xs i z) (slice_index_or ys i z)
  index_like [] [] i z k h = k
  index_like [] (b ∷ ys) i z k h = absurd h
  index_like (a ∷ xs) [] i z k h = absurd h
  index_like (a ∷ xs) (b ∷ ys) zero z k h = h.0
  index_like (a ∷ xs) (b ∷ ys) (suc i) z k h = index_like xs ys i z k h.1

  pub append_like : (xs ys us vs : List A) → AllZip L xs ys → AllZip L us vs → AllZip L (xs ++ us) (ys ++ vs)
  append_like [] [] us vs h k = k
  append_like [] (b ∷ ys) us vs h k = absurd h
  append_like (a ∷ xs) [] us vs h k = absurd h
  append_like (a ∷ xs) (b ∷ ys) us vs h k = (h.0, append_like xs ys us vs h.1 k)

  pub replicate_like : (n : ℕ) (x : A) → L x x → AllZip L (replicate n x) (replicate n x)
  replicate_like zero x k = tt
  replicate_like (suc n) x k = (k, replicate_like n x k)

  pub map_like : {B : Type 0} (f g : B → A) (xs : List B) → ((x : B) → L (f x) (g x)) → AllZip L (map f xs) (map g xs)
  map_like f g [] h = tt
  map_like f g (x ∷ xs) h = (h x, map_like f g xs h)

  pub length_like : (xs ys : List A) → AllZip L xs ys → length xs ≡ length ys
  length_like [] [] h = refl
  length_like [] (b ∷ ys) h = absurd h
  length_like (a ∷ xs) [] h = absurd h
  length_like (a ∷ xs) (b ∷ ys) h = ap suc (length_like xs ys h.1)
