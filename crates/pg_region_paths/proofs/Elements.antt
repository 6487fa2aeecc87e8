-- Elements of lists.
use Rattle.std.proofs.Common.{◌≡◌, ℕ, zero, suc, ◌<◌, List, [], ◌∷◌, get_or, refl, arith, inl, inr, ◌⊎◌}
use Rattle.std.specs.Prelude.{Contains}
use Rattle.std.proofs.lemmas.List.Elements.{Contains-append_right, Contains-append_cases}

pub here : {A : Type 0} (x : A) (xs : List A) → Contains (x ∷ xs) x
here x xs = (0, omega arith, refl)

pub there : {A : Type 0} (x : A) (xs : List A) (z : A) → Contains xs z → Contains (x ∷ xs) z
there x xs z c = Contains-append_right (x ∷ []) xs z c

pub only_here : {A : Type 0} (x z : A) → Contains (x ∷ []) z → x ≡ z
only_here {A} x z c = go c.0 c.1 c.2
  where
    go : (k : ℕ) → k < 1 → get_or (x ∷ []) k z ≡ z → x ≡ z
    go zero lt e = e
    go (suc k) lt e = absurd (omega arith)

pub cases : {A : Type 0} (x : A) (xs : List A) (z : A) → Contains (x ∷ xs) z → (x ≡ z) ⊎ Contains xs z
cases {A} x xs z c = go (Contains-append_cases (x ∷ []) xs z c)
  where
    go : Contains (x ∷ []) z ⊎ Contains xs z → (x ≡ z) ⊎ Contains xs z
    go (inl d) = inl (only_here x z d)
    go (inr d) = inr d

pub none_in : {A : Type 0} (z : A) → Contains {X = A} [] z → ⊥
none_in z c = omega (arith, c.1)
