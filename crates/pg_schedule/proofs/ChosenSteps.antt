-- What is chosen of the first steps of a list.
use Rattle.std.proofs.Common.{◌≡◌, ℕ, ◌+◌, List, [], ◌∷◌, ◌++◌, length, map, take, Option, Some, None, refl, sym, ap, ◌∙◌, arith, zero, suc}
use Rattle.std.specs.Prelude.{slice_get}
use Rattle.std.specs.List.{filter_map, cons_option}

module _ {A B C : Type 0} (h : B → Option C) (f : A → B) where
  pub chosen_some : (xs : List A) (i : ℕ) (x : A) (y : C) → slice_get xs i ≡ Some x → h (f x) ≡ Some y
      → filter_map h (map f (take (i + 1) xs)) ≡ filter_map h (map f (take i xs)) ++ y ∷ []
  chosen_some [] i x y g e = absurd (cc)
  chosen_some (z ∷ xs) zero x y g e = let q : z ≡ x = cc in let w : h (f z) ≡ Some y = ap (λ a. h (f a)) q ∙ e in rw w refl
  chosen_some (z ∷ xs) (suc i) x y g e = let n : suc i + 1 ≡ suc (i + 1) = omega arith in rw n (go (h (f z)) (chosen_some xs i x y g e))
    where
      go : (o : Option C) → filter_map h (map f (take (i + 1) xs)) ≡ filter_map h (map f (take i xs)) ++ y ∷ []
          → cons_option o (filter_map h (map f (take (i + 1) xs))) ≡ cons_option o (filter_map h (map f (take i xs))) ++ y ∷ []
      go None ih = ih
      go (Some a) ih = ap (λ l. a ∷ l) ih

  pub chosen_none : (xs : List A) (i : ℕ) (x : A) → slice_get xs i ≡ Some x → h (f x) ≡ None → filter_map h (map f (take (i + 1) xs)) ≡ filter_map h (map f (take i xs))
  chosen_none [] i x g e = absurd (cc)
  chosen_none (z ∷ xs) zero x g e = let q : z ≡ x = cc in let w : h (f z) ≡ None = ap (λ a. h (f a)) q ∙ e in rw w refl
  chosen_none (z ∷ xs) (suc i) x g e = let n : suc i + 1 ≡ suc (i + 1) = omega arith in rw n (ap (cons_option (h (f z))) (chosen_none xs i x g e))
