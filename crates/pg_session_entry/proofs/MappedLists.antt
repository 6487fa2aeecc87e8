-- Lists that are made of a list's elements one after another.
use Rattle.std.proofs.Common.{◌≡◌, ℕ, ◌+◌, List, [], ◌∷◌, ◌++◌, map, take, Option, Some, None, refl, ap, ◌∙◌, arith, zero, suc}
use Rattle.std.specs.Prelude.{slice_get}
use Rattle.std.specs.List.{filter_map, cons_option}

pub one_more : {A B : Type 0} (f : A → B) (xs : List A) (i : ℕ) (x : A) → slice_get xs i ≡ Some x → map f (take (i + 1) xs) ≡ map f (take i xs) ++ f x ∷ []
one_more f [] i x g = absurd (cc)
one_more f (z ∷ xs) zero x g = let q : z ≡ x = cc in rw q refl
one_more f (z ∷ xs) (suc i) x g = let n : suc i + 1 ≡ suc (i + 1) = omega arith in rw n (ap (λ l. f z ∷ l) (one_more f xs i x g))

module _ {A C : Type 0} (h : A → Option C) where
  pub chosen_some : (xs : List A) (i : ℕ) (x : A) (y : C) → slice_get xs i ≡ Some x → h x ≡ Some y → filter_map h (take (i + 1) xs) ≡ filter_map h (take i xs) ++ y ∷ []
  chosen_some [] i x y g e = absurd (cc)
  chosen_some (z ∷ xs) zero x y g e = let q : z ≡ x = cc in let w : h z ≡ Some y = ap (λ a. h a) q ∙ e in rw w refl
  chosen_some (z ∷ xs) (suc i) x y g e = let n : suc i + 1 ≡ suc (i + 1) = omega arith in rw n (go (h z) (chosen_some xs i x y g e))
    where
      go : (o : Option C) → filter_map h (take (i + 1) xs) ≡ filter_map h (take i xs) ++ y ∷ []
          → cons_option o (filter_map h (take (i + 1) xs)) ≡ cons_option o (filter_map h (take i xs)) ++ y ∷ []
      go None ih = ih
      go (Some a) ih = ap (λ l. a ∷ l) ih

  pub chosen_none : (xs : List A) (i : ℕ) (x : A) → slice_get xs i ≡ Some x → h x ≡ None → filter_map h (take (i + 1) xs) ≡ filter_map h (take i xs)
  chosen_none [] i x g e = absurd (cc)
  chosen_none (z ∷ xs) zero x g e = let q : z ≡ x = cc in let w : h z ≡ None = ap (λ a. h a) q ∙ e in rw w refl
  chosen_none (z ∷ xs) (suc i) x g e = let n : suc i + 1 ≡ suc (i + 1) = omega arith in rw n (ap (cons_option (h z)) (chosen_none xs i x g e))
