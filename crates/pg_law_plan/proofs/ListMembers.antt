-- Members of lists.
use Rattle.std.proofs.Common.{◌≡◌, ◌⊎◌, Bool, true, List, [], ◌∷◌, ◌++◌, refl, sym, ap, ◌∙◌, subst, inl, inr, map}
use Rattle.std.specs.List.{AllByRecursion as AllOf, list_any}
use Rattle.std.proofs.lemmas.Bool.{or_cases, or_left, or_right, true≢false}
use Rattle.pg_law_threads.specs.Steps.{EachPair}
use Rattle.pg_law_plan.specs.Lists.{Has}

module _ {A : Type 0} where
  pub has_left : (xs ys : List A) (x : A) → Has xs x → Has (xs ++ ys) x
  has_left [] ys x h = absurd h
  has_left (y ∷ xs) ys x (inl e) = inl e
  has_left (y ∷ xs) ys x (inr h) = inr (has_left xs ys x h)

  pub has_right : (xs ys : List A) (x : A) → Has ys x → Has (xs ++ ys) x
  has_right [] ys x h = h
  has_right (y ∷ xs) ys x h = inr (has_right xs ys x h)

  pub has_cases : (xs ys : List A) (x : A) → Has (xs ++ ys) x → Has xs x ⊎ Has ys x
  has_cases [] ys x h = inr h
  has_cases (y ∷ xs) ys x (inl e) = inl (inl e)
  has_cases (y ∷ xs) ys x (inr h) = go (has_cases xs ys x h)
    where
      go : Has xs x ⊎ Has ys x → Has (y ∷ xs) x ⊎ Has ys x
      go (inl k) = inl (inr k)
      go (inr k) = inr k

  pub has_any : (f : A → Bool) (xs : List A) (x : A) → Has xs x → f x ≡ true → list_any f xs ≡ true
  has_any f [] x h e = absurd h
  has_any f (y ∷ ys) x (inl k) e = or_left (f y) (list_any f ys) (ap f k ∙ e)
  has_any f (y ∷ ys) x (inr h) e = or_right (f y) (list_any f ys) (has_any f ys x h e)

  pub any_found : (f : A → Bool) (xs : List A) → list_any f xs ≡ true → (x : A) × Has xs x × (f x ≡ true)
  any_found f [] h = absurd (true≢false (sym h))
  any_found f (y ∷ ys) h = go (or_cases (f y) (list_any f ys) h) (λ e. any_found f ys e)
    where
      go : (f y ≡ true) ⊎ (list_any f ys ≡ true) → (list_any f ys ≡ true → (x : A) × Has ys x × (f x ≡ true)) → (x : A) × Has (y ∷ ys) x × (f x ≡ true)
      go (inl e) more = (y, inl refl, e)
      go (inr e) more = let k = more e in (k.0, inr k.1, k.2)

  pub all_has : (P : A → Type 0) (xs : List A) (x : A) → AllOf P xs → Has xs x → P x
  all_has P [] x a h = absurd h
  all_has P (y ∷ ys) x a (inl e) = subst P e a.0
  all_has P (y ∷ ys) x a (inr h) = all_has P ys x a.1 h

  -- each is one of its list
  pub has_all : (xs : List A) → AllOf (Has xs) xs
  has_all xs = go xs xs (λ x h. h)
    where
      go : (ys all : List A) → ((x : A) → Has ys x → Has all x) → AllOf (Has all) ys
      go [] all f = tt
      go (y ∷ ys) all f = (f y (inl refl), go ys all (λ x h. f x (inr h)))

module _ {A B : Type 0} (f : A → B) where
  pub all_of_map : (P : B → Type 0) (xs : List A) → AllOf P (map f xs) → AllOf (λ x. P (f x)) xs
  all_of_map P [] h = tt
  all_of_map P (x ∷ xs) h = (h.0, all_of_map P xs h.1)

  pub pairs_of_map : (R : B → B → Type 0) (xs : List A) → EachPair R (map f xs) → EachPair (λ x y. R (f x) (f y)) xs
  pairs_of_map R [] h = tt
  pairs_of_map R (x ∷ xs) h = (all_of_map (R (f x)) xs h.0, pairs_of_map R xs h.1)

module _ {A : Type 0} (P : A → Type 0) (R S : A → A → Type 0) (f : (x y : A) → P x → P y → R x y → S x y) where
  -- pairs by what holds of each and of each pair
  pub pairs_from : (xs : List A) → AllOf P xs → EachPair R xs → EachPair S xs
  pairs_from [] a h = tt
  pairs_from (x ∷ xs) a h = (later xs a.1 h.0, pairs_from xs a.1 h.1)
    where
      later : (ys : List A) → AllOf P ys → AllOf (R x) ys → AllOf (S x) ys
      later [] b k = tt
      later (y ∷ ys) b k = (f x y a.0 b.0 k.0, later ys b.1 k.1)

module _ {A : Type 0} (R S : A → A → Type 0) where
  pub pairs_both : (xs : List A) → EachPair R xs → EachPair S xs → EachPair (λ x y. R x y × S x y) xs
  pairs_both [] h k = tt
  pairs_both (x ∷ xs) h k = (both xs h.0 k.0, pairs_both xs h.1 k.1)
    where
      both : (ys : List A) → AllOf (R x) ys → AllOf (S x) ys → AllOf (λ y. R x y × S x y) ys
      both [] a b = tt
      both (y ∷ ys) a b = ((a.0, b.0), both ys a.1 b.1)
