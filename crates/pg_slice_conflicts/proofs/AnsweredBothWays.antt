-- A pass forward and a pass backward answer all.
use Rattle.std.proofs.Common.{◌≡◌, Bool, true, false, List, [], ◌∷◌, ◌++◌, map, refl, sym, ap, ◌∙◌, append_assoc, append-nil}
use Rattle.std.specs.Prelude.{◌||◌, reverse}
use Rattle.std.specs.List.{list_any, AllByRecursion}
use Rattle.std.proofs.lemmas.List.{reverse-append}
use Rattle.std.proofs.lemmas.List.Folds.{list_any-append}
use Rattle.pg_law_threads.specs.Steps.{EachPair}
use Rattle.pg_slice_conflicts.specs.Joined.{or_each}
use Rattle.pg_slice_conflicts.specs.Passes.{before_by}

module _ {A : Type 0} where
  -- of each of a list whether one behind it answers it
  abbrev behind_by : (A → A → Bool) → List A → List Bool
  behind_by g [] = []
  behind_by g (y ∷ ys) = list_any (λ x. g x y) ys ∷ behind_by g ys

  before_append : (g : A → A → Bool) (xs ys zs : List A) → before_by g xs (ys ++ zs) ≡ before_by g xs ys ++ before_by g (xs ++ ys) zs
  before_append g xs [] zs = ap (λ l. before_by g l zs) (sym (append-nil xs))
  before_append g xs (y ∷ ys) zs =
      ap (λ l. list_any (λ x. g x y) xs ∷ l) (before_append g (xs ++ y ∷ []) ys zs ∙ ap (λ l. before_by g (xs ++ y ∷ []) ys ++ before_by g l zs) (append_assoc xs (y ∷ []) ys))

  any_reverse : (p : A → Bool) (xs : List A) → list_any p (reverse xs) ≡ list_any p xs
  any_reverse p [] = refl
  any_reverse p (x ∷ xs) =
      ap (list_any p) (reverse-append (x ∷ []) xs) ∙ list_any-append p (reverse xs) (x ∷ []) ∙ ap (λ b. b || (p x || false)) (any_reverse p xs) ∙ turn (list_any p xs) (p x)
    where
      turn : (a b : Bool) → (a || (b || false)) ≡ (b || a)
      turn true true = refl
      turn true false = refl
      turn false true = refl
      turn false false = refl

  -- the pass backward is one forward over the reversed list
  pub reversed : (g : A → A → Bool) (xs : List A) → reverse (before_by g [] (reverse xs)) ≡ behind_by g xs
  reversed g [] = refl
  reversed g (y ∷ ys) =
      ap (λ l. reverse (before_by g [] l)) (reverse-append (y ∷ []) ys)
      ∙ ap reverse (before_append g [] (reverse ys) (y ∷ []))
      ∙ reverse-append (before_by g [] (reverse ys)) (list_any (λ x. g x y) (reverse ys) ∷ [])
      ∙ ap (λ b. b ∷ reverse (before_by g [] (reverse ys))) (any_reverse (λ x. g x y) ys)
      ∙ ap (λ l. list_any (λ x. g x y) ys ∷ l) (reversed g ys)

  module _ (R : A → A → Type 0) (P : A → Type 0) (f g h : A → A → Bool)
      (forward : (x y : A) → P x → P y → R x y → f x y ≡ h y x) (backward : (x y : A) → P x → P y → R y x → g x y ≡ h y x) (own : (y : A) → h y y ≡ false) where
    both_ways : (y : A) → P y → (xs : List A) → AllByRecursion P xs → AllByRecursion (λ x. R x y) xs → list_any (λ x. f x y) xs ≡ list_any (h y) xs
    both_ways y py [] a r = refl
    both_ways y py (x ∷ xs) a r = ap (λ b. b || list_any (λ z. f z y) xs) (forward x y a.0 py r.0) ∙ ap (λ b. h y x || b) (both_ways y py xs a.1 r.1)

    other_way : (y : A) → P y → (xs : List A) → AllByRecursion P xs → AllByRecursion (R y) xs → list_any (λ x. g x y) xs ≡ list_any (h y) xs
    other_way y py [] a r = refl
    other_way y py (x ∷ xs) a r = ap (λ b. b || list_any (λ z. g z y) xs) (backward x y a.0 py r.0) ∙ ap (λ b. h y x || b) (other_way y py xs a.1 r.1)

    -- those before stand to each of the rest
    abbrev All_before : List A → List A → Type 0
    All_before ws zs = AllByRecursion (λ z. AllByRecursion (λ x. R x z) ws) zs

    push_all : (Q : A → Type 0) (xs : List A) (y : A) → AllByRecursion Q xs → Q y → AllByRecursion Q (xs ++ y ∷ [])
    push_all Q [] y a q = (q, tt)
    push_all Q (x ∷ xs) y a q = (a.0, push_all Q xs y a.1 q)

    push_before : (ws : List A) (y : A) (zs : List A) → All_before ws zs → AllByRecursion (R y) zs → All_before (ws ++ y ∷ []) zs
    push_before ws y [] a r = tt
    push_before ws y (z ∷ zs) a r = (push_all (λ x. R x z) ws y a.0 r.0, push_before ws y zs a.1 r.1)

    joined : (ws zs : List A) → AllByRecursion P ws → AllByRecursion P zs → All_before ws zs → EachPair R zs →
        or_each (before_by f ws zs) (behind_by g zs) ≡ map (λ y. list_any (h y) (ws ++ zs)) zs
    joined ws [] pw pz b e = refl
    joined ws (y ∷ zs) pw pz b e =
        ap (λ c. c ∷ or_each (before_by f (ws ++ y ∷ []) zs) (behind_by g zs)) first
        ∙ ap (λ l. list_any (h y) (ws ++ y ∷ zs) ∷ l) (joined (ws ++ y ∷ []) zs (push_all P ws y pw pz.0) pz.1 (push_before ws y zs b.1 e.0) e.1)
        ∙ ap (λ l. list_any (h y) (ws ++ y ∷ zs) ∷ map (λ z. list_any (h z) l) zs) (append_assoc ws (y ∷ []) zs)
      where
        first : (list_any (λ x. f x y) ws || list_any (λ x. g x y) zs) ≡ list_any (h y) (ws ++ y ∷ zs)
        first =
            ap (λ c. c || list_any (λ x. g x y) zs) (both_ways y pz.0 ws pw b.0)
            ∙ ap (λ c. list_any (h y) ws || c) (other_way y pz.0 zs pz.1 e.0 ∙ sym (ap (λ c. c || list_any (h y) zs) (own y)))
            ∙ sym (list_any-append (h y) ws (y ∷ zs))

    all_before_none : (zs : List A) → All_before [] zs
    all_before_none [] = tt
    all_before_none (z ∷ zs) = (tt, all_before_none zs)

    pub both : (zs : List A) → AllByRecursion P zs → EachPair R zs → or_each (before_by f [] zs) (reverse (before_by g [] (reverse zs))) ≡ map (λ y. list_any (h y) zs) zs
    both zs p e = ap (or_each (before_by f [] zs)) (reversed g zs) ∙ joined [] zs tt p (all_before_none zs) e
