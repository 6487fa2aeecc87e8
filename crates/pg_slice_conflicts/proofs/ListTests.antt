-- Tests on lists.
use Rattle.std.proofs.Common.{◌≡◌, Bool, true, false, List, [], ◌∷◌, refl, sym, ap, ◌∙◌}
use Rattle.std.specs.Prelude.{◌&&◌, ◌||◌}
use Rattle.std.specs.List.{list_any, AllByRecursion}

pub same_tests : (b c : Bool) → (b ≡ true → c ≡ true) → (c ≡ true → b ≡ true) → b ≡ c
same_tests true c f g = sym (f refl)
same_tests false true f g = g refl
same_tests false false f g = refl

-- ---- or and and, regrouped

pub or_turn : (a b c d : Bool) → ((a || b) || (c || d)) ≡ ((a || c) || (b || d))
or_turn true b c d = refl
or_turn false true true d = refl
or_turn false true false d = refl
or_turn false false c d = refl

pub and_or : (a b c : Bool) → (a && (b || c)) ≡ ((a && b) || (a && c))
and_or true b c = refl
and_or false b c = refl

pub and_turn : (a b c : Bool) → (a && (b && c)) ≡ (b && (a && c))
and_turn true true c = refl
and_turn true false c = refl
and_turn false true c = refl
and_turn false false c = refl

pub or_and : (a b g : Bool) → ((a && g) || (b && g)) ≡ ((a || b) && g)
or_and true true true = refl
or_and true true false = refl
or_and true false true = refl
or_and true false false = refl
or_and false b g = refl

pub and_false : (a : Bool) → (a && false) ≡ false
and_false true = refl
and_false false = refl

pub or_false : (a : Bool) → (a || false) ≡ a
or_false true = refl
or_false false = refl

-- ---- lists

module _ {A : Type 0} where
  pub any_same : (p q : A → Bool) (xs : List A) → ((x : A) → p x ≡ q x) → list_any p xs ≡ list_any q xs
  any_same p q [] h = refl
  any_same p q (x ∷ xs) h = ap (λ b. b || list_any p xs) (h x) ∙ ap (λ b. q x || b) (any_same p q xs h)

  -- the same where the tests agree on the list
  pub any_same_on : (P : A → Type 0) (p q : A → Bool) (xs : List A) → AllByRecursion P xs → ((x : A) → P x → p x ≡ q x) → list_any p xs ≡ list_any q xs
  any_same_on P p q [] a h = refl
  any_same_on P p q (x ∷ xs) a h = ap (λ b. b || list_any p xs) (h x a.0) ∙ ap (λ b. q x || b) (any_same_on P p q xs a.1 h)

  pub any_or : (p q : A → Bool) (xs : List A) → list_any (λ x. p x || q x) xs ≡ (list_any p xs || list_any q xs)
  any_or p q [] = refl
  any_or p q (x ∷ xs) = ap (λ b. (p x || q x) || b) (any_or p q xs) ∙ or_turn (p x) (q x) (list_any p xs) (list_any q xs)

  pub any_and : (b : Bool) (p : A → Bool) (xs : List A) → list_any (λ x. b && p x) xs ≡ (b && list_any p xs)
  any_and true p xs = refl
  any_and false p [] = refl
  any_and false p (x ∷ xs) = any_and false p xs

  pub any_and_right : (p : A → Bool) (b : Bool) (xs : List A) → list_any (λ x. p x && b) xs ≡ (list_any p xs && b)
  any_and_right p b [] = refl
  any_and_right p b (x ∷ xs) = ap (λ c. (p x && b) || c) (any_and_right p b xs) ∙ or_and (p x) (list_any p xs) b

  pub any_none : (xs : List A) → list_any (λ x. false) xs ≡ false
  any_none [] = refl
  any_none (x ∷ xs) = any_none xs

-- some of the one list with some of the other, either way
pub any_swap : {A B : Type 0} (p : A → B → Bool) (xs : List A) (ys : List B) → list_any (λ x. list_any (p x) ys) xs ≡ list_any (λ y. list_any (λ x. p x y) xs) ys
any_swap p [] ys = sym (any_none ys)
any_swap p (x ∷ xs) ys = ap (λ b. list_any (p x) ys || b) (any_swap p xs ys) ∙ sym (any_or (p x) (λ y. list_any (λ x. p x y) xs) ys)
