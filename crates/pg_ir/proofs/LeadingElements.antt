-- The elements of a list that stand before the first one that fails a test, and those of a range.
use Rattle.std.proofs.Common.{◌≡◌, ℕ, ◌+◌, ◌<◌, ◌≤◌, List, [], ◌∷◌, Bool, true, false, zero, suc, arith, refl, sym, ap, ◌∙◌, subst, ◌&&◌, take, drop, cond}
use Rattle.std.specs.Prelude.{slice_get, Option, Some, None}
use Rattle.std.specs.List.{list_all, take_while, prefix_len}
use Rattle.std.proofs.lemmas.Bool.{and_parts, and_from}

-- f holds of each element before the first that fails g
abbrev leading : {X : Type 0} → (X → Bool) → (X → Bool) → List X → Bool
leading f g [] = true
leading f g (x ∷ xs) = cond (g x) (f x && leading f g xs) true

leading_step : {X : Type 0} (f g : X → Bool) (x : X) (xs : List X) (t : Bool) → g x ≡ t → list_all f (take_while g xs) ≡ leading f g xs
    → list_all f (take (cond t (1 + prefix_len g xs) 0) (x ∷ xs)) ≡ cond t (f x && leading f g xs) true
leading_step f g x xs true e h =
    let count : 1 + prefix_len g xs ≡ suc (prefix_len g xs) = omega arith in
    ap (λ n. list_all f (take n (x ∷ xs))) count ∙ ap (λ b. f x && b) h
leading_step f g x xs false e h = refl

leading_is : {X : Type 0} (f g : X → Bool) (xs : List X) → list_all f (take_while g xs) ≡ leading f g xs
leading_is f g [] = refl
leading_is f g (x ∷ xs) = leading_step f g x xs (g x) refl (leading_is f g xs)

-- an element passes
abbrev pub Passes : {X : Type 0} → (X → Bool) → Option X → Type 0
Passes g None = ⊥
Passes g (Some x) = g x ≡ true

leading_tells : {X : Type 0} (f g : X → Bool) (xs : List X) (k : ℕ) (x : X) → leading f g xs ≡ true → slice_get xs k ≡ Some x → ((j : ℕ) → j ≤ k → Passes g (slice_get xs j))
    → f x ≡ true
leading_tells f g [] k x e at before = absurd cc
leading_tells f g (y ∷ ys) zero x e at before =
    let same : y ≡ x = cc in
    let passes : g y ≡ true = before 0 (omega arith) in
    let both : (f y && leading f g ys) ≡ true = sym (ap (λ b. cond b (f y && leading f g ys) true) passes) ∙ e in
    subst (λ z. f z ≡ true) same (and_parts (f y) (leading f g ys) both).0
leading_tells f g (y ∷ ys) (suc k) x e at before =
    let passes : g y ≡ true = before 0 (omega arith) in
    let both : (f y && leading f g ys) ≡ true = sym (ap (λ b. cond b (f y && leading f g ys) true) passes) ∙ e in
    leading_tells f g ys k x (and_parts (f y) (leading f g ys) both).1 at (λ j l. before (suc j) (omega arith))

-- of a list whose leading elements pass f, each element up to which all pass g passes f
pub leading_passes : {X : Type 0} (f g : X → Bool) (xs : List X) (k : ℕ) (x : X) → list_all f (take_while g xs) ≡ true → slice_get xs k ≡ Some x
    → ((j : ℕ) → j ≤ k → Passes g (slice_get xs j)) → f x ≡ true
leading_passes f g xs k x e at before = leading_tells f g xs k x (sym (leading_is f g xs) ∙ e) at before

leading_step_from : {X : Type 0} (f g : X → Bool) (x : X) (xs : List X) (t : Bool) → g x ≡ t → (t ≡ true → f x ≡ true) → leading f g xs ≡ true
    → cond t (f x && leading f g xs) true ≡ true
leading_step_from f g x xs true e h k = and_from (f x) (leading f g xs) (h refl) k
leading_step_from f g x xs false e h k = refl

leading_from : {X : Type 0} (f g : X → Bool) (xs : List X) → ((k : ℕ) (x : X) → slice_get xs k ≡ Some x → g x ≡ true → f x ≡ true) → leading f g xs ≡ true
leading_from f g [] h = refl
leading_from f g (x ∷ xs) h = leading_step_from f g x xs (g x) refl (h 0 x refl) (leading_from f g xs (λ k y at e. h (suc k) y at e))

pub leading_all : {X : Type 0} (f g : X → Bool) (xs : List X) → ((k : ℕ) (x : X) → slice_get xs k ≡ Some x → g x ≡ true → f x ≡ true) → list_all f (take_while g xs) ≡ true
leading_all f g xs h = leading_is f g xs ∙ leading_from f g xs h

-- ---- a range

front_get : {X : Type 0} (xs : List X) (n k : ℕ) → k < n → slice_get (take n xs) k ≡ slice_get xs k
front_get [] zero k l = absurd (omega arith)
front_get [] (suc n) k l = refl
front_get (x ∷ xs) zero k l = absurd (omega arith)
front_get (x ∷ xs) (suc n) zero l = refl
front_get (x ∷ xs) (suc n) (suc k) l = front_get xs n k (omega arith)

drop_get : {X : Type 0} (xs : List X) (a k : ℕ) → slice_get (drop a xs) k ≡ slice_get xs (a + k)
drop_get [] zero k = refl
drop_get [] (suc a) k = refl
drop_get (x ∷ xs) zero k = let at : k ≡ 0 + k = omega arith in ap (slice_get (x ∷ xs)) at
drop_get (x ∷ xs) (suc a) k = let at : suc (a + k) ≡ suc a + k = omega arith in drop_get xs a k ∙ ap (slice_get (x ∷ xs)) at

pub range_get : {X : Type 0} (xs : List X) (a n k : ℕ) → k < n → slice_get (take n (drop a xs)) k ≡ slice_get xs (a + k)
range_get xs a n k l = front_get (drop a xs) n k l ∙ drop_get xs a k

front_within : {X : Type 0} (ys : List X) (n k : ℕ) (x : X) → slice_get (take n ys) k ≡ Some x → k < n
front_within [] zero k x e = absurd cc
front_within [] (suc n) k x e = absurd cc
front_within (y ∷ ys) zero k x e = absurd cc
front_within (y ∷ ys) (suc n) zero x e = omega arith
front_within (y ∷ ys) (suc n) (suc k) x e = let l : k < n = front_within ys n k x e in omega arith

pub range_within : {X : Type 0} (xs : List X) (a n k : ℕ) (x : X) → slice_get (take n (drop a xs)) k ≡ Some x → k < n
range_within xs a n k x e = front_within (drop a xs) n k x e
