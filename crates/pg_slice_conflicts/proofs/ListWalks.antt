-- Walks over lists.
use Rattle.std.proofs.Common.{◌≡◌, ℕ, ◌+◌, zero, suc, Bool, false, List, [], ◌∷◌, ◌++◌, map, take, Some, All, refl, sym, ap, ◌∙◌, subst, arith}
use Rattle.std.specs.Prelude.{◌||◌, slice_get, Contains}
use Rattle.std.specs.List.{list_any, AllByRecursion}
use Rattle.std.proofs.lemmas.List.Elements.{recursion_from_All}
use Rattle.std.proofs.lemmas.List.Folds.{list_any-append}
use Rattle.pg_law_threads.proofs.ListPlaces.{take_get}

pub map_get : {A B : Type 0} (f : A → B) (xs : List A) (i : ℕ) (x : A) → slice_get xs i ≡ Some x → slice_get (map f xs) i ≡ Some (f x)
map_get f [] i x h = absurd (cc)
map_get f (y ∷ xs) zero x h = let q : y ≡ x = cc in ap (λ z. Some (f z)) q
map_get f (y ∷ xs) (suc i) x h = map_get f xs i x h

map_push : {A B : Type 0} (f : A → B) (zs : List A) (z : A) → map f (zs ++ z ∷ []) ≡ map f zs ++ f z ∷ []
map_push f [] z = refl
map_push f (y ∷ zs) z = ap (λ l. f y ∷ l) (map_push f zs z)

-- one more thing of a list is made into one more of another
pub mapped_more : {A B : Type 0} (f : A → B) (xs : List A) (i : ℕ) (x : A) (items : List B) → slice_get xs i ≡ Some x → items ≡ map f (take i xs)
    → items ++ f x ∷ [] ≡ map f (take (i + 1) xs)
mapped_more f xs i x items h e = ap (λ l. l ++ f x ∷ []) e ∙ sym (ap (map f) (take_get xs i x h) ∙ map_push f (take i xs) x)

pub any_more : {A : Type 0} (p : A → Bool) (xs : List A) (i : ℕ) (x : A) → slice_get xs i ≡ Some x → list_any p (take i xs) ≡ false → p x ≡ false
    → list_any p (take (i + 1) xs) ≡ false
any_more p xs i x h e q =
    ap (list_any p) (take_get xs i x h) ∙ list_any-append p (take i xs) (x ∷ []) ∙ ap (λ b. b || (p x || false)) e ∙ ap (λ b. b || false) q

pub contains_at : (xs : List ℕ) (i x : ℕ) → slice_get xs i ≡ Some x → Contains xs x
contains_at [] i x h = absurd (cc)
contains_at (y ∷ xs) zero x h = let q : y ≡ x = cc in (0, omega arith, q)
contains_at (y ∷ xs) (suc i) x h = let k = contains_at xs i x h in let l = k.1 in (suc k.0, omega (arith, l), k.2)

pub all_at : {A : Type 0} (P : A → Type 0) (xs : List A) (i : ℕ) (x : A) → All P xs → slice_get xs i ≡ Some x → P x
all_at P xs i x a h = by_place P xs i x (recursion_from_All P xs a) h
  where
    by_place : {A : Type 0} (P : A → Type 0) (xs : List A) (i : ℕ) (x : A) → AllByRecursion P xs → slice_get xs i ≡ Some x → P x
    by_place P [] i x a h = absurd (cc)
    by_place P (y ∷ xs) zero x a h = let q : y ≡ x = cc in subst P q a.0
    by_place P (y ∷ xs) (suc i) x a h = by_place P xs i x a.1 h
