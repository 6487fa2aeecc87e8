-- What tests of choices and lists tell.
use Rattle.std.proofs.Common.{◌≡◌, ℕ, zero, suc, List, [], ◌∷◌, Bool, true, false, ◌||◌, ◌&&◌, not, refl, sym, subst, ◌⊎◌, inl, inr}
use Rattle.std.specs.Prelude.{slice_get, Option, Some, None, is_some}
use Rattle.std.specs.List.{list_any, list_all}
use Rattle.std.specs.Str.{bytes_eq}
use Rattle.std.proofs.lemmas.Bool.{and_parts, or_parts}
use Rattle.std.proofs.lemmas.Slice.Eq.{bytes_eq-Decides}
use Rattle.std.proofs.lemmas.Option.{same_Some}

pub not_false : (a : Bool) → not a ≡ false → a ≡ true
not_false true e = refl
not_false false e = absurd cc

pub not_true : (b : Bool) → not b ≡ true → b ≡ false
not_true true e = absurd cc
not_true false e = refl

pub not_from : (b : Bool) → (b ≡ true → ⊥) → not b ≡ true
not_from true h = absurd (h refl)
not_from false h = refl

-- a test of two parts, the first of which holds
pub second_of : (a b : Bool) → a ≡ true → (a && not b) ≡ false → b ≡ true
second_of true b h e = not_false b e
second_of false b h e = absurd cc

pub all_in : {X : Type 0} (p : X → Bool) (xs : List X) (i : ℕ) (x : X) → list_all p xs ≡ true → slice_get xs i ≡ Some x → p x ≡ true
all_in p [] i x e h = absurd cc
all_in {X} p (y ∷ ys) zero x e h = subst (λ (q : X). p q ≡ true) (same_Some y x h) (and_parts (p y) (list_all p ys) e).0
all_in p (y ∷ ys) (suc i) x e h = all_in p ys i x (and_parts (p y) (list_all p ys) e).1 h

pub none_at : {X : Type 0} (p : X → Bool) (xs : List X) (i : ℕ) (x : X) → list_any p xs ≡ false → slice_get xs i ≡ Some x → p x ≡ false
none_at p [] i x e h = absurd cc
none_at {X} p (y ∷ ys) zero x e h = subst (λ (q : X). p q ≡ false) (same_Some y x h) (or_parts (p y) (list_any p ys) e).0
none_at p (y ∷ ys) (suc i) x e h = none_at p ys i x (or_parts (p y) (list_any p ys) e).1 h

pub or_true : (a b : Bool) → (a || b) ≡ true → (a ≡ true) ⊎ (b ≡ true)
or_true true b e = inl refl
or_true false b e = inr e

pub or_from_left : (a b : Bool) → a ≡ true → (a || b) ≡ true
or_from_left true b e = refl
or_from_left false b e = absurd cc

pub or_from_right : (a b : Bool) → b ≡ true → (a || b) ≡ true
or_from_right true b e = refl
or_from_right false b e = e

pub any_from : {X : Type 0} (p : X → Bool) (xs : List X) (i : ℕ) (x : X) → slice_get xs i ≡ Some x → p x ≡ true → list_any p xs ≡ true
any_from p [] i x e h = absurd cc
any_from {X} p (y ∷ ys) zero x e h = or_from_left (p y) (list_any p ys) (subst (λ (q : X). p q ≡ true) (sym (same_Some y x e)) h)
any_from p (y ∷ ys) (suc i) x e h = or_from_right (p y) (list_any p ys) (any_from p ys i x e h)

pub same_text : (text : List ℕ) → bytes_eq text text ≡ true
same_text text = (bytes_eq-Decides text text).1 refl

pub some_of : {X : Type 0} (o : Option X) → is_some o ≡ true → (x : X) × (o ≡ Some x)
some_of None e = absurd cc
some_of (Some x) e = (x, refl)
