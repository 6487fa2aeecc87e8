-- The first element of a list that passes a test, and where it stands.
use Rattle.std.proofs.Common.{◌≡◌, ℕ, zero, suc, ◌+◌, ◌<◌, ◌≤◌, List, [], ◌∷◌, length, Bool, true, false, not, refl, sym, ap, ◌∙◌, subst, arith, cond}
use Rattle.std.proofs.Common.{nat_lt, ◌⊎◌, inl, inr, true≢false}
use Rattle.std.specs.Prelude.{slice_get, Option, Some, None}
use Rattle.std.specs.List.{find, position, position_or_len, list_any, enumerate_from}
use Rattle.std.proofs.lemmas.Bool.{lt-ltb, ltb-true, or_from}
use Rattle.std.proofs.lemmas.Option.{slice_get_within, same_Some}
use Rattle.pg_law_numbering.proofs.FlattenedLists.{Numbered}

pub record IsFirst {X : Type 0} (p : X → Bool) (xs : List X) (i : ℕ) (x : X) : Type 0 where
  pub there : slice_get xs i ≡ Some x
  pub passes : p x ≡ true
  pub before : (j : ℕ) (y : X) → j < i → slice_get xs j ≡ Some y → p y ≡ false

-- none of them passes
abbrev pub NonePasses : {X : Type 0} → (X → Bool) → List X → Type 0
NonePasses {X} p xs = (j : ℕ) (y : X) → slice_get xs j ≡ Some y → p y ≡ false

abbrev pub Search : {X : Type 0} → (X → Bool) → List X → Type 0
Search {X} p xs = ((i : ℕ) × (x : X) × IsFirst p xs i x) ⊎ NonePasses p xs

search_step : {X : Type 0} (p : X → Bool) (x : X) (xs : List X) (b : Bool) → p x ≡ b → Search p xs → Search p (x ∷ xs)
search_step p x xs true e s = inl (0, x, record { there = refl; passes = e; before = λ j y l h. absurd (omega (arith, l)) })
search_step {X} p x xs false e (inl s) = inl (suc s.0, s.1, record { there = s.2.there; passes = s.2.passes; before = before })
  where
    before : (j : ℕ) (y : X) → j < suc s.0 → slice_get (x ∷ xs) j ≡ Some y → p y ≡ false
    before zero y l h = subst (λ (q : X). p q ≡ false) (same_Some x y h) e
    before (suc j) y l h = s.2.before j y (omega (arith, l)) h
search_step {X} p x xs false e (inr s) = inr none
  where
    none : (j : ℕ) (y : X) → slice_get (x ∷ xs) j ≡ Some y → p y ≡ false
    none zero y h = subst (λ (q : X). p q ≡ false) (same_Some x y h) e
    none (suc j) y h = s j y h

pub look_up : {X : Type 0} (p : X → Bool) (xs : List X) → Search p xs
look_up p [] = inr (λ j y h. absurd cc)
look_up p (x ∷ xs) = search_step p x xs (p x) refl (look_up p xs)

-- ---- what the tests say

first_tail : {X : Type 0} (p : X → Bool) (y : X) (ys : List X) (i : ℕ) (x : X) → IsFirst p (y ∷ ys) (suc i) x → IsFirst p ys i x
first_tail p y ys i x f = record { there = f.there; passes = f.passes; before = λ j z l h. f.before (suc j) z (omega (arith, l)) h }

first_length : {X : Type 0} (p : X → Bool) (xs : List X) (i : ℕ) (x : X) → IsFirst p xs i x → position_or_len p xs ≡ i
first_length p [] i x f = absurd (let h = f.there in cc)
first_length {X} p (y ∷ ys) zero x f =
    let e : p y ≡ true = subst (λ (q : X). p q ≡ true) (sym (same_Some y x f.there)) f.passes in
    ap (λ (b : Bool). cond (not b) (1 + position_or_len p ys) 0) e
first_length p (y ∷ ys) (suc i) x f =
    let e : p y ≡ false = f.before 0 y (omega arith) refl in
    let more = first_length p ys i x (first_tail p y ys i x f) in
    let one : 1 + position_or_len p ys ≡ suc i = omega (arith, more) in
    ap (λ (b : Bool). cond (not b) (1 + position_or_len p ys) 0) e ∙ one

pub first_position : {X : Type 0} (p : X → Bool) (xs : List X) (i : ℕ) (x : X) → IsFirst p xs i x → position p xs ≡ Some i
first_position p xs i x f =
    ap {B = Option ℕ} (λ (n : ℕ). cond (nat_lt n (length xs)) (Some n) None) (first_length p xs i x f)
    ∙ ap {B = Option ℕ} (λ (b : Bool). cond b (Some i) None) (lt-ltb i (length xs) (slice_get_within xs i x f.there))

pub first_find : {X : Type 0} (p : X → Bool) (xs : List X) (i : ℕ) (x : X) → IsFirst p xs i x → find p xs ≡ Some x
first_find p [] i x f = absurd (let h = f.there in cc)
first_find {X} p (y ∷ ys) zero x f =
    let same = same_Some y x f.there in
    let e : p y ≡ true = subst (λ (q : X). p q ≡ true) (sym same) f.passes in
    ap {B = Option X} (λ (b : Bool). cond b (Some y) (find p ys)) e ∙ f.there
first_find {X} p (y ∷ ys) (suc i) x f =
    let e : p y ≡ false = f.before 0 y (omega arith) refl in
    ap {B = Option X} (λ (b : Bool). cond b (Some y) (find p ys)) e ∙ first_find p ys i x (first_tail p y ys i x f)

none_find : {X : Type 0} (p : X → Bool) (xs : List X) → NonePasses p xs → find p xs ≡ None
none_find p [] h = refl
none_find {X} p (x ∷ xs) h = ap {B = Option X} (λ (b : Bool). cond b (Some x) (find p xs)) (h 0 x refl) ∙ none_find p xs (λ j y e. h (suc j) y e)

none_length : {X : Type 0} (p : X → Bool) (xs : List X) → NonePasses p xs → length xs ≤ position_or_len p xs
none_length p [] h = omega arith
none_length p (x ∷ xs) h =
    let more = none_length p xs (λ j y e. h (suc j) y e) in
    let e = ap (λ (b : Bool). cond (not b) (1 + position_or_len p xs) 0) (h 0 x refl) in
    omega (arith, more, e)

none_any : {X : Type 0} (p : X → Bool) (xs : List X) → NonePasses p xs → list_any p xs ≡ false
none_any p [] h = refl
none_any p (x ∷ xs) h = or_from (p x) (list_any p xs) (h 0 x refl) (none_any p xs (λ j y e. h (suc j) y e))

-- ---- what tells that there is one

pub from_find : {X : Type 0} (p : X → Bool) (xs : List X) (x : X) → find p xs ≡ Some x → (i : ℕ) × IsFirst p xs i x
from_find {X} p xs x e = by (look_up p xs)
  where
    by : Search p xs → (i : ℕ) × IsFirst p xs i x
    by (inl s) = (s.0, subst (λ (q : X). IsFirst p xs s.0 q) (same_Some s.1 x (sym (first_find p xs s.0 s.1 s.2) ∙ e)) s.2)
    by (inr s) = absurd (let n = none_find p xs s in cc)

pub from_any : {X : Type 0} (p : X → Bool) (xs : List X) → list_any p xs ≡ true → (i : ℕ) × (x : X) × IsFirst p xs i x
from_any {X} p xs e = by (look_up p xs)
  where
    by : Search p xs → (i : ℕ) × (x : X) × IsFirst p xs i x
    by (inl s) = s
    by (inr s) = absurd (true≢false (sym e ∙ none_any p xs s))

none_position : {X : Type 0} (p : X → Bool) (xs : List X) (i : ℕ) → NonePasses p xs → position p xs ≡ Some i → ⊥
none_position p xs i h e = by (nat_lt (position_or_len p xs) (length xs)) refl e
  where
    by : (b : Bool) → nat_lt (position_or_len p xs) (length xs) ≡ b → ◌≡◌ {A = Option ℕ} (cond b (Some (position_or_len p xs)) None) (Some i) → ⊥
    by true t g = let l = none_length p xs h in omega (arith, l, ltb-true (position_or_len p xs) (length xs) t)
    by false t g = cc

pub from_position : {X : Type 0} (p : X → Bool) (xs : List X) (i : ℕ) → position p xs ≡ Some i → (x : X) × IsFirst p xs i x
from_position {X} p xs i e = by (look_up p xs)
  where
    by : Search p xs → (x : X) × IsFirst p xs i x
    by (inl s) = (s.1, subst (λ (q : ℕ). IsFirst p xs q s.1) (same_Some s.0 i (sym (first_position p xs s.0 s.1 s.2) ∙ e)) s.2)
    by (inr s) = absurd (none_position p xs i s e)

-- ---- elements with their numbers

pub enumerate_found : {X : Type 0} (n : ℕ) (xs : List X) (i : ℕ) (e : Numbered X) → slice_get (enumerate_from n xs) i ≡ Some e → (slice_get xs i ≡ Some e.1) × (e.0 ≡ n + i)
enumerate_found n [] i e h = absurd cc
enumerate_found {X} n (x ∷ xs) zero e h =
    let same : ◌≡◌ {A = Numbered X} (n, x) e = same_Some (n, x) e h in
    let number : n ≡ e.0 = ap (λ (q : Numbered X). q.0) same in
    (ap {B = Option X} (λ (q : Numbered X). Some q.1) same, omega (arith, number))
enumerate_found n (x ∷ xs) (suc i) e h = let r = enumerate_found (n + 1) xs i e h in (r.0, omega (arith, r.1))
