-- Tests that decide facts: of parts of a pair or a triple, of each element of a list, of each element
-- with its number.
use Rattle.std.proofs.Common.{◌≡◌, ℕ, ◌+◌, ◌<◌, ◌≤◌, List, [], ◌∷◌, length, Bool, true, false, zero, suc, arith, ◌&&◌, ◌||◌, not, map, subst, refl}
use Rattle.std.proofs.Common.{◌↔◌, IsTrue, take, drop, cond}
use Rattle.std.specs.Prelude.{nat_le, nat_lt, Option, Some, slice_get}
use Rattle.std.specs.List.{list_all, AllByRecursion, enumerate_from}
use Rattle.std.specs.Bool.{Decides}
use Rattle.std.proofs.lemmas.Bool.{leb-true, le-leb, ltb-true, lt-ltb}
use Rattle.std.proofs.lemmas.Bool.Decides.{Decides-and, Decides-like, Decides-not}

pub decides_le : (a b : ℕ) → Decides (nat_le a b) (a ≤ b)
decides_le a b = (leb-true a b, le-leb a b)

pub decides_lt : (a b : ℕ) → Decides (nat_lt a b) (a < b)
decides_lt a b = (ltb-true a b, lt-ltb a b)

pub decides_no : {P : Type 0} → (P → ⊥) → Decides false P
decides_no no_such = (λ e. absurd cc, λ h. absurd (no_such h))

pub decides_sure : {P : Type 0} → P → Decides true P
decides_sure h = (λ e. h, λ k. refl)

pub decides_three : {P Q R : Type 0} (a b c : Bool) → Decides a P → Decides b Q → Decides c R → Decides (a && (b && c)) (P × Q × R)
decides_three a b c p q r =
    Decides-like (a && (b && c)) (λ h. (h.0, h.1.0, h.1.1)) (λ h. (h.0, (h.1, h.2)))
    (Decides-and a (b && c) p (Decides-and b c q r))

pub decides_four : {P Q R S : Type 0} (a b c d : Bool) → Decides a P → Decides b Q → Decides c R → Decides d S → Decides (a && (b && (c && d))) (P × Q × R × S)
decides_four a b c d p q r s =
    Decides-like (a && (b && (c && d))) (λ h. (h.0, h.1.0, h.1.1, h.1.2)) (λ h. (h.0, (h.1, h.2, h.3)))
    (Decides-and a (b && (c && d)) p (decides_three b c d q r s))

-- P is told of each element
pub decides_all : {X : Type 0} (t : X → Bool) (P : X → Type 0) → ((x : X) → Decides (t x) (P x)) → (xs : List X) → Decides (list_all t xs) (AllByRecursion P xs)
decides_all t P each [] = (λ e. tt, λ h. refl)
decides_all t P each (x ∷ xs) = Decides-and (t x) (list_all t xs) (each x) (decides_all t P each xs)

pub decides_mapped : {X Y : Type 0} (v : X → Y) (t : Y → Bool) (P : Y → Type 0) → ((y : Y) → Decides (t y) (P y)) → (xs : List X)
    → Decides (list_all (λ x. t (v x)) xs) (AllByRecursion P (map v xs))
decides_mapped v t P each [] = (λ e. tt, λ h. refl)
decides_mapped v t P each (x ∷ xs) = Decides-and (t (v x)) (list_all (λ y. t (v y)) xs) (each (v x)) (decides_mapped v t P each xs)

-- the second test decides its fact only where the first holds
pub decides_then : {P Q : Type 0} (a b : Bool) → Decides a P → (P → Decides b Q) → Decides (a && b) (P × Q)
decides_then true b h k = Decides-and true b h (k (h.0 refl))
decides_then false b h k = decides_no (λ q. let e : false ≡ true = h.1 q.0 in cc)

pub decides_when : {P : Type 0} (b t : Bool) → Decides t P → Decides (not b || t) (IsTrue b → P)
decides_when true t d = Decides-like t (λ h e. h) (λ f. f refl) d
decides_when false t d = decides_sure (λ e. absurd cc)

pub decides_alike : {Q : Type 0} (t q : Bool) → Decides q Q → Decides (cond t q (not q)) (IsTrue t ↔ Q)
decides_alike true q d = Decides-like q (λ h. (λ e. h, λ k. refl)) (λ h. h.0 refl) d
decides_alike false q d = Decides-like (not q) (λ none. (λ e. absurd cc, λ k. absurd (none k))) (λ h k. let e : false ≡ true = h.1 k in cc) (Decides-not q d)

-- ---- each element with its number

numbered_cons : {X : Type 0} (P : ℕ → X → Type 0) (n : ℕ) (x : X) (xs : List X) → P n x → ((i : ℕ) (y : X) → slice_get xs i ≡ Some y → P (n + 1 + i) y) → (i : ℕ) (y : X)
    → slice_get (x ∷ xs) i ≡ Some y → P (n + i) y
numbered_cons P n x xs h t zero y g =
    let same : x ≡ y = cc in
    let at : n ≡ n + 0 = omega arith in
    subst (λ m. P m y) at (subst (P n) same h)
numbered_cons P n x xs h t (suc i) y g = let at : n + 1 + i ≡ n + suc i = omega arith in subst (λ m. P m y) at (t i y g)

numbered_front : {X : Type 0} (P : ℕ → X → Type 0) (n : ℕ) (x : X) (xs : List X) → ((i : ℕ) (y : X) → slice_get (x ∷ xs) i ≡ Some y → P (n + i) y) → P n x
numbered_front P n x xs h = let at : n + 0 ≡ n = omega arith in subst (λ m. P m x) at (h zero x refl)

numbered_rest : {X : Type 0} (P : ℕ → X → Type 0) (n : ℕ) (x : X) (xs : List X) → ((i : ℕ) (y : X) → slice_get (x ∷ xs) i ≡ Some y → P (n + i) y) → (i : ℕ) (y : X)
    → slice_get xs i ≡ Some y → P (n + 1 + i) y
numbered_rest P n x xs h i y g = let at : n + suc i ≡ n + 1 + i = omega arith in subst (λ m. P m y) at (h (suc i) y g)

decides_from : {X : Type 0} (t : ℕ → X → Bool) (P : ℕ → X → Type 0) → ((i : ℕ) (x : X) → Decides (t i x) (P i x)) → (n : ℕ) (xs : List X)
    → Decides (list_all (λ e. t e.0 e.1) (enumerate_from n xs)) ((i : ℕ) (x : X) → slice_get xs i ≡ Some x → P (n + i) x)
decides_from t P each n [] = (λ e i x g. absurd cc, λ h. refl)
decides_from t P each n (x ∷ xs) =
    Decides-like (t n x && list_all (λ e. t e.0 e.1) (enumerate_from (n + 1) xs))
    (λ h. numbered_cons P n x xs h.0 h.1) (λ h. (numbered_front P n x xs h, numbered_rest P n x xs h))
    (Decides-and (t n x) (list_all (λ e. t e.0 e.1) (enumerate_from (n + 1) xs)) (each n x) (decides_from t P each (n + 1) xs))

pub decides_numbered : {X : Type 0} (t : ℕ → X → Bool) (P : ℕ → X → Type 0) → ((i : ℕ) (x : X) → Decides (t i x) (P i x)) → (xs : List X)
    → Decides (list_all (λ e. t e.0 e.1) (enumerate_from 0 xs)) ((i : ℕ) (x : X) → slice_get xs i ≡ Some x → P i x)
decides_numbered t P each xs =
    Decides-like (list_all (λ e. t e.0 e.1) (enumerate_from 0 xs))
    (λ h i x g. let at : 0 + i ≡ i = omega arith in subst (λ m. P m x) at (h i x g))
    (λ h i x g. let at : i ≡ 0 + i = omega arith in subst (λ m. P m x) at (h i x g))
    (decides_from t P each 0 xs)

-- ---- a range of a list

front_cons : {X : Type 0} (P : Option X → Type 0) (x : X) (xs : List X) (n : ℕ) → P (Some x) → ((i : ℕ) → i < n → P (slice_get xs i)) → (i : ℕ) → i < suc n
    → P (slice_get (x ∷ xs) i)
front_cons P x xs n h t zero l = h
front_cons P x xs n h t (suc i) l = t i (omega arith)

decides_front : {X : Type 0} (t : X → Bool) (P : Option X → Type 0) → ((x : X) → Decides (t x) (P (Some x))) → (xs : List X) (n : ℕ) → n ≤ length xs
    → Decides (list_all t (take n xs)) ((i : ℕ) → i < n → P (slice_get xs i))
decides_front t P each [] zero h = (λ e i l. absurd (omega arith), λ k. refl)
decides_front t P each [] (suc n) h = absurd (omega arith)
decides_front t P each (x ∷ xs) zero h = (λ e i l. absurd (omega arith), λ k. refl)
decides_front t P each (x ∷ xs) (suc n) h =
    Decides-like (t x && list_all t (take n xs))
    (λ k. front_cons P x xs n k.0 k.1) (λ k. (k zero (omega arith), λ i l. k (suc i) (omega arith)))
    (Decides-and (t x) (list_all t (take n xs)) (each x) (decides_front t P each xs n (omega arith)))

from_start : {X : Type 0} (t : X → Bool) (P : Option X → Type 0) (xs : List X) (n : ℕ) → Decides (list_all t (take n xs)) ((i : ℕ) → i < n → P (slice_get xs i))
    → Decides (list_all t (take n xs)) ((i : ℕ) → 0 ≤ i → i < 0 + n → P (slice_get xs i))
from_start t P xs n d = Decides-like (list_all t (take n xs)) (λ h i l u. h i (omega arith)) (λ h i l. h i (omega arith) (omega arith)) d

range_cons : {X : Type 0} (P : Option X → Type 0) (x : X) (xs : List X) (a n : ℕ) → ((i : ℕ) → a ≤ i → i < a + n → P (slice_get xs i)) → (i : ℕ) → suc a ≤ i
    → i < suc a + n → P (slice_get (x ∷ xs) i)
range_cons P x xs a n h zero l u = absurd (omega arith)
range_cons P x xs a n h (suc i) l u = h i (omega arith) (omega arith)

pub decides_range : {X : Type 0} (t : X → Bool) (P : Option X → Type 0) → ((x : X) → Decides (t x) (P (Some x))) → (xs : List X) (a n : ℕ) → a + n ≤ length xs
    → Decides (list_all t (take n (drop a xs))) ((i : ℕ) → a ≤ i → i < a + n → P (slice_get xs i))
decides_range t P each [] zero n h = from_start t P [] n (decides_front t P each [] n (omega arith))
decides_range t P each [] (suc a) n h = absurd (omega arith)
decides_range t P each (x ∷ xs) zero n h = from_start t P (x ∷ xs) n (decides_front t P each (x ∷ xs) n (omega arith))
decides_range t P each (x ∷ xs) (suc a) n h =
    Decides-like (list_all t (take n (drop a xs)))
    (range_cons P x xs a n) (λ k i l u. k (suc i) (omega arith) (omega arith))
    (decides_range t P each xs a n (omega arith))
