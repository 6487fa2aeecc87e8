-- Where the parts of a list stand in the list of all their elements.
use Rattle.std.proofs.Common.{◌≡◌, ℕ, zero, suc, ◌+◌, ◌<◌, ◌≤◌, List, [], ◌∷◌, ◌++◌, length, map, take, drop, refl, sym, ap, ◌∙◌, subst, arith}
use Rattle.std.proofs.Common.{length-append, ◌⊎◌, inl, inr}
use Rattle.std.specs.Prelude.{slice_get, Option, Some, sum_by}
use Rattle.std.specs.List.{flat_map, enumerate_from}
use Rattle.std.proofs.lemmas.List.Sums.{sum_by-cons}
use Rattle.std.proofs.lemmas.Option.{same_Some}

abbrev pub Numbered : Type 0 → Type 0
Numbered X = ℕ × X

-- ---- elements with their numbers

pub enumerate_get : {X : Type 0} (n : ℕ) (xs : List X) (i : ℕ) (x : X) → slice_get xs i ≡ Some x → slice_get (enumerate_from n xs) i ≡ Some (n + i, x)
enumerate_get n [] i x e = absurd cc
enumerate_get {X} n (y ∷ ys) zero x e =
    let z : n ≡ n + 0 = omega arith in
    let same : y ≡ x = same_Some y x e in
    ap {B = Option (Numbered X)} (λ (k : ℕ). Some (k, y)) z ∙ ap {B = Option (Numbered X)} (λ (k : X). Some (n + 0, k)) same
enumerate_get {X} n (y ∷ ys) (suc i) x e =
    let z : n + 1 + i ≡ n + suc i = omega arith in
    enumerate_get (n + 1) ys i x e ∙ ap {B = Option (Numbered X)} (λ (k : ℕ). Some (k, x)) z

-- ---- pieces one behind the other

pub front_get : {X : Type 0} (xs ys : List X) (k : ℕ) → k < length xs → slice_get (xs ++ ys) k ≡ slice_get xs k
front_get [] ys k l = absurd (omega (arith, l))
front_get (x ∷ xs) ys zero l = refl
front_get (x ∷ xs) ys (suc k) l = front_get xs ys k (omega (arith, l))

pub behind_get : {X : Type 0} (xs ys : List X) (k : ℕ) → slice_get (xs ++ ys) (length xs + k) ≡ slice_get ys k
behind_get [] ys k = let z : 0 + k ≡ k = omega arith in ap (slice_get ys) z
behind_get (x ∷ xs) ys k = let z : suc (length xs) + k ≡ suc (length xs + k) = omega arith in ap (slice_get (x ∷ (xs ++ ys))) z ∙ behind_get xs ys k

-- an element of one list behind another stands in the one or in the other
pub append_cases : {X : Type 0} (xs ys : List X) (k : ℕ) (x : X) → slice_get (xs ++ ys) k ≡ Some x
    → (slice_get xs k ≡ Some x) ⊎ ((j : ℕ) × (slice_get ys j ≡ Some x) × (k ≡ length xs + j))
append_cases [] ys k x e = inr (k, e, omega arith)
append_cases (y ∷ xs) ys zero x e = inl e
append_cases (y ∷ xs) ys (suc k) x e = by (append_cases xs ys k x e)
  where
    by : (slice_get xs k ≡ Some x) ⊎ ((j : ℕ) × (slice_get ys j ≡ Some x) × (k ≡ length xs + j))
        → (slice_get xs k ≡ Some x) ⊎ ((j : ℕ) × (slice_get ys j ≡ Some x) × (suc k ≡ suc (length xs) + j))
    by (inl h) = inl h
    by (inr h) = inr (h.0, h.1, omega (arith, h.2))

-- the pieces of the elements of a list, each of which knows its number
abbrev pub pieces : {X A : Type 0} → (ℕ → X → List A) → ℕ → List X → List A
pieces {X} g n xs = flat_map (λ (e : Numbered X). g e.0 e.1) (enumerate_from n xs)

-- which piece an element of the pieces stands in, and where in it
pub record IsIn {X A : Type 0} (g : ℕ → X → List A) (size : X → ℕ) (n : ℕ) (xs : List X) (k : ℕ) (a : A) : Type 0 where
  pub place : ℕ
  pub whole : X
  pub inner : ℕ
  pub there : slice_get xs place ≡ Some whole
  pub inside : slice_get (g (n + place) whole) inner ≡ Some a
  pub number : k ≡ sum_by size (take place xs) + inner

abbrev pub HaveSize : {X A : Type 0} → (ℕ → X → List A) → (X → ℕ) → Type 0
HaveSize {X} g size = (i : ℕ) (x : X) → length (g i x) ≡ size x

in_first : {X A : Type 0} (g : ℕ → X → List A) (size : X → ℕ) (n : ℕ) (x : X) (xs : List X) (k : ℕ) (a : A) → slice_get (g n x) k ≡ Some a → IsIn g size n (x ∷ xs) k a
in_first g size n x xs k a f = record {
  place = 0;
  whole = x;
  inner = k;
  there = refl;
  inside = let z : n ≡ n + 0 = omega arith in subst (λ (q : ℕ). slice_get (g q x) k ≡ Some a) z f;
  number = omega arith;
}

in_rest : {X A : Type 0} (g : ℕ → X → List A) (size : X → ℕ) → HaveSize g size → (n : ℕ) (x : X) (xs : List X) (k : ℕ) (a : A) (j : ℕ) → k ≡ length (g n x) + j
    → IsIn g size (n + 1) xs j a → IsIn g size n (x ∷ xs) k a
in_rest g size h n x xs k a j f r = record {
  place = suc r.place;
  whole = r.whole;
  inner = r.inner;
  there = r.there;
  inside = let z : n + 1 + r.place ≡ n + suc r.place = omega arith in subst (λ (q : ℕ). slice_get (g q r.whole) r.inner ≡ Some a) z r.inside;
  number = omega (arith, f, h n x, r.number, sum_by-cons size x (take r.place xs));
}

found_in : {X A : Type 0} (g : ℕ → X → List A) (size : X → ℕ) → HaveSize g size → (n : ℕ) (x : X) (xs : List X) (k : ℕ) (a : A)
    → (slice_get (g n x) k ≡ Some a) ⊎ ((j : ℕ) × (slice_get (pieces g (n + 1) xs) j ≡ Some a) × (k ≡ length (g n x) + j))
    → ((j : ℕ) → slice_get (pieces g (n + 1) xs) j ≡ Some a → IsIn g size (n + 1) xs j a)
    → IsIn g size n (x ∷ xs) k a
found_in g size h n x xs k a (inl f) more = in_first g size n x xs k a f
found_in g size h n x xs k a (inr f) more = in_rest g size h n x xs k a f.0 f.2 (more f.0 f.1)

pub found : {X A : Type 0} (g : ℕ → X → List A) (size : X → ℕ) → HaveSize g size → (n : ℕ) (xs : List X) (k : ℕ) (a : A) → slice_get (pieces g n xs) k ≡ Some a
    → IsIn g size n xs k a
found g size h n [] k a e = absurd cc
found g size h n (x ∷ xs) k a e = found_in g size h n x xs k a (append_cases (g n x) (pieces g (n + 1) xs) k a e) (λ j f. found g size h (n + 1) xs j a f)

pub stands : {X A : Type 0} (g : ℕ → X → List A) (size : X → ℕ) → HaveSize g size → (n : ℕ) (xs : List X) (i : ℕ) (x : X) (j : ℕ) → slice_get xs i ≡ Some x → j < size x
    → slice_get (pieces g n xs) (sum_by size (take i xs) + j) ≡ slice_get (g (n + i) x) j
stands g size h n [] i x j e l = absurd cc
stands {X} {A} g size h n (y ∷ ys) zero x j e l =
    let same : y ≡ x = same_Some y x e in
    let z : n ≡ n + 0 = omega arith in
    let at : 0 + j ≡ j = omega arith in
    ap (slice_get (g n y ++ pieces g (n + 1) ys)) at
    ∙ front_get (g n y) (pieces g (n + 1) ys) j (subst (λ (q : X). j < length (g n q)) (sym same) (omega (arith, l, h n x)))
    ∙ ap (λ (q : X). slice_get (g n q) j) same
    ∙ ap (λ (q : ℕ). slice_get (g q x) j) z
stands {X} {A} g size h n (y ∷ ys) (suc i) x j e l =
    let z : n + 1 + i ≡ n + suc i = omega arith in
    let s = sum_by-cons size y (take i ys) in
    let at : sum_by size (y ∷ take i ys) + j ≡ length (g n y) + (sum_by size (take i ys) + j) = omega (arith, s, h n y) in
    ap (slice_get (g n y ++ pieces g (n + 1) ys)) at
    ∙ behind_get (g n y) (pieces g (n + 1) ys) (sum_by size (take i ys) + j)
    ∙ stands g size h (n + 1) ys i x j e l
    ∙ ap (λ (q : ℕ). slice_get (g q x) j) z

pub pieces_length : {X A : Type 0} (g : ℕ → X → List A) (size : X → ℕ) → HaveSize g size → (n : ℕ) (xs : List X) → length (pieces g n xs) ≡ sum_by size xs
pieces_length g size h n [] = refl
pieces_length g size h n (x ∷ xs) =
    length-append (g n x) (pieces g (n + 1) xs)
    ∙ ap (λ (q : ℕ). q + length (pieces g (n + 1) xs)) (h n x)
    ∙ ap (λ (q : ℕ). size x + q) (pieces_length g size h (n + 1) xs)
    ∙ sym (sum_by-cons size x xs)

-- ---- sums over the elements before one

-- an element and those before it are not more than all
pub sum_within : {X : Type 0} (size : X → ℕ) (xs : List X) (i : ℕ) (x : X) → slice_get xs i ≡ Some x → sum_by size (take i xs) + size x ≤ sum_by size xs
sum_within size [] i x e = absurd cc
sum_within size (y ∷ ys) zero x e =
    let same : size y ≡ size x = ap size (same_Some y x e) in
    omega (arith, same, sum_by-cons size y ys)
sum_within size (y ∷ ys) (suc i) x e =
    omega (arith, sum_within size ys i x e, sum_by-cons size y ys, sum_by-cons size y (take i ys))

-- ---- maps that keep sizes

pub sum_map : {X Y : Type 0} (f : X → Y) (size : X → ℕ) (other : Y → ℕ) → ((x : X) → other (f x) ≡ size x) → (xs : List X) → sum_by other (map f xs) ≡ sum_by size xs
sum_map f size other h [] = refl
sum_map f size other h (x ∷ xs) =
    sum_by-cons other (f x) (map f xs)
    ∙ ap (λ (q : ℕ). q + sum_by other (map f xs)) (h x)
    ∙ ap (λ (q : ℕ). size x + q) (sum_map f size other h xs)
    ∙ sym (sum_by-cons size x xs)

pub take_map : {X Y : Type 0} (f : X → Y) (n : ℕ) (xs : List X) → take n (map f xs) ≡ map f (take n xs)
take_map f zero xs = refl
take_map f (suc n) [] = refl
take_map f (suc n) (x ∷ xs) = ap (λ (q : List _). f x ∷ q) (take_map f n xs)

-- ---- more on places

pub take_more : {X : Type 0} (size : X → ℕ) (xs : List X) (i : ℕ) (x : X) → slice_get xs i ≡ Some x → sum_by size (take (suc i) xs) ≡ sum_by size (take i xs) + size x
take_more size [] i x e = absurd cc
take_more size (y ∷ ys) zero x e =
    let same : size y ≡ size x = ap size (same_Some y x e) in
    let a : sum_by size (y ∷ []) ≡ size y + sum_by size [] = sum_by-cons size y [] in
    omega (arith, same, a)
take_more size (y ∷ ys) (suc i) x e =
    omega (arith, take_more size ys i x e, sum_by-cons size y (take (suc i) ys), sum_by-cons size y (take i ys))

pub there_at : {X : Type 0} (xs : List X) (i : ℕ) → i < length xs → (x : X) × (slice_get xs i ≡ Some x)
there_at [] i l = absurd (omega (arith, l))
there_at (x ∷ xs) zero l = (x, refl)
there_at (x ∷ xs) (suc i) l = there_at xs i (omega (arith, l))

pub map_count : {X Y : Type 0} (g : X → Y) (xs : List X) → length (map g xs) ≡ length xs
map_count g [] = refl
map_count g (x ∷ xs) = ap suc (map_count g xs)

pub front_at : {X : Type 0} (n : ℕ) (xs : List X) (k : ℕ) → k < n → slice_get (take n xs) k ≡ slice_get xs k
front_at zero xs k h = absurd (omega (arith, h))
front_at (suc n) [] k h = refl
front_at (suc n) (y ∷ ys) zero h = refl
front_at (suc n) (y ∷ ys) (suc k) h = front_at n ys k (omega (arith, h))

pub rest_at : {X : Type 0} (n : ℕ) (xs : List X) (k : ℕ) → slice_get (drop n xs) k ≡ slice_get xs (n + k)
rest_at zero xs k = let z : k ≡ 0 + k = omega arith in ap (slice_get xs) z
rest_at (suc n) [] k = refl
rest_at (suc n) (y ∷ ys) k = let z : suc (n + k) ≡ suc n + k = omega arith in rest_at n ys k ∙ ap (slice_get (y ∷ ys)) z

pub in_front : {X : Type 0} (xs ys : List X) (k : ℕ) (x : X) → slice_get xs k ≡ Some x → slice_get (xs ++ ys) k ≡ Some x
in_front [] ys k x e = absurd cc
in_front (z ∷ zs) ys zero x e = e
in_front (z ∷ zs) ys (suc k) x e = in_front zs ys k x e
