-- Where the elements of filtered and flattened lists come from.
use Rattle.std.proofs.Common.{◌≡◌, ℕ, zero, suc, ◌+◌, List, [], ◌∷◌, ◌++◌, length, map, refl, sym, ap, ◌∙◌, subst, ◌⊎◌, inl, inr, drop}
use Rattle.std.specs.Prelude.{slice_get, Option, Some, None}
use Rattle.std.specs.List.{filter_map, flat_map, cons_option}
use Rattle.std.specs.Option.{option_map}
use Rattle.std.proofs.lemmas.Option.{same_Some}
use Rattle.pg_law_numbering.proofs.FlattenedLists.{append_cases}

pub record IsOf {X Y : Type 0} (h : X → Option Y) (xs : List X) (y : Y) : Type 0 where
  pub place : ℕ
  pub whole : X
  pub there : slice_get xs place ≡ Some whole
  pub is : h whole ≡ Some y

of_next : {X Y : Type 0} (h : X → Option Y) (x : X) (xs : List X) (y : Y) → IsOf h xs y → IsOf h (x ∷ xs) y
of_next h x xs y r = record { place = suc r.place; whole = r.whole; there = r.there; is = r.is }

filter_case : {X Y : Type 0} (h : X → Option Y) (x : X) (xs : List X) (i : ℕ) (y : Y) (o : Option Y) → h x ≡ o → slice_get (cons_option o (filter_map h xs)) i ≡ Some y
    → ((j : ℕ) → slice_get (filter_map h xs) j ≡ Some y → IsOf h xs y) → IsOf h (x ∷ xs) y
filter_case h x xs i y None e g more = of_next h x xs y (more i g)
filter_case h x xs zero y (Some z) e g more = record { place = 0; whole = x; there = refl; is = e ∙ g }
filter_case h x xs (suc i) y (Some z) e g more = of_next h x xs y (more i g)

pub filter_found : {X Y : Type 0} (h : X → Option Y) (xs : List X) (i : ℕ) (y : Y) → slice_get (filter_map h xs) i ≡ Some y → IsOf h xs y
filter_found h [] i y e = absurd cc
filter_found h (x ∷ xs) i y e = filter_case h x xs i y (h x) refl e (λ j g. filter_found h xs j y g)

-- what is kept of an element stands somewhere
pub filter_there : {X Y : Type 0} (h : X → Option Y) (xs : List X) (i : ℕ) (x : X) (y : Y) → slice_get xs i ≡ Some x → h x ≡ Some y
    → (j : ℕ) × (slice_get (filter_map h xs) j ≡ Some y)
filter_there h [] i x y e g = absurd cc
filter_there {X} h (z ∷ zs) zero x y e g = (0, ap (λ o. slice_get (cons_option o (filter_map h zs)) 0) (subst (λ (q : X). h q ≡ Some y) (sym (same_Some z x e)) g))
filter_there {X} {Y} h (z ∷ zs) (suc i) x y e g = by (h z) (filter_there h zs i x y e g)
  where
    by : (o : Option Y) → (j : ℕ) × (slice_get (filter_map h zs) j ≡ Some y) → (j : ℕ) × (slice_get (cons_option o (filter_map h zs)) j ≡ Some y)
    by None r = r
    by (Some w) r = (suc r.0, r.1)

-- ---- where each element is kept

abbrev pub IsTotal : {X Y : Type 0} → (X → Option Y) → List X → Type 0
IsTotal {X} {Y} h xs = (i : ℕ) (x : X) → slice_get xs i ≡ Some x → (y : Y) × (h x ≡ Some y)

total_tail : {X Y : Type 0} (h : X → Option Y) (x : X) (xs : List X) → IsTotal h (x ∷ xs) → IsTotal h xs
total_tail h x xs t i y e = t (suc i) y e

pub total_length : {X Y : Type 0} (h : X → Option Y) (xs : List X) → IsTotal h xs → length (filter_map h xs) ≡ length xs
total_length h [] t = refl
total_length h (x ∷ xs) t =
    let r = t 0 x refl in
    ap (λ o. length (cons_option o (filter_map h xs))) r.1 ∙ ap suc (total_length h xs (total_tail h x xs t))

pub total_get : {X Y : Type 0} (h : X → Option Y) (xs : List X) → IsTotal h xs → (i : ℕ) (x : X) → slice_get xs i ≡ Some x → slice_get (filter_map h xs) i ≡ h x
total_get h [] t i x e = absurd cc
total_get {X} {Y} h (z ∷ zs) t zero x e =
    let r = t 0 z refl in
    ap {B = Option Y} (λ o. slice_get (cons_option o (filter_map h zs)) 0) r.1 ∙ sym r.1 ∙ ap h (same_Some z x e)
total_get {X} {Y} h (z ∷ zs) t (suc i) x e =
    let r = t 0 z refl in
    ap {B = Option Y} (λ o. slice_get (cons_option o (filter_map h zs)) (suc i)) r.1 ∙ total_get h zs (total_tail h z zs t) i x e

-- ---- pieces

pub record IsOfPiece {X Y : Type 0} (g : X → List Y) (xs : List X) (y : Y) : Type 0 where
  pub place : ℕ
  pub whole : X
  pub inner : ℕ
  pub there : slice_get xs place ≡ Some whole
  pub inside : slice_get (g whole) inner ≡ Some y

piece_case : {X Y : Type 0} (g : X → List Y) (x : X) (xs : List X) (i : ℕ) (y : Y)
    → (slice_get (g x) i ≡ Some y) ⊎ ((j : ℕ) × (slice_get (flat_map g xs) j ≡ Some y) × (i ≡ length (g x) + j))
    → ((j : ℕ) → slice_get (flat_map g xs) j ≡ Some y → IsOfPiece g xs y) → IsOfPiece g (x ∷ xs) y
piece_case g x xs i y (inl e) more = record { place = 0; whole = x; inner = i; there = refl; inside = e }
piece_case g x xs i y (inr e) more = let r = more e.0 e.1 in record { place = suc r.place; whole = r.whole; inner = r.inner; there = r.there; inside = r.inside }

pub piece_found : {X Y : Type 0} (g : X → List Y) (xs : List X) (i : ℕ) (y : Y) → slice_get (flat_map g xs) i ≡ Some y → IsOfPiece g xs y
piece_found g [] i y e = absurd cc
piece_found g (x ∷ xs) i y e = piece_case g x xs i y (append_cases (g x) (flat_map g xs) i y e) (λ j h. piece_found g xs j y h)

-- ---- a list without its front

pub behind_front : {X : Type 0} (xs ys : List X) → drop (length xs) (xs ++ ys) ≡ ys
behind_front [] ys = refl
behind_front (x ∷ xs) ys = behind_front xs ys

-- ---- mapped lists

pub map_there : {X Y : Type 0} (g : X → Y) (xs : List X) (k : ℕ) (x : X) → slice_get xs k ≡ Some x → slice_get (map g xs) k ≡ Some (g x)
map_there g [] k x e = absurd cc
map_there {X} {Y} g (y ∷ ys) zero x e = ap {B = Option Y} (λ (o : Option X). option_map g o) e
map_there g (y ∷ ys) (suc k) x e = map_there g ys k x e

pub map_from : {X Y : Type 0} (g : X → Y) (xs : List X) (k : ℕ) (y : Y) → slice_get (map g xs) k ≡ Some y → (x : X) × (slice_get xs k ≡ Some x) × (y ≡ g x)
map_from g [] k y e = absurd cc
map_from g (x ∷ xs) zero y e = (x, refl, sym (same_Some (g x) y e))
map_from g (x ∷ xs) (suc k) y e = map_from g xs k y e
