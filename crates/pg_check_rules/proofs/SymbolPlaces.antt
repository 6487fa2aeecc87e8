-- Things that are found by their names.
use Rattle.std.proofs.Common.{◌≡◌, ℕ, suc, ◌+◌, Bool, true, false, cond, List, [], ◌∷◌, map, slice_get, Option, Some, None, refl, sym, ap, ◌∙◌, arith, ◌⊎◌, inl, inr, Bor}
use Rattle.std.specs.List.{find, enumerate_from, position_from}
use Rattle.std.specs.Option.{option_map}
use Rattle.std.specs.Str.{bytes_eq}
use Rattle.std.proofs.lemmas.Option.{slice_get-map}
use Rattle.pg_check_types.specs.NameIndex.{first_place}
use Rattle.pg_check_rules.specs.Symbols.{placed}

record Found {X : Type 0} (test : X → Bool) (k : ℕ) (xs : List X) (o : Option ℕ) : Type 0 where
  place : ℕ
  at : o ≡ Some (k + place)
  same : find (λ (g : ℕ × X). test g.1) (enumerate_from k xs) ≡ option_map (λ x. (k + place, x)) (slice_get xs place)

record Missing {X : Type 0} (test : X → Bool) (k : ℕ) (xs : List X) (o : Option ℕ) : Type 0 where
  nowhere : o ≡ None
  none : find (λ (g : ℕ × X). test g.1) (enumerate_from k xs) ≡ None

search_from : {X : Type 0} (text_of : X → List ℕ) (text : List ℕ) (k : ℕ) (xs : List X)
    → Found (λ x. bytes_eq (text_of x) text) k xs (position_from (λ t. bytes_eq t text) k (map text_of xs))
    ⊎ Missing (λ x. bytes_eq (text_of x) text) k xs (position_from (λ t. bytes_eq t text) k (map text_of xs))
search_from text_of text k [] = inr (record { nowhere = refl; none = refl })
search_from {X = X} text_of text k (x ∷ xs) = by (bytes_eq (text_of x) text) refl (search_from text_of text (k + 1) xs)
  where
    here : k ≡ k + 0
    here = omega arith

    by : (b : Bool) → bytes_eq (text_of x) text ≡ b
        → Found (λ y. bytes_eq (text_of y) text) (k + 1) xs (position_from (λ t. bytes_eq t text) (k + 1) (map text_of xs))
        ⊎ Missing (λ y. bytes_eq (text_of y) text) (k + 1) xs (position_from (λ t. bytes_eq t text) (k + 1) (map text_of xs))
        → Found (λ y. bytes_eq (text_of y) text) k (x ∷ xs) (position_from (λ t. bytes_eq t text) k (map text_of (x ∷ xs)))
        ⊎ Missing (λ y. bytes_eq (text_of y) text) k (x ∷ xs) (position_from (λ t. bytes_eq t text) k (map text_of (x ∷ xs)))
    by true e r = inl (record {
      place = 0;
      at = ap (λ b. cond b (Some k) (position_from (λ t. bytes_eq t text) (k + 1) (map text_of xs))) e ∙ ap (λ n. Some n) here;
      same = ap (λ b. cond b (Some (k, x)) (find (λ (g : ℕ × X). bytes_eq (text_of g.1) text) (enumerate_from (k + 1) xs))) e ∙ ap (λ n. Some (n, x)) here;
    })
    by false e (inl f) =
        let s : k + 1 + f.place ≡ k + suc f.place = omega arith in
        inl (record {
          place = suc f.place;
          at = ap (λ b. cond b (Some k) (position_from (λ t. bytes_eq t text) (k + 1) (map text_of xs))) e ∙ f.at ∙ ap (λ n. Some n) s;
          same = ap (λ b. cond b (Some (k, x)) (find (λ (g : ℕ × X). bytes_eq (text_of g.1) text) (enumerate_from (k + 1) xs))) e ∙ f.same
              ∙ ap (λ n. option_map (λ y. (n, y)) (slice_get xs f.place)) s;
        })
    by false e (inr m) = inr (record {
      nowhere = ap (λ b. cond b (Some k) (position_from (λ t. bytes_eq t text) (k + 1) (map text_of xs))) e ∙ m.nowhere;
      none = ap (λ b. cond b (Some (k, x)) (find (λ (g : ℕ × X). bytes_eq (text_of g.1) text) (enumerate_from (k + 1) xs))) e ∙ m.none;
    })

-- what is found of a name is what stands at its place
pub found_is : {X : Type 0} (text_of : X → List ℕ) (text : List ℕ) (xs : List X)
    → find (λ (g : ℕ × X). bytes_eq (text_of g.1) text) (enumerate_from 0 xs) ≡ placed xs (first_place (map text_of xs) text)
found_is {X = X} text_of text xs = by (search_from text_of text 0 xs)
  where
    by : Found (λ x. bytes_eq (text_of x) text) 0 xs (first_place (map text_of xs) text) ⊎ Missing (λ x. bytes_eq (text_of x) text) 0 xs (first_place (map text_of xs) text)
        → find (λ (g : ℕ × X). bytes_eq (text_of g.1) text) (enumerate_from 0 xs) ≡ placed xs (first_place (map text_of xs) text)
    by (inl f) =
        let s : 0 + f.place ≡ f.place = omega arith in
        f.same ∙ ap (λ n. option_map (λ x. (n, x)) (slice_get xs f.place)) s ∙ sym (ap (λ o. placed xs o) (f.at ∙ ap (λ n. Some n) s))
    by (inr m) = m.none ∙ sym (ap (λ o. placed xs o) m.nowhere)

map_placed : {X Y : Type 0} (v : X → Y) (xs : List X) (o : Option ℕ) → option_map {U = ℕ × Y} (λ (q : ℕ × X). (q.0, v q.1)) (placed xs o) ≡ placed (map v xs) o
map_placed v xs None = refl
map_placed {X = X} {Y = Y} v xs (Some p) = by (slice_get xs p) ∙ ap (λ o. option_map {U = ℕ × Y} (λ y. (p, y)) o) (sym (slice_get-map v xs p))
  where
    by : (o : Option X) → option_map {U = ℕ × Y} (λ (q : ℕ × X). (q.0, v q.1)) (option_map {U = ℕ × X} (λ x. (p, x)) o) ≡ option_map {U = ℕ × Y} (λ y. (p, y)) (option_map v o)
    by None = refl
    by (Some x) = refl

-- the item of a name as its node
node_found : {X Y : Type 0} (v : X → Y) (text_of : Y → List ℕ) (text : List ℕ) (xs : List X) (o : Option ℕ) → o ≡ first_place (map text_of (map v xs)) text
    → option_map {U = ℕ × Y} (λ (q : ℕ × X). (q.0, v q.1)) (placed xs o) ≡ find (λ (g : ℕ × Y). bytes_eq (text_of g.1) text) (enumerate_from 0 (map v xs))
node_found v text_of text xs o e = map_placed v xs o ∙ ap (λ p. placed (map v xs) p) e ∙ sym (found_is text_of text (map v xs))

-- without the places
find_plain : {X : Type 0} (test : X → Bool) (k : ℕ) (xs : List X) → option_map (λ (q : ℕ × X). q.1) (find (λ (g : ℕ × X). test g.1) (enumerate_from k xs)) ≡ find test xs
find_plain test k [] = refl
find_plain {X = X} test k (x ∷ xs) = by (test x) (find_plain test (k + 1) xs)
  where
    by : (b : Bool) → option_map (λ (q : ℕ × X). q.1) (find (λ (g : ℕ × X). test g.1) (enumerate_from (k + 1) xs)) ≡ find test xs
        → option_map (λ (q : ℕ × X). q.1) (cond b (Some (k, x)) (find (λ (g : ℕ × X). test g.1) (enumerate_from (k + 1) xs))) ≡ cond b (Some x) (find test xs)
    by true h = refl
    by false h = h

-- a reference to the item of a name
pub node_is : {X Y : Type 0} (v : X → Y) (text_of : Y → List ℕ) (text : List ℕ) (xs : List X) (o : Option ℕ) (r : Option (ℕ × Bor X)) → o ≡ first_place (map text_of (map v xs)) text
    → option_map {U = ℕ × X} (λ (q : ℕ × Bor X). (q.0, q.1.now)) r ≡ placed xs o
    → option_map {U = ℕ × Y} (λ (q : ℕ × Bor X). (q.0, v q.1.now)) r ≡ find (λ (g : ℕ × Y). bytes_eq (text_of g.1) text) (enumerate_from 0 (map v xs))
node_is {X = X} {Y = Y} v text_of text xs o r e h = by r ∙ ap (λ p. option_map {U = ℕ × Y} (λ (q : ℕ × X). (q.0, v q.1)) p) h ∙ node_found v text_of text xs o e
  where
    by : (r : Option (ℕ × Bor X)) → option_map {U = ℕ × Y} (λ (q : ℕ × Bor X). (q.0, v q.1.now)) r
        ≡ option_map {U = ℕ × Y} (λ (q : ℕ × X). (q.0, v q.1)) (option_map {U = ℕ × X} (λ (q : ℕ × Bor X). (q.0, q.1.now)) r)
    by None = refl
    by (Some q) = refl

pub plain_node_is : {X Y : Type 0} (v : X → Y) (text_of : Y → List ℕ) (text : List ℕ) (xs : List X) (o : Option ℕ) (r : Option (ℕ × Bor X))
    → o ≡ first_place (map text_of (map v xs)) text
    → option_map {U = ℕ × X} (λ (q : ℕ × Bor X). (q.0, q.1.now)) r ≡ placed xs o
    → option_map (λ (q : ℕ × Bor X). v q.1.now) r ≡ find (λ (y : Y). bytes_eq (text_of y) text) (map v xs)
plain_node_is {X = X} {Y = Y} v text_of text xs o r e h =
    by r ∙ ap (λ p. option_map (λ (q : ℕ × Y). q.1) p) (node_is v text_of text xs o r e h) ∙ find_plain (λ (y : Y). bytes_eq (text_of y) text) 0 (map v xs)
  where
    by : (r : Option (ℕ × Bor X)) → option_map (λ (q : ℕ × Bor X). v q.1.now) r ≡ option_map (λ (q : ℕ × Y). q.1) (option_map {U = ℕ × Y} (λ (q : ℕ × Bor X). (q.0, v q.1.now)) r)
    by None = refl
    by (Some q) = refl
