-- Lists in which repetitions are left out.
use Rattle.std.proofs.Common.{◌≡◌, ◌≢◌, ℕ, ◌<◌, ◌≤◌, zero, suc, Bool, true, false, List, [], ◌∷◌, ◌++◌, length, map, Some, All, refl, sym, ap, ◌∙◌, subst}
use Rattle.std.specs.Prelude.{◌||◌, slice_get, if◌then◌else◌}
use Rattle.std.specs.List.{list_any, AllByRecursion}
use Rattle.std.proofs.lemmas.List.{length-map, map_push}
use Rattle.std.proofs.lemmas.List.Elements.{All-from_recursion}
use Rattle.std.proofs.lemmas.Map.Keys.{any_passes_from_place}
use Rattle.std.proofs.lemmas.Option.{slice_get_within}
use Rattle.pg_law_threads.specs.Steps.{EachPair}
use Rattle.pg_slice_conflicts.specs.declared.footprint.Footprint.{Footprint}
use Rattle.pg_slice_conflicts.specs.Meets.{InOrder, is_met, meets}
use Rattle.pg_slice_conflicts.specs.Merged.{IsMerged, IsPart, StandAt}
use Rattle.pg_slice_conflicts.specs.Merged.IsPart.{keeps, none, skips}
use Rattle.pg_slice_conflicts.proofs.ListTests.{same_tests}
use Rattle.pg_slice_conflicts.proofs.ListWalks.{map_get}

or_right : (a b : Bool) → b ≡ true → (a || b) ≡ true
or_right true b h = refl
or_right false b h = h

or_behind : (a b c : Bool) → (b ≡ true → c ≡ true) → (a || b) ≡ true → (a || c) ≡ true
or_behind true b c f h = refl
or_behind false b c f h = f h

or_either : (a b c : Bool) → (a ≡ true → c ≡ true) → (b ≡ true → c ≡ true) → (a || b) ≡ true → c ≡ true
or_either true b c f g h = f refl
or_either false b c f g h = g h

-- ---- parts

module _ {A : Type 0} where
  part_without : {xs ys : List A} (y : A) → IsPart xs ys → IsPart xs (ys ++ y ∷ [])
  part_without y none = skips y none
  part_without y (skips z p) = skips z (part_without y p)
  part_without y (keeps z p) = keeps z (part_without y p)

  part_with : {xs ys : List A} (y : A) → IsPart xs ys → IsPart (xs ++ y ∷ []) (ys ++ y ∷ [])
  part_with y none = keeps y none
  part_with y (skips z p) = skips z (part_with y p)
  part_with y (keeps z p) = keeps z (part_with y p)

  part_all : (P : A → Type 0) {xs ys : List A} → IsPart xs ys → AllByRecursion P ys → AllByRecursion P xs
  part_all P none a = tt
  part_all P (skips y p) a = part_all P p a.1
  part_all P (keeps y p) a = (a.0, part_all P p a.1)

  part_pairs : (R : A → A → Type 0) {xs ys : List A} → IsPart xs ys → EachPair R ys → EachPair R xs
  part_pairs R none o = tt
  part_pairs R (skips y p) o = part_pairs R p o.1
  part_pairs R (keeps y p) o = (part_all (R y) p o.0, part_pairs R p o.1)

  part_any : (t : A → Bool) {xs ys : List A} → IsPart xs ys → list_any t xs ≡ true → list_any t ys ≡ true
  part_any t none h = h
  part_any t (skips y p) h = or_right (t y) _ (part_any t p h)
  part_any t (keeps y p) h = or_behind (t y) _ _ (part_any t p) h

  -- ---- members by their numbers

  stand_any : (t : A → Bool) (xs : List A) (ns : List ℕ) (ys : List A) → StandAt xs ns ys → list_any t ys ≡ true → list_any t xs ≡ true
  stand_any t xs [] [] e h = absurd (cc)
  stand_any t xs (n ∷ ns) [] e h = absurd (cc)
  stand_any t xs [] (y ∷ ys) e h = absurd (cc)
  stand_any t xs (n ∷ ns) (y ∷ ys) e h =
      let a : slice_get xs n ≡ Some y = cc in
      let b : map (slice_get xs) ns ≡ map Some ys = cc in
      or_either (t y) (list_any t ys) (list_any t xs) (any_passes_from_place t xs n y a) (stand_any t xs ns ys b) h

  pub merged_any : (t : A → Bool) (xs kept : List A) (ns : List ℕ) → IsMerged xs kept ns → list_any t kept ≡ list_any t xs
  merged_any t xs kept ns m = same_tests (list_any t kept) (list_any t xs) (part_any t m.part) (stand_any t kept ns xs m.each)

  get_more : (xs : List A) (x : A) (k : ℕ) (y : A) → slice_get xs k ≡ Some y → slice_get (xs ++ x ∷ []) k ≡ Some y
  get_more [] x k y h = absurd (cc)
  get_more (z ∷ xs) x zero y h = h
  get_more (z ∷ xs) x (suc k) y h = get_more xs x k y h

  stand_more : (xs : List A) (x : A) (ns : List ℕ) (ys : List A) → StandAt xs ns ys → StandAt (xs ++ x ∷ []) ns ys
  stand_more xs x [] [] e = refl
  stand_more xs x (n ∷ ns) [] e = absurd (cc)
  stand_more xs x [] (y ∷ ys) e = absurd (cc)
  stand_more xs x (n ∷ ns) (y ∷ ys) e =
      let a : slice_get xs n ≡ Some y = cc in
      let b : map (slice_get xs) ns ≡ map Some ys = cc in
      ap (λ o. o ∷ map (slice_get (xs ++ x ∷ [])) ns) (get_more xs x n y a) ∙ ap (λ l. Some y ∷ l) (stand_more xs x ns ys b)

  pub stand_push : (xs : List A) (ns : List ℕ) (ys : List A) (n : ℕ) (y : A) → StandAt xs ns ys → slice_get xs n ≡ Some y → StandAt xs (ns ++ n ∷ []) (ys ++ y ∷ [])
  stand_push xs ns ys n y e h =
      map_push (slice_get xs) ns n ∙ ap (λ l. l ++ slice_get xs n ∷ []) e ∙ ap (λ o. map Some ys ++ o ∷ []) h ∙ sym (map_push Some ys y)

  pub merged_none : IsMerged {A = A} [] [] []
  merged_none = record { part = none; each = refl }

  -- one member more, which is kept in the one case
  pub merged_more : (xs kept more : List A) (ns : List ℕ) (n : ℕ) (x : A) (b : Bool) → IsMerged xs kept ns → slice_get more n ≡ Some x → more ≡ (if b then kept else kept ++ x ∷ []) →
      IsMerged (xs ++ x ∷ []) more (ns ++ n ∷ [])
  merged_more xs kept more ns n x true m h e = record {
    part = subst (λ l. IsPart l (xs ++ x ∷ [])) (sym e) (part_without x m.part);
    each = stand_push more ns xs n x (subst (λ l. StandAt l ns xs) (sym e) m.each) h;
  }
  merged_more xs kept more ns n x false m h e = record {
    part = subst (λ l. IsPart l (xs ++ x ∷ [])) (sym e) (part_with x m.part);
    each = stand_push more ns xs n x (subst (λ l. StandAt l ns xs) (sym e) (stand_more kept x ns xs m.each)) h;
  }

  within : (xs : List A) (ns : List ℕ) (ys : List A) (count : ℕ) → length xs ≡ count → StandAt xs ns ys → AllByRecursion (λ k. k < count) ns
  within xs [] ys count c e = tt
  within xs (n ∷ ns) [] count c e = absurd (cc)
  within xs (n ∷ ns) (y ∷ ys) count c e =
      let a : slice_get xs n ≡ Some y = cc in
      let b : map (slice_get xs) ns ≡ map Some ys = cc in
      (subst (λ k. n < k) c (slice_get_within xs n y a), within xs ns ys count c b)

  some_same : (xs ys : List A) → map Some xs ≡ map Some ys → xs ≡ ys
  some_same [] [] e = refl
  some_same (x ∷ xs) [] e = absurd (cc)
  some_same [] (y ∷ ys) e = absurd (cc)
  some_same (x ∷ xs) (y ∷ ys) e =
      let a : x ≡ y = cc in
      let b : map Some xs ≡ map Some ys = cc in
      ap (λ z. z ∷ xs) a ∙ ap (λ l. y ∷ l) (some_same xs ys b)

stand_map : {A B : Type 0} (f : A → B) (xs : List A) (ns : List ℕ) (ys : List A) → StandAt xs ns ys → StandAt (map f xs) ns (map f ys)
stand_map f xs [] [] e = refl
stand_map f xs (n ∷ ns) [] e = absurd (cc)
stand_map f xs [] (y ∷ ys) e = absurd (cc)
stand_map f xs (n ∷ ns) (y ∷ ys) e =
    let a : slice_get xs n ≡ Some y = cc in
    let b : map (slice_get xs) ns ≡ map Some ys = cc in
    ap (λ o. o ∷ map (slice_get (map f xs)) ns) (map_get f xs n y a) ∙ ap (λ l. Some (f y) ∷ l) (stand_map f xs ns ys b)

-- ---- the answers of a list by those of what is kept of it

met_same : (footprints kept xs : List Footprint) (ns : List ℕ) → IsMerged footprints kept ns → map (is_met kept) xs ≡ map (is_met footprints) xs
met_same footprints kept [] ns m = refl
met_same footprints kept (x ∷ xs) ns m =
    ap (λ b. b ∷ map (is_met kept) xs) (merged_any (meets x) footprints kept ns m) ∙ ap (λ l. is_met footprints x ∷ l) (met_same footprints kept xs ns m)

pub kept_in_order : (footprints kept : List Footprint) (ns : List ℕ) → IsMerged footprints kept ns → InOrder footprints → InOrder kept
kept_in_order footprints kept ns m o = part_pairs (λ (x y : Footprint). x.thread.0 ≢ y.thread.0 → x.low ≤ y.high) m.part o

pub numbers_within : (footprints kept : List Footprint) (ns : List ℕ) (answers : List Bool) → IsMerged footprints kept ns → answers ≡ map (is_met kept) kept → All (λ k. k < length answers) ns
numbers_within footprints kept ns answers m e =
    All-from_recursion (λ k. k < length answers) ns (within kept ns footprints (length answers) (sym (ap length e ∙ length-map kept (is_met kept))) m.each)

pub all_met : (footprints kept : List Footprint) (ns : List ℕ) (answers spread : List Bool) → IsMerged footprints kept ns → answers ≡ map (is_met kept) kept → StandAt answers ns spread →
    spread ≡ map (is_met footprints) footprints
all_met footprints kept ns answers spread m e s =
    some_same spread (map (is_met kept) footprints) (sym s ∙ ap (λ l. map (slice_get l) ns) e ∙ stand_map (is_met kept) kept ns footprints m.each) ∙ met_same footprints kept footprints ns m
