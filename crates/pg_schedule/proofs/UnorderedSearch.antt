-- The search for the first unordered pair, by marks.
use Rattle.std.proofs.Common.{◌≡◌, ℕ, ◌+◌, ◌<◌, ◌≤◌, Bool, false, List, [], ◌∷◌, ◌++◌, length, map, take, drop, Option, Some, None, refl, sym, ap, ◌∙◌}
use Rattle.std.proofs.Common.{subst, arith, zero, suc}
use Rattle.std.specs.Prelude.{is_some, slice_get}
use Rattle.std.specs.List.{list_any, position_from}
use Rattle.std.proofs.lemmas.List.{drop_all}
use Rattle.pg_law_threads.specs.Intervals.{Timed}
use Rattle.pg_law_threads.specs.Steps.{View}
use Rattle.pg_run_trace.specs.declared.step.Step.{Step}
use Rattle.pg_run_trace.specs.Races.{is_unordered, pair_or, recorded, timed_by, unordered_in}
use Rattle.pg_schedule.specs.declared.interval.Interval.{Interval}
use Rattle.pg_schedule.specs.Intervals.{interval_of}
use Rattle.pg_schedule.proofs.StepPositions.{timed_length}
use Rattle.pg_law_threads.proofs.ListPlaces.{drop_get, take_get}
use Rattle.pg_schedule.specs.Touching.{AreWithin, IsWithin, beside}
use Rattle.pg_schedule.specs.Firsts.{before_of}
use Rattle.pg_schedule.proofs.AnsweredSteps.{all_within, before_at, lows_below}
use Rattle.pg_schedule.proofs.NumberedSteps.{length_map, position_any}
use Rattle.pg_schedule.specs.declared.touch.Touch.{Touch}
use Rattle.std.specs.List.{AllByRecursion as AllOf}

-- ---- pairs

pub pairs_next : (ys : List (Timed Step)) (j : ℕ) (y : Timed Step) → slice_get ys j ≡ Some y →
    unordered_in (take j ys) j (drop j ys) ≡ pair_or j (position_from (λ x. is_unordered x y) 0 (take j ys)) (unordered_in (take (j + 1) ys) (j + 1) (drop (j + 1) ys))
pairs_next ys j y h =
    ap (unordered_in (take j ys) j) (drop_get ys j y h)
    ∙ ap (λ l. pair_or j (position_from (λ x. is_unordered x y) 0 (take j ys)) (unordered_in l (j + 1) (drop (j + 1) ys))) (sym (take_get ys j y h))

pub pairs_end : (ys : List (Timed Step)) (j : ℕ) → length ys ≤ j → unordered_in (take j ys) j (drop j ys) ≡ None
pairs_end ys j l = ap (unordered_in (take j ys) j) (drop_all j ys l)

none_of : (o : Option ℕ) → is_some o ≡ false → o ≡ None
none_of None h = refl
none_of (Some i) h = absurd (cc)

-- a step without a mark has no step before it that is unordered with it
pub none_unmarked : (xs : List Step) (j : ℕ) (y : Timed Step) (b : Bool) → slice_get (timed_by recorded xs) j ≡ Some y → slice_get (before_of (timed_by recorded xs)) j ≡ Some b
    → b ≡ false →
    position_from (λ x. is_unordered x y) 0 (take j (timed_by recorded xs)) ≡ None
none_unmarked xs j y b h m e =
    let ys = timed_by recorded xs in
    let q : b ≡ list_any (λ x. is_unordered x y) (take j ys) = (let z = before_at ys (lows_below recorded xs) j y h in cc) in
    none_of (position_from (λ x. is_unordered x y) 0 (take j ys)) (position_any (λ x. is_unordered x y) 0 (take j ys) ∙ sym q ∙ e)

pub take_less : {A : Type 0} (i j : ℕ) (xs : List A) → i ≤ j → take i (take j xs) ≡ take i xs
take_less zero j xs l = refl
take_less (suc i) zero xs l = absurd (omega (arith, l))
take_less (suc i) (suc j) [] l = refl
take_less (suc i) (suc j) (x ∷ xs) l = ap (λ z. x ∷ z) (take_less i j xs (omega (arith, l)))

pub get_take : {A : Type 0} (i j : ℕ) (xs : List A) (x : A) → i < j → slice_get xs i ≡ Some x → slice_get (take j xs) i ≡ Some x
get_take i zero xs x l h = absurd (omega (arith, l))
get_take i (suc j) [] x l h = absurd (cc)
get_take zero (suc j) (y ∷ xs) x l h = h
get_take (suc i) (suc j) (y ∷ xs) x l h = get_take i j xs x (omega (arith, l)) h

-- ---- intervals

pub intervals_length_of : (V : View Step) (xs : List Step) (ns : List Interval) → ns ≡ map interval_of (timed_by V xs) → length ns ≡ length xs
intervals_length_of V xs ns e = ap length e ∙ length_map interval_of (timed_by V xs) ∙ timed_length V xs

within_at : (n : ℕ) (ys : List (Timed Step)) (i : ℕ) (v : Interval) → AllOf (λ y. (y.low ≤ n) × (y.high ≤ n)) ys → slice_get (map interval_of ys) i ≡ Some v → IsWithin n v
within_at n [] i v a h = absurd (cc)
within_at n (y ∷ ys) zero v a h = let q : interval_of y ≡ v = cc in subst (IsWithin n) q (record { low = a.0.0; high = a.0.1 })
within_at n (y ∷ ys) (suc i) v a h = within_at n ys i v a.1 h

pub intervals_within : (V : View Step) (xs : List Step) (ns : List Interval) → ns ≡ map interval_of (timed_by V xs) → AreWithin ns
intervals_within V xs ns e i v h =
    subst (λ n. IsWithin n v) (sym (intervals_length_of V xs ns e)) (within_at (length xs) (timed_by V xs) i v (all_within V xs) (sym (ap (λ l. slice_get l i) e) ∙ h))

-- ---- touches

module _ (f : Timed Step → Touch) where
  beside_get : (xs : List Step) (ns : List Interval) (i : ℕ) (x : Step) (n : Interval) → slice_get xs i ≡ Some x → slice_get ns i ≡ Some n
      → slice_get (beside xs ns) i ≡ Some (record { did = x; low = n.low; high = n.high })
  beside_get [] ns i x n h g = absurd (cc)
  beside_get (y ∷ xs) [] i x n h g = absurd (cc)
  beside_get (y ∷ xs) (m ∷ ns) zero x n h g = let q : y ≡ x = cc in let p : m ≡ n =
      cc in ap (λ z. Some (record { did = z; low = m.low; high = m.high })) q ∙ ap (λ k. Some (record { did = x; low = k.low; high = k.high })) p
  beside_get (y ∷ xs) (m ∷ ns) (suc i) x n h g = beside_get xs ns i x n h g

  beside_length : (xs : List Step) (ns : List Interval) → length ns ≡ length xs → length (beside xs ns) ≡ length xs
  beside_length [] ns e = refl
  beside_length (x ∷ xs) [] e = absurd (omega (arith, e))
  beside_length (x ∷ xs) (n ∷ ns) e = ap suc (beside_length xs ns (omega (arith, e)))

  map_push : (zs : List (Timed Step)) (z : Timed Step) → map f (zs ++ z ∷ []) ≡ map f zs ++ f z ∷ []
  map_push [] z = refl
  map_push (y ∷ zs) z = ap (λ l. f y ∷ l) (map_push zs z)

  pub touched_more : (xs : List Step) (ns : List Interval) (i : ℕ) (x : Step) (n : Interval) (items : List Touch) → slice_get xs i ≡ Some x → slice_get ns i ≡ Some n
      → items ≡ map f (take i (beside xs ns)) →
      items ++ f (record { did = x; low = n.low; high = n.high }) ∷ [] ≡ map f (take (i + 1) (beside xs ns))
  touched_more xs ns i x n items h g e =
      let z : Timed Step = record { did = x; low = n.low; high = n.high } in
      ap (λ l. l ++ f z ∷ []) e ∙ sym (ap (map f) (take_get (beside xs ns) i z (beside_get xs ns i x n h g)) ∙ map_push (take i (beside xs ns)) z)

  take_whole : (zs : List (Timed Step)) → take (length zs) zs ≡ zs
  take_whole [] = refl
  take_whole (z ∷ zs) = ap (λ l. z ∷ l) (take_whole zs)

  pub touched_all : (xs : List Step) (ns : List Interval) (i : ℕ) (items : List Touch) → length ns ≡ length xs → i ≡ length xs → items ≡ map f (take i (beside xs ns))
      → items ≡ map f (beside xs ns)
  touched_all xs ns i items l j e = e ∙ ap (map f) (ap (λ k. take k (beside xs ns)) (j ∙ sym (beside_length xs ns l)) ∙ take_whole (beside xs ns))
