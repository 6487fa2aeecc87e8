-- The passes answer all footprints.
use Rattle.std.proofs.Common.{◌≡◌, ◌≤◌, ℕ, Bool, true, false, List, All, [], ◌∷◌, map, refl, sym, ap, ◌∙◌, subst}
use Rattle.std.specs.Prelude.{◌≢◌, ◌&&◌, ◌||◌, not, reverse}
use Rattle.std.specs.List.{list_any, AllByRecursion}
use Rattle.std.proofs.lemmas.Bool.{eq-eqb}
use Rattle.std.proofs.lemmas.List.Elements.{recursion_from_All}
use Rattle.pg_law_threads.specs.Steps.{EachPair}
use Rattle.pg_slice_conflicts.specs.declared.footprint.Footprint.{Footprint}
use Rattle.pg_slice_conflicts.specs.declared.places.Placed.{Placed}
use Rattle.pg_slice_conflicts.specs.Joined.{or_each}
use Rattle.pg_slice_conflicts.specs.Meets.{InOrder, bytes_of, is_met, meets, minds, overlap, share}
use Rattle.pg_slice_conflicts.specs.Passes.{answers_along, before_by}
use Rattle.pg_slice_conflicts.specs.Places.{IsPlaced, footprint_of}
use Rattle.pg_slice_conflicts.proofs.AnsweredOneWay.{backward, forward}
use Rattle.pg_slice_conflicts.proofs.AnsweredBothWays.{both}
use Rattle.pg_slice_conflicts.proofs.Joining.{any_map}

abbrev stand : Placed → Placed → Type 0
stand x y = x.footprint.thread.0 ≢ y.footprint.thread.0 → x.footprint.low ≤ y.footprint.high

all_map : {A B : Type 0} (P : B → Type 0) (h : A → B) (xs : List A) → AllByRecursion P (map h xs) → AllByRecursion (λ x. P (h x)) xs
all_map P h [] a = tt
all_map P h (x ∷ xs) a = (a.0, all_map P h xs a.1)

in_order : (zs : List Placed) → InOrder (map footprint_of zs) → EachPair stand zs
in_order [] o = tt
in_order (z ∷ zs) o = (all_map (λ y. z.footprint.thread.0 ≢ y.thread.0 → z.footprint.low ≤ y.high) footprint_of zs o.0, in_order zs o.1)

not_own : (y : Placed) → meets y.footprint y.footprint ≡ false
not_own y =
    ap (λ b. minds y.footprint y.footprint && ((not b && overlap y.footprint y.footprint) && ((y.footprint.writes || y.footprint.writes) && share (bytes_of y.footprint) (bytes_of y.footprint))))
    (eq-eqb y.footprint.thread.0 y.footprint.thread.0 refl)
    ∙ and_false (minds y.footprint y.footprint)
  where
    and_false : (b : Bool) → (b && false) ≡ false
    and_false true = refl
    and_false false = refl

met_footprints : (ps : List Footprint) (ws zs : List Placed) → ps ≡ map footprint_of ws → map (λ y. list_any (λ x. meets y.footprint x.footprint) ws) zs ≡ map (is_met ps) (map footprint_of zs)
met_footprints ps ws [] e = refl
met_footprints ps ws (z ∷ zs) e =
    ap (λ b. b ∷ map (λ y. list_any (λ x. meets y.footprint x.footprint) ws) zs) (sym (ap (list_any (meets z.footprint)) e ∙ any_map (meets z.footprint) footprint_of ws))
    ∙ ap (λ l. is_met ps z.footprint ∷ l) (met_footprints ps ws zs e)

pub all_answered : (bytes : List ℕ) (footprints : List Footprint) (zs : List Placed) → All (IsPlaced bytes) zs → map footprint_of zs ≡ footprints → InOrder footprints →
    or_each (before_by (answers_along false) [] zs) (reverse (before_by (answers_along true) [] (reverse zs))) ≡ map (is_met footprints) footprints
all_answered bytes footprints zs each same o =
    both stand (IsPlaced bytes) (answers_along false) (answers_along true) (λ y x. meets y.footprint x.footprint)
    (λ x y px py r. forward bytes x y px py r) (λ x y px py r. backward bytes x y px py r) not_own
    zs (recursion_from_All (IsPlaced bytes) zs each) (in_order zs (subst InOrder (sym same) o))
    ∙ met_footprints footprints zs zs (sym same) ∙ ap (map (is_met footprints)) same
