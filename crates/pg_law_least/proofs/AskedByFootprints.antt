-- What the rules ask, by footprints.
use Rattle.std.proofs.Common.{◌≡◌, ◌==◌, Bool, true, false, List, [], ◌∷◌, ◌++◌, map, refl, sym, ap, ◌∙◌}
use Rattle.std.specs.Prelude.{◌&&◌, ◌||◌, not}
use Rattle.std.specs.List.{list_any}
use Rattle.std.proofs.lemmas.List.Folds.{list_any-append}
use Rattle.pg_run_trace.specs.Races as races
use Rattle.pg_slice_conflicts.specs.declared.footprint.Footprint.{Footprint}
use Rattle.pg_slice_conflicts.specs.Meets.{is_met, meets}
use Rattle.pg_slice_conflicts.proofs.Joining.{any_map}
use Rattle.pg_slice_conflicts.proofs.ListTests.{and_or, any_and, any_none, any_same, any_swap, or_false}
use Rattle.pg_slice_rules.specs.Known.{Seen}
use Rattle.pg_slice_rules.specs.Moments.{thread_in}
use Rattle.pg_slice_rules.specs.Rules as rules
use Rattle.pg_law_least.specs.Footprints.{access_footprints, of_step, footprints_of, region_footprints, some_met}

-- of different threads, in overlapping intervals
abbrev beside : Seen → Seen → Bool
beside x y = not (thread_in x.moment == thread_in y.moment) && races.overlap x.moment.did y.moment.did

-- the bounds of a step that a footprint of a region minds, or one of an access
abbrev minded : Bool → Seen → List rules.Footprint
minded true y = rules.access_footprint y ++ rules.region_footprints y
minded false y = rules.access_footprint y

-- one footprint beside those of one step
one_step : (r : Bool) (x y : Seen) (a : rules.Footprint) → list_any (meets (of_step r x a)) (access_footprints y ++ region_footprints y)
    ≡ (beside x y && list_any (rules.footprints_conflict a) (minded r y))
one_step r x y a =
    list_any-append (meets (of_step r x a)) (access_footprints y) (region_footprints y)
    ∙ ap (λ b. b || list_any (meets (of_step r x a)) (region_footprints y)) (any_map (meets (of_step r x a)) (of_step false y) (rules.access_footprint y))
    ∙ ap (λ b. list_any (λ f. meets (of_step r x a) (of_step false y f)) (rules.access_footprint y) || b) (any_map (meets (of_step r x a)) (of_step true y) (rules.region_footprints y))
    ∙ go r
  where
    go : (r : Bool) → (list_any (λ f. meets (of_step r x a) (of_step false y f)) (rules.access_footprint y) || list_any (λ f. meets (of_step r x a) (of_step true y f)) (rules.region_footprints y))
        ≡ (beside x y && list_any (rules.footprints_conflict a) (minded r y))
    go true =
        ap (λ b. b || list_any (λ f. beside x y && rules.footprints_conflict a f) (rules.region_footprints y)) (any_and (beside x y) (rules.footprints_conflict a) (rules.access_footprint y))
        ∙ ap (λ b. (beside x y && list_any (rules.footprints_conflict a) (rules.access_footprint y)) || b) (any_and (beside x y) (rules.footprints_conflict a) (rules.region_footprints y))
        ∙ sym (and_or (beside x y) (list_any (rules.footprints_conflict a) (rules.access_footprint y)) (list_any (rules.footprints_conflict a) (rules.region_footprints y)))
        ∙ ap (λ b. beside x y && b) (sym (list_any-append (rules.footprints_conflict a) (rules.access_footprint y) (rules.region_footprints y)))
    go false =
        ap (λ b. list_any (λ f. beside x y && rules.footprints_conflict a f) (rules.access_footprint y) || b) (any_none (rules.region_footprints y))
        ∙ or_false (list_any (λ f. beside x y && rules.footprints_conflict a f) (rules.access_footprint y))
        ∙ any_and (beside x y) (rules.footprints_conflict a) (rules.access_footprint y)

-- one footprint beside those of all steps
all_steps : (p : Footprint → Bool) (ys : List Seen) → list_any p (footprints_of ys) ≡ list_any (λ y. list_any p (access_footprints y ++ region_footprints y)) ys
all_steps p [] = refl
all_steps p (y ∷ ys) = list_any-append p (access_footprints y ++ region_footprints y) (footprints_of ys) ∙ ap (λ b. list_any p (access_footprints y ++ region_footprints y) || b) (all_steps p ys)

pub by_footprints : (r : Bool) (x : Seen) (fs : List rules.Footprint) (ys : List Seen) → list_any (λ y. rules.bounds_meet x fs y (minded r y)) ys ≡ some_met (footprints_of ys) (map (of_step r x) fs)
by_footprints r x fs ys = sym (
    any_map (is_met (footprints_of ys)) (of_step r x) fs
    ∙ any_same (λ a. is_met (footprints_of ys) (of_step r x a)) (λ a. list_any (λ y. beside x y && list_any (rules.footprints_conflict a) (minded r y)) ys) fs
    (λ a. all_steps (meets (of_step r x a)) ys ∙ any_same (λ y. list_any (meets (of_step r x a)) (access_footprints y ++ region_footprints y))
    (λ y. beside x y && list_any (rules.footprints_conflict a) (minded r y)) ys (λ y. one_step r x y a))
    ∙ any_swap (λ a y. beside x y && list_any (rules.footprints_conflict a) (minded r y)) fs ys
    ∙ any_same (λ y. list_any (λ a. beside x y && list_any (rules.footprints_conflict a) (minded r y)) fs) (λ y. rules.bounds_meet x fs y (minded r y)) ys
    (λ y. any_and (beside x y) (λ a. list_any (rules.footprints_conflict a) (minded r y)) fs)
    )
