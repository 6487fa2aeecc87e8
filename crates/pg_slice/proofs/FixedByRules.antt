-- Of steps that are live and whose bounds meet, closed decisions fix what the rules say.
use Rattle.std.proofs.Common.{◌≡◌, ℕ, Bool, true, false, List, [], ◌∷◌, ◌++◌, Some, None, length, refl, sym, ap, ◌∙◌, inl, inr, ◌⊎◌}
use Rattle.std.specs.Prelude.{Contains, ◌&&◌, ◌||◌, not, slice_get, if◌then◌else◌}
use Rattle.std.specs.List.{list_any}
use Rattle.std.proofs.lemmas.Bool.{true≢false}
use Rattle.pg_slice_rules.specs.declared.decision.Decision.{Decision}
use Rattle.pg_slice_rules.specs.declared.decision.Decision.TheVariants.{Pinned, Exact}
use Rattle.pg_slice_rules.specs.Closed.{IsClosed}
use Rattle.pg_slice_rules.specs.Known.{Reference, Seen, Taken, is_branch, seen_in}
use Rattle.pg_slice_rules.specs.Moments.{Moment}
use Rattle.pg_slice_rules.specs.Rules.{access_footprint, asks_disturbed, asks_pins, asks_shared, bounds_meet, is_disturbed, is_shared, region_footprints}
use Rattle.pg_slice_walk.specs.pg_law_least.Keeps.{ExtentsKeep, every}
use Rattle.pg_slice_walk.specs.pg_law_least.Along.{region_in}
use Rattle.pg_slice_walk.proofs.of_pg_law_least.AskedDecisions.{none_asked}
use Rattle.pg_slice_walk.proofs.of_pg_law_least.LikeValues.{Likes}
use Rattle.pg_region_paths.proofs.Elements.{cases as cases_in, here, none_in}
use Rattle.pg_slice_walk.specs.pg_law_demands.Along.{known_at}
use Rattle.pg_slice_walk.proofs.of_pg_law_demands.StepBack.{live_before}
use Rattle.pg_slice.specs.Rivals.{AreDisturbed, AreShared, IsLiveAt}
use Rattle.pg_slice_walk.proofs.of_pg_slice_back.KnownBefore.{at_step, of_those, the_link}

-- a list with an element that passes
pub any_in : {A : Type 0} (f : A → Bool) (xs : List A) (x : A) → Contains xs x → f x ≡ true → list_any f xs ≡ true
any_in f [] x c h = absurd (none_in x c)
any_in f (y ∷ xs) x c h = go (cases_in y xs x c) (λ d. any_in f xs x d h)
  where
    any_true : (a : Bool) → (a || true) ≡ true
    any_true true = refl
    any_true false = refl

    go : (y ≡ x) ⊎ Contains xs x → (Contains xs x → list_any f xs ≡ true) → list_any f (y ∷ xs) ≡ true
    go (inl e) more = rw (ap f e ∙ h) refl
    go (inr d) more = rw (more d) (any_true (f y))

-- what is asked where a test holds is taken, where nothing is asked
taken_if : (b c : Bool) (w : Decision) → b ≡ true → ((z : Decision) → Contains (if b && not c then w ∷ [] else []) z → ⊥) → c ≡ true
taken_if true true w q h = refl
taken_if true false w q h = absurd (h w (here w []))
taken_if false c w q h = absurd (true≢false (sym q))

both : (a b : Bool) → a ≡ true → b ≡ true → (a && b) ≡ true
both a b q h = rw (q, h) refl

module _ (R : Reference) (keeps : ExtentsKeep R) (e : Taken) (closed : IsClosed R e) where
  -- the step as it is seen under these decisions
  abbrev seen : ℕ → Moment → Seen
  seen n m = of_those R e n m (known_at R e n)

  in_seen : (n : ℕ) (m : Moment) → slice_get R.moments n ≡ Some m → Contains (seen_in R e) (seen n m)
  in_seen n m q = (at_step R keeps e n m q).in_those

  live_seen : (n : ℕ) (m : Moment) → slice_get R.moments n ≡ Some m → IsLiveAt R e n m → (seen n m).live ≡ true
  live_seen n m q live =
      let a = at_step R keeps e n m q in
      live_before R keeps e (length R.moments) (Likes every) (the_link e (length R.moments)) n m (known_at R e n) (known_at R every n) a.like a.in_run live

  pub bound_pinned : (n : ℕ) (m : Moment) → slice_get R.moments n ≡ Some m → IsLiveAt R e n m → is_branch m.did.did.kind ≡ true → region_in R m ≡ None → e.pinned n ≡ true
  bound_pinned n m q live branch free =
      let l = live_seen n m q live in
      taken_if _ (e.pinned n) (Pinned n) (both _ _ (both _ _ l branch) (rw free refl)) (none_asked (asks_pins e) (seen_in R e) (seen n m) closed.pins (in_seen n m q))

  module _ (n : ℕ) (m : Moment) (q : slice_get R.moments n ≡ Some m) (live : IsLiveAt R e n m) (y : ℕ) (my : Moment) (qy : slice_get R.moments y ≡ Some my) (live_y : IsLiveAt R e y my) where
    pub disturbed_pinned : AreDisturbed R m my → e.pinned n ≡ true
    disturbed_pinned d =
        let l = live_seen n m q live in
        let k = live_seen y my qy live_y in
        let meets : bounds_meet (seen n m) (region_footprints (seen n m)) (seen y my) (access_footprint (seen y my) ++ region_footprints (seen y my)) ≡ true =
        rw (l, k) (both _ _ (both _ _ (rw d.apart refl) d.together) d.meet) in
        taken_if (is_disturbed (seen_in R e) (seen n m)) (e.pinned n) (Pinned n)
        (any_in (λ (z : Seen). bounds_meet (seen n m) (region_footprints (seen n m)) z (access_footprint z ++ region_footprints z)) (seen_in R e) (seen y my) (in_seen y my qy) meets)
        (none_asked (asks_disturbed e (seen_in R e)) (seen_in R e) (seen n m) closed.disturbed (in_seen n m q))

    pub shared_exact : AreShared m my → e.exact n ≡ true
    shared_exact d =
        let l = live_seen n m q live in
        let k = live_seen y my qy live_y in
        let meets : bounds_meet (seen n m) (access_footprint (seen n m)) (seen y my) (access_footprint (seen y my)) ≡ true = rw (l, k) (both _ _ (both _ _ (rw d.apart refl) d.together) d.meet) in
        taken_if (is_shared (seen_in R e) (seen n m)) (e.exact n) (Exact n)
        (both _ _ d.plain (any_in (λ (z : Seen). bounds_meet (seen n m) (access_footprint (seen n m)) z (access_footprint z)) (seen_in R e) (seen y my) (in_seen y my qy) meets))
        (none_asked (asks_shared e (seen_in R e)) (seen_in R e) (seen n m) closed.shared (in_seen n m q))
