-- What is asked for is in each larger set that is closed.
use Rattle.std.proofs.Common.{◌≡◌, Bool, true, false, List, [], ◌∷◌, ◌++◌, refl, sym, ap, ◌∙◌, subst, inl, inr, ◌⊎◌}
use Rattle.std.specs.Prelude.{Contains, not, ◌&&◌, ◌||◌, ◌==◌, if◌then◌else◌}
use Rattle.std.specs.List.{AllZip, list_any}
use Rattle.std.proofs.lemmas.Bool.{true≢false, and_parts, and_from, or_cases, or_left, or_right}
use Rattle.pg_run_trace.specs.Races.{overlap}
use Rattle.pg_slice_rules.specs.declared.decision.Decision.{Decision}
use Rattle.pg_slice_rules.specs.declared.decision.Decision.TheVariants.{Pinned, Exact}
use Rattle.pg_slice_rules.specs.Moments.{thread_in}
use Rattle.pg_slice_rules.specs.SymbolicValues.{Symbolic, Known, Bounded, Unknown, blames, bounds_blames}
use Rattle.pg_slice_rules.specs.Known.{Reference, SymbolicState, Seen, Taken, has, seen_in}
use Rattle.pg_slice_rules.specs.Rules.{Footprint, Need, Value, Bounds, access_footprint, all_of, any_conflict, asks_disturbed, asks_bounds, asks_pins, asks_shared, asks_values, bounds_needs}
use Rattle.pg_slice_rules.specs.Rules.{bounds_meet, is_bound, is_disturbed, is_plain, is_shared, kind_in, need_blames, region_footprints, value_needs}
use Rattle.pg_slice_rules.specs.Closed.{AreWithin, IsClosed, asks, asks_at}
use Rattle.pg_law_least.specs.Keeps.{ExtentsKeep}
use Rattle.pg_region_paths.proofs.Elements.{cases as cases_in, here, none_in, there}
use Rattle.pg_law_least.proofs.KeptLikeness.{IsLink}
use Rattle.pg_law_least.proofs.LikeValues.{Likes, likes_link}
use Rattle.pg_law_least.proofs.AskedOfValues.{NeedLike, NeedsWithin, SeenLike, bounds_within, seen_as, values_within}
use Rattle.pg_law_least.proofs.EachStep.{run_like}
use Rattle.pg_law_least.proofs.AskedDecisions.{By_disturbed, By_bounds, By_pins, By_shared, By_values, IsAskedBy, all_in, asked_by, asked_if, in_all_of, none_asked, of_all}

-- ---- lists that are alike

pub partner : {A : Type 0} (P : A → A → Type 0) (xs ys : List A) (x : A) → AllZip P xs ys → Contains xs x → (y : A) × Contains ys y × P x y
partner P [] ys x h c = absurd (none_in x c)
partner P (a ∷ xs) [] x h c = absurd h
partner {A} P (a ∷ xs) (b ∷ ys) x h c = go (cases_in a xs x c) (λ c. partner P xs ys x h.1 c)
  where
    go : (a ≡ x) ⊎ Contains xs x → (Contains xs x → (y : A) × Contains ys y × P x y) → (y : A) × Contains (b ∷ ys) y × P x y
    go (inl e) more = (b, here b ys, subst (λ (z : A). P z b) e h.0)
    go (inr d) more = let m = more d in (m.0, there b ys m.0 m.1, m.2)

any_zip : {A : Type 0} (P : A → A → Type 0) (f g : A → Bool) (xs ys : List A) → AllZip P xs ys → ((x y : A) → P x y → f x ≡ true → g y ≡ true) → list_any f xs ≡ true →
    list_any g ys ≡ true
any_zip P f g [] ys h k q = absurd (true≢false (sym q))
any_zip P f g (x ∷ xs) [] h k q = absurd h
any_zip P f g (x ∷ xs) (y ∷ ys) h k q = go (or_cases (f x) (list_any f xs) q) (λ q. any_zip P f g xs ys h.1 k q)
  where
    go : (f x ≡ true) ⊎ (list_any f xs ≡ true) → (list_any f xs ≡ true → list_any g ys ≡ true) → (g y || list_any g ys) ≡ true
    go (inl r) more = or_left (g y) (list_any g ys) (k x y h.0 r)
    go (inr r) more = or_right (g y) (list_any g ys) (more r)

taken_if : (b c : Bool) (w : Decision) → b ≡ true → ((z : Decision) → Contains (if b && not c then w ∷ [] else []) z → ⊥) → c ≡ true
taken_if true true w q h = refl
taken_if true false w q h = absurd (h w (here w []))
taken_if false c w q h = absurd (true≢false (sym q))

-- ---- what is live stays so

bound_more : (x : Seen) (live : Bool) (before : SymbolicState) → (x.live ≡ true → live ≡ true) → is_bound x ≡ true → is_bound (seen_as x live before) ≡ true
bound_more x live before h q = go x.live live refl refl
  where
    go : (b c : Bool) → x.live ≡ b → live ≡ c → is_bound (seen_as x live before) ≡ true
    go true true f g = rw (g) (rw f at q)
    go true false f g = absurd (true≢false (sym (h f) ∙ g))
    go false c f g = absurd (true≢false (sym (rw f at q)))

no_conflict : (xs : List Footprint) → any_conflict xs [] ≡ false
no_conflict [] = refl
no_conflict (x ∷ xs) = no_conflict xs

-- the footprints of a step, by whether it is live
if_live : Bool → List Footprint → List Footprint
if_live b xs = if b then xs else []

conflict_more : (a b c d : Bool) (xs ys zs : List Footprint) → (a ≡ true → c ≡ true) → (b ≡ true → d ≡ true) →
    any_conflict (if_live a xs) (if_live b ys ++ if_live b zs) ≡ true → any_conflict (if_live c xs) (if_live d ys ++ if_live d zs) ≡ true
unfolding if_live
conflict_more true true true true xs ys zs f g q = q
conflict_more true true true false xs ys zs f g q = absurd (true≢false (sym (g refl)))
conflict_more true true false d xs ys zs f g q = absurd (true≢false (sym (f refl)))
conflict_more true false c d xs ys zs f g q = absurd (true≢false (sym q ∙ no_conflict xs))
conflict_more false b c d xs ys zs f g q = absurd (true≢false (sym q))

conflict_shared : (a b c d : Bool) (xs ys : List Footprint) → (a ≡ true → c ≡ true) → (b ≡ true → d ≡ true) → any_conflict (if_live a xs) (if_live b ys) ≡ true →
    any_conflict (if_live c xs) (if_live d ys) ≡ true
unfolding if_live
conflict_shared true true true true xs ys f g q = q
conflict_shared true true true false xs ys f g q = absurd (true≢false (sym (g refl)))
conflict_shared true true false d xs ys f g q = absurd (true≢false (sym (f refl)))
conflict_shared true false c d xs ys f g q = absurd (true≢false (sym q ∙ no_conflict xs))
conflict_shared false b c d xs ys f g q = absurd (true≢false (sym q))

both_more : (a b c d : Bool) → ((a && b) && c) ≡ true → (c ≡ true → d ≡ true) → ((a && b) && d) ≡ true
both_more a b c d q h = let p = and_parts (a && b) c q in and_from (a && b) d p.0 (h p.1)

-- the bounds of two steps that meet still do
meet_more : (x z : Seen) (live also : Bool) (before after : SymbolicState) → (x.live ≡ true → live ≡ true) → (z.live ≡ true → also ≡ true) →
    bounds_meet x (region_footprints x) z (access_footprint z ++ region_footprints z) ≡ true →
    bounds_meet (seen_as x live before) (region_footprints (seen_as x live before)) (seen_as z also after) (access_footprint (seen_as z also after) ++ region_footprints (seen_as z also after)) ≡ true
unfolding if_live
meet_more x z live also before after f g q =
    both_more (not (thread_in x.moment == thread_in z.moment)) (overlap x.moment.did z.moment.did) _ _ q (λ r. conflict_more x.live z.live live also _ _ _ f g r)

shared_more : (x z : Seen) (live also : Bool) (before after : SymbolicState) → (x.live ≡ true → live ≡ true) → (z.live ≡ true → also ≡ true) →
    bounds_meet x (access_footprint x) z (access_footprint z) ≡ true →
    bounds_meet (seen_as x live before) (access_footprint (seen_as x live before)) (seen_as z also after) (access_footprint (seen_as z also after)) ≡ true
unfolding if_live
shared_more x z live also before after f g q =
    both_more (not (thread_in x.moment == thread_in z.moment)) (overlap x.moment.did z.moment.did) _ _ q (λ r. conflict_shared x.live z.live live also _ _ f g r)

-- ---- needs

module _ (e : Taken) where
  blamed_above : (s t : Symbolic) (z : Decision) → Likes e s t → Contains (blames s) z → ((w : Decision) → Contains (blames t) w → ⊥) → has e z ≡ true
  blamed_above (Known f g) t z h c none = absurd (none_in z c)
  blamed_above (Bounded g x) (Known u w) z h c none = only (cases_in x [] z c)
    where
      only : (x ≡ z) ⊎ Contains [] z → has e z ≡ true
      only (inl q) = subst (λ (z : Decision). has e z ≡ true) q h.1
      only (inr c) = absurd (none_in z c)
  blamed_above (Bounded g x) (Bounded u y) z h c none = absurd (none y (here y []))
  blamed_above (Bounded g x) (Unknown y) z h c none = absurd h
  blamed_above (Unknown x) t z (inl q) c none = only (cases_in x [] z c)
    where
      only : (x ≡ z) ⊎ Contains [] z → has e z ≡ true
      only (inl f) = subst (λ (z : Decision). has e z ≡ true) f q
      only (inr c) = absurd (none_in z c)
  blamed_above (Unknown x) t z (inr q) c none = absurd (none q.0 (subst (λ (s : Symbolic). Contains (blames s) q.0) (sym q.1) (here q.0 [])))

  bounds_above : (s t : Symbolic) (z : Decision) → Likes e s t → Contains (bounds_blames s) z → ((w : Decision) → Contains (bounds_blames t) w → ⊥) → has e z ≡ true
  bounds_above (Known f g) t z h c none = absurd (none_in z c)
  bounds_above (Bounded g x) t z h c none = absurd (none_in z c)
  bounds_above (Unknown x) t z (inl q) c none = only (cases_in x [] z c)
    where
      only : (x ≡ z) ⊎ Contains [] z → has e z ≡ true
      only (inl f) = subst (λ (z : Decision). has e z ≡ true) f q
      only (inr c) = absurd (none_in z c)
  bounds_above (Unknown x) t z (inr q) c none = absurd (none q.0 (subst (λ (s : Symbolic). Contains (bounds_blames s) q.0) (sym q.1) (here q.0 [])))

  need_above : (a b : Need) (z : Decision) → NeedLike (Likes e) a b → Contains (need_blames a) z → ((w : Decision) → Contains (need_blames b) w → ⊥) → has e z ≡ true
  need_above (Value s a) (Value t b) z h c none = blamed_above s t z h.0 c none
  need_above (Value s a) (Bounds t b) z h c none = absurd h
  need_above (Bounds s a) (Value t b) z h c none = absurd h
  need_above (Bounds s a) (Bounds t b) z h c none = bounds_above s t z h.0 c none

  needs_above : (ns ms : List Need) (z : Decision) → NeedsWithin (Likes e) ns ms → Contains (all_of need_blames ns) z → ((w : Decision) → Contains (all_of need_blames ms) w → ⊥) →
      has e z ≡ true
  needs_above ns ms z h c none =
      let q = in_all_of need_blames ns z c in
      let b = all_in (λ (a : Need). (b : Need) × Contains ms b × NeedLike (Likes e) a b) ns q.0 h q.1 in
      need_above q.0 b.0 z b.2 q.2 (λ w f. none w (of_all need_blames ms b.0 w b.1 f))

-- ---- the rules

module _ (R : Reference) (d e : Taken) (within : AreWithin d e) (closed : IsClosed R e) (alike : AllZip (SeenLike (Likes e)) (seen_in R d) (seen_in R e)) where
  link : IsLink d e 0 (Likes e)
  link = likes_link d e 0 within

  number_of : (x y : Seen) → SeenLike (Likes e) x y → y.number ≡ x.number
  number_of x y h = ap (λ (z : Seen). z.number) h.same

  bound_at : (x y : Seen) → SeenLike (Likes e) x y → is_bound x ≡ true → is_bound y ≡ true
  bound_at x y h q = subst (λ (z : Seen). is_bound z ≡ true) (sym h.same) (bound_more x y.live y.before h.live q)

  meets_at : (x y : Seen) → SeenLike (Likes e) x y → (z w : Seen) → SeenLike (Likes e) z w → bounds_meet x (region_footprints x) z (access_footprint z ++ region_footprints z) ≡ true →
      bounds_meet y (region_footprints y) w (access_footprint w ++ region_footprints w) ≡ true
  meets_at x y h z w g q =
      subst (λ (y : Seen). bounds_meet y (region_footprints y) w (access_footprint w ++ region_footprints w) ≡ true) (sym h.same)
      (subst (λ (w : Seen). bounds_meet (seen_as x y.live y.before) (region_footprints (seen_as x y.live y.before)) w (access_footprint w ++ region_footprints w) ≡ true) (sym g.same)
      (meet_more x z y.live w.live y.before w.before h.live g.live q))

  shares_at : (x y : Seen) → SeenLike (Likes e) x y → (z w : Seen) → SeenLike (Likes e) z w → bounds_meet x (access_footprint x) z (access_footprint z) ≡ true →
      bounds_meet y (access_footprint y) w (access_footprint w) ≡ true
  shares_at x y h z w g q =
      subst (λ (y : Seen). bounds_meet y (access_footprint y) w (access_footprint w) ≡ true) (sym h.same)
      (subst (λ (w : Seen). bounds_meet (seen_as x y.live y.before) (access_footprint (seen_as x y.live y.before)) w (access_footprint w) ≡ true) (sym g.same)
      (shared_more x z y.live w.live y.before w.before h.live g.live q))

  disturbed_at : (x y : Seen) → SeenLike (Likes e) x y → is_disturbed (seen_in R d) x ≡ true → is_disturbed (seen_in R e) y ≡ true
  disturbed_at x y h q = any_zip (SeenLike (Likes e)) _ _ (seen_in R d) (seen_in R e) alike (λ z w g r. meets_at x y h z w g r) q

  plain_at : (x y : Seen) → SeenLike (Likes e) x y → is_plain (kind_in x) ≡ true → is_plain (kind_in y) ≡ true
  plain_at x y h q = subst (λ (y : Seen). is_plain (kind_in y) ≡ true) (sym h.same) q

  shared_at : (x y : Seen) → SeenLike (Likes e) x y → is_shared (seen_in R d) x ≡ true → is_shared (seen_in R e) y ≡ true
  shared_at x y h q =
      let p = and_parts (is_plain (kind_in x)) (list_any (λ (z : Seen). bounds_meet x (access_footprint x) z (access_footprint z)) (seen_in R d)) q in
      and_from (is_plain (kind_in y)) (list_any (λ (z : Seen). bounds_meet y (access_footprint y) z (access_footprint z)) (seen_in R e)) (plain_at x y h p.0)
      (any_zip (SeenLike (Likes e)) (λ (z : Seen). bounds_meet x (access_footprint x) z (access_footprint z)) (λ (z : Seen). bounds_meet y (access_footprint y) z (access_footprint z)) (seen_in R d)
      (seen_in R e) alike (λ z w g r. shares_at x y h z w g r) p.1)

  rule_above : (x y : Seen) → SeenLike (Likes e) x y → Contains (seen_in R e) y → (z : Decision) → IsAskedBy R d (seen_in R d) x z → has e z ≡ true
  rule_above x y h c z (By_pins a) =
      let q = asked_if (is_bound x) (d.pinned x.number) (Pinned x.number) z a in
      let t : e.pinned y.number ≡ true = taken_if (is_bound y) (e.pinned y.number) (Pinned y.number) (bound_at x y h q.1) (none_asked (asks_pins e) (seen_in R e) y closed.pins c) in
      subst (λ (z : Decision). has e z ≡ true) q.0 (rw (number_of x y h) at t)
  rule_above x y h c z (By_values a) = needs_above e (value_needs R d x) (value_needs R e y) z (values_within R d e 0 (Likes e) link x y h) a
      (none_asked (asks_values R e) (seen_in R e) y closed.values c)
  rule_above x y h c z (By_bounds a) = needs_above e (bounds_needs R x) (bounds_needs R y) z (bounds_within R d e 0 (Likes e) link x y h) a
      (none_asked (asks_bounds R) (seen_in R e) y closed.bounds c)
  rule_above x y h c z (By_disturbed a) =
      let q = asked_if (is_disturbed (seen_in R d) x) (d.pinned x.number) (Pinned x.number) z a in
      let t : e.pinned y.number ≡ true = taken_if (is_disturbed (seen_in R e) y) (e.pinned y.number) (Pinned y.number) (disturbed_at x y h q.1)
      (none_asked (asks_disturbed e (seen_in R e)) (seen_in R e) y closed.disturbed c) in
      subst (λ (z : Decision). has e z ≡ true) q.0 (rw (number_of x y h) at t)
  rule_above x y h c z (By_shared a) =
      let q = asked_if (is_shared (seen_in R d) x) (d.exact x.number) (Exact x.number) z a in
      let t : e.exact y.number ≡ true = taken_if (is_shared (seen_in R e) y) (e.exact y.number) (Exact y.number) (shared_at x y h q.1)
      (none_asked (asks_shared e (seen_in R e)) (seen_in R e) y closed.shared c) in
      subst (λ (z : Decision). has e z ≡ true) q.0 (rw (number_of x y h) at t)

pub asks_above : (R : Reference) → ExtentsKeep R → (d e : Taken) → IsClosed R e → AreWithin d e → (x : Decision) → Contains (asks R d) x → has e x ≡ true
unfolding asks
asks_above R keeps d e closed within z c =
    let alike = run_like R keeps d e (Likes e) (likes_link d e _ within) in
    let q = in_all_of (asks_at R d (seen_in R d)) (seen_in R d) z c in
    let y = partner (SeenLike (Likes e)) (seen_in R d) (seen_in R e) q.0 alike q.1 in
    rule_above R d e within closed alike q.0 y.0 y.2 y.1 z (asked_by R d (seen_in R d) q.0 z q.2)
