-- What all steps of a pass ask, by what each asks by itself and by the footprints that are met.
use Rattle.std.proofs.Common.{◌≡◌, ℕ, zero, suc, ◌≤◌, ℤ, Bool, true, false, List, [], ◌∷◌, ◌++◌, length, map, take, refl, sym, ap, ◌∙◌, subst, arith}
use Rattle.std.proofs.Common.{append_assoc, inl, inr, ◌⊎◌}
use Rattle.std.specs.Prelude.{Contains, ◌↔◌, ◌&&◌, ◌||◌, not, if◌then◌else◌}
use Rattle.std.specs.List.{list_any}
use Rattle.std.proofs.lemmas.Bool.{false≢true, true≢false}
use Rattle.std.proofs.lemmas.List.Elements.{Contains-append_cases, Contains-append_left, Contains-append_right}
use Rattle.pg_ir.specs.declared.ids.InstrId.{InstrId}
use Rattle.pg_ir.specs.Program.{NumberedProgram}
use Rattle.pg_slice_conflicts.specs.declared.footprint.Footprint.{Footprint}
use Rattle.pg_slice_conflicts.specs.Meets.{is_met}
use Rattle.pg_law_demands.specs.pg_law_least.Footprints.{access_footprints, of_step, footprints_of, region_footprints, some_met}
use Rattle.pg_law_demands.proofs.of_pg_law_least.AskedByFootprints.{by_footprints}
use Rattle.pg_law_demands.specs.pg_law_least.FootprintLaws.{DisturbedByFootprints, SharedByFootprints}
use Rattle.pg_schedule.proofs.StepPositions.{timed_length}
use Rattle.pg_run.specs.State.{State, initial}
use Rattle.pg_run.specs.MachineStep.{step}
use Rattle.pg_law_threads.specs.Intervals.{Timed}
use Rattle.pg_run_trace.specs.declared.step.Step.{Step}
use Rattle.pg_run_trace.specs.Races.{recorded, timed_by}
use Rattle.pg_slice_rules.specs.declared.decision.Decision.{Decision}
use Rattle.pg_slice_rules.specs.declared.decision.Decision.TheVariants.{Pinned, Exact}
use Rattle.pg_slice_rules.specs.Closed.{admits, asks, asks_at, conditions, conditions_at}
use Rattle.pg_slice_rules.specs.Freeable.{Regions}
use Rattle.pg_slice_rules.specs.Known.{Reference, SymbolicState, Seen, Taken, after_step, seen_from, seen_in, start_of}
use Rattle.pg_slice_rules.specs.Moments.{Moment, moments_from, moments_of, state_after}
use Rattle.pg_slice_rules.specs.Rules as rules
use Rattle.pg_slice_rules.specs.Rules.{Need, all_of, asks_disturbed, asks_bounds, asks_pins, asks_shared, asks_values}
use Rattle.pg_slice_rules.specs.Rules.{bounds_needs, is_disturbed, is_plain, is_shared, kind_in, need_blames, value_needs}
use Rattle.pg_law_demands.proofs.of_pg_law_least.AskedDecisions.{asked_by, By_disturbed, By_bounds, By_pins, By_shared, By_values, in_all_of, IsAskedBy, of_all}
use Rattle.pg_region_paths.proofs.Elements.{none_in}
use Rattle.pg_slice_checks.specs.Asks.{all_hold, all_met}
use Rattle.pg_precondition.specs.Nodes.{NodeList}
use Rattle.pg_slice_passes.specs.declared.pass.Gathered.{Gathered}
use Rattle.pg_slice_passes.specs.declared.footprints.Owner.{Owner}
use Rattle.pg_slice_passes.specs.Along.{conditions_before, first_steps, own_asks}
use Rattle.pg_slice_passes.specs.Given.{reference_of}
use Rattle.pg_slice_passes.specs.Passes.{HasPassed}
use Rattle.pg_slice_passes.specs.Footprints.{asks_of_met, met_asks, owner, owners_at, owners_of}
use Rattle.pg_slice_passes.specs.Rows.{all_footprints, all_owners}

-- ---- all steps

taken_all : {A : Type 0} (n : ℕ) (xs : List A) → length xs ≤ n → take n xs ≡ xs
taken_all zero [] h = refl
taken_all (suc n) [] h = refl
taken_all zero (x ∷ xs) h = absurd (omega (arith, h))
taken_all (suc n) (x ∷ xs) h = ap (λ l. x ∷ l) (taken_all n xs (omega (arith, h)))

seen_length : (R : Reference) (d : Taken) (n : ℕ) (s : SymbolicState) (ms : List Moment) → length (seen_from R d n s ms) ≡ length ms
unfolding seen_from
seen_length R d n s [] = refl
seen_length R d n s (m ∷ ms) = ap suc (seen_length R d (suc n) (after_step R d n m s) ms)

moments_length : (gated : List InstrId) (p : NumberedProgram) (input : List ℤ) (s : State) (ts : List (Timed Step)) → length (moments_from gated p input s ts) ≡ length ts
unfolding moments_from
moments_length gated p input s [] = refl
moments_length gated p input s (t ∷ ts) = ap suc (moments_length gated p input (state_after s (step gated p input s t.did.thread.0)) ts)

-- a run has as many moments as steps
pub as_many : (gated : List InstrId) (p : NumberedProgram) (input : List ℤ) (xs : List Step) → length (moments_of gated p input xs) ≡ length xs
as_many gated p input xs = moments_length gated p input (initial p) (timed_by recorded xs) ∙ timed_length recorded xs

pub all_steps : (p : NumberedProgram) (regions : Regions) (gated : List InstrId) (input : List ℤ) (xs : List Step) (d : Taken)
    → first_steps (reference_of p regions gated input xs) d (length xs) ≡ seen_in (reference_of p regions gated input xs) d
all_steps p regions gated input xs d =
    let R = reference_of p regions gated input xs in
    let l = seen_length R d 0 (start_of p) (moments_of gated p input xs) ∙ as_many gated p input xs in
    taken_all (length xs) (seen_in R d) (omega (arith, l))

-- ---- the footprints that are met

map_both : {A B : Type 0} (f : A → B) (xs ys : List A) → map f (xs ++ ys) ≡ map f xs ++ map f ys
map_both f [] ys = refl
map_both f (x ∷ xs) ys = ap (λ l. f x ∷ l) (map_both f xs ys)

module _ (d : Taken) (q : Footprint → Bool) where
  -- of some footprints of one step
  abbrev met_of : Owner → List Footprint → List Decision
  met_of o ps = asks_of_met d ps (map (λ (f : Footprint). o) ps) (map q ps)

  met_then : (o : Owner) (ps qs : List Footprint) (us : List Owner) (ns : List Bool)
      → asks_of_met d (ps ++ qs) (map (λ (f : Footprint). o) ps ++ us) (map q ps ++ ns) ≡ met_of o ps ++ asks_of_met d qs us ns
  met_then o [] qs us ns = refl
  met_then o (p ∷ ps) qs us ns =
      ap (λ l. (if q p then met_asks d p.of_region o else []) ++ l) (met_then o ps qs us ns)
      ∙ sym (append_assoc (if q p then met_asks d p.of_region o else []) (met_of o ps) (asks_of_met d qs us ns))

  abbrev footprints_at : Seen → List Footprint
  footprints_at y = access_footprints y ++ region_footprints y

  met_along : (ys : List Seen) → asks_of_met d (footprints_of ys) (owners_of ys) (map q (footprints_of ys)) ≡ all_of (λ y. met_of (owner y) (footprints_at y)) ys
  met_along [] = refl
  met_along (y ∷ ys) =
      ap (λ ms. asks_of_met d (footprints_at y ++ footprints_of ys) (owners_at y ++ owners_of ys) ms) (map_both q (footprints_at y) (footprints_of ys))
      ∙ met_then (owner y) (footprints_at y) (footprints_of ys) (owners_of ys) (map q (footprints_of ys))
      ∙ ap (λ l. met_of (owner y) (footprints_at y) ++ l) (met_along ys)

  met_parts : (y : Seen) → met_of (owner y) (footprints_at y) ≡ met_of (owner y) (access_footprints y) ++ met_of (owner y) (region_footprints y)
  met_parts y =
      ap (λ os. asks_of_met d (footprints_at y) os (map q (footprints_at y))) (map_both (λ (f : Footprint). owner y) (access_footprints y) (region_footprints y))
      ∙ ap (λ ms. asks_of_met d (footprints_at y) (map (λ (f : Footprint). owner y) (access_footprints y) ++ map (λ (f : Footprint). owner y) (region_footprints y)) ms)
      (map_both q (access_footprints y) (region_footprints y))
      ∙ met_then (owner y) (access_footprints y) (region_footprints y) (map (λ (f : Footprint). owner y) (region_footprints y)) (map q (region_footprints y))

  -- some of them is met, and it is asked for
  abbrev IsMet : Bool → Owner → List Footprint → Decision → Type 0
  IsMet r o ps z = (list_any q ps ≡ true) × Contains (met_asks d r o) z

  met_to : (r : Bool) (o : Owner) (y : Seen) (fs : List rules.Footprint) (z : Decision) → Contains (met_of o (map (of_step r y) fs)) z → IsMet r o (map (of_step r y) fs) z
  met_to r o y [] z c = absurd (none_in z c)
  met_to r o y (f ∷ fs) z c = go (q (of_step r y f)) (λ k. met_to r o y fs z k) c
    where
      go : (b : Bool) → (Contains (met_of o (map (of_step r y) fs)) z → IsMet r o (map (of_step r y) fs) z)
          → Contains ((if b then met_asks d r o else []) ++ met_of o (map (of_step r y) fs)) z →
          ((b || list_any q (map (of_step r y) fs)) ≡ true) × Contains (met_asks d r o) z
      go false more k = more k
      go true more k = (refl, split (Contains-append_cases (met_asks d r o) (met_of o (map (of_step r y) fs)) z k))
        where
          split : Contains (met_asks d r o) z ⊎ Contains (met_of o (map (of_step r y) fs)) z → Contains (met_asks d r o) z
          split (inl a) = a
          split (inr a) = let m = more a in m.1

  met_from : (r : Bool) (o : Owner) (y : Seen) (fs : List rules.Footprint) (z : Decision) → IsMet r o (map (of_step r y) fs) z → Contains (met_of o (map (of_step r y) fs)) z
  met_from r o y [] z m = absurd (false≢true m.0)
  met_from r o y (f ∷ fs) z m = go (q (of_step r y f)) (λ k. met_from r o y fs z k) m.0
    where
      go : (b : Bool) → (IsMet r o (map (of_step r y) fs) z → Contains (met_of o (map (of_step r y) fs)) z) → (b || list_any q (map (of_step r y) fs)) ≡ true →
          Contains ((if b then met_asks d r o else []) ++ met_of o (map (of_step r y) fs)) z
      go false more e = more (e, m.1)
      go true more e = Contains-append_left (met_asks d r o) (met_of o (map (of_step r y) fs)) z m.1

-- ---- the rules by what is met

disturbed_to : (b t : Bool) (x z : Decision) → Contains (if b && not t then x ∷ [] else []) z → (b ≡ true) × Contains (if t then [] else x ∷ []) z
disturbed_to true true x z c = absurd (none_in z c)
disturbed_to true false x z c = (refl, c)
disturbed_to false t x z c = absurd (none_in z c)

disturbed_from : (b t : Bool) (x z : Decision) → (b ≡ true) × Contains (if t then [] else x ∷ []) z → Contains (if b && not t then x ∷ [] else []) z
disturbed_from true true x z c = c.1
disturbed_from true false x z c = c.1
disturbed_from false t x z c = absurd (false≢true c.0)

shared_to : (plain b t : Bool) (x z : Decision) → Contains (if (plain && b) && not t then x ∷ [] else []) z → (b ≡ true) × Contains (if plain && not t then x ∷ [] else []) z
shared_to true b t x z c = go b c
  where
    go : (b : Bool) → Contains (if b && not t then x ∷ [] else []) z → (b ≡ true) × Contains (if true && not t then x ∷ [] else []) z
    go true c = (refl, c)
    go false c = absurd (none_in z c)
shared_to false b t x z c = absurd (none_in z c)

shared_from : (plain b t : Bool) (x z : Decision) → (b ≡ true) × Contains (if plain && not t then x ∷ [] else []) z → Contains (if (plain && b) && not t then x ∷ [] else []) z
shared_from plain true t x z c = go plain c.1
  where
    go : (plain : Bool) → Contains (if plain && not t then x ∷ [] else []) z → Contains (if (plain && true) && not t then x ∷ [] else []) z
    go true c = c
    go false c = c
shared_from plain false t x z c = absurd (false≢true c.0)

by_region : DisturbedByFootprints
by_region all x = by_footprints true x (rules.region_footprints x) all

by_access : SharedByFootprints
by_access all x = ap (λ (b : Bool). is_plain (kind_in x) && b) (by_footprints false x (rules.access_footprint x) all)

module _ (R : Reference) (d : Taken) where
  abbrev all : List Seen
  all = seen_in R d

  abbrev q : Footprint → Bool
  q = is_met (footprints_of all)

  disturbed_met : (y : Seen) (z : Decision) → Contains (met_of d q (owner y) (region_footprints y)) z → Contains (asks_disturbed d all y) z
  disturbed_met y z c =
      let m = met_to d q true (owner y) y (rules.region_footprints y) z c in
      disturbed_from (is_disturbed all y) (d.pinned y.number) (Pinned y.number) z (by_region all y ∙ m.0, m.1)

  met_disturbed : (y : Seen) (z : Decision) → Contains (asks_disturbed d all y) z → Contains (met_of d q (owner y) (region_footprints y)) z
  met_disturbed y z c =
      let m = disturbed_to (is_disturbed all y) (d.pinned y.number) (Pinned y.number) z c in
      met_from d q true (owner y) y (rules.region_footprints y) z (sym (by_region all y) ∙ m.0, m.1)

  shared_met : (y : Seen) (z : Decision) → Contains (met_of d q (owner y) (access_footprints y)) z → Contains (asks_shared d all y) z
  shared_met y z c =
      let m = met_to d q false (owner y) y (rules.access_footprint y) z c in
      let s = shared_from (is_plain (kind_in y)) (some_met (footprints_of all) (access_footprints y)) (d.exact y.number) (Exact y.number) z m in
      subst (λ (b : Bool). Contains (if b && not (d.exact y.number) then Exact y.number ∷ [] else []) z) (sym (by_access all y)) s

  met_shared : (y : Seen) (z : Decision) → Contains (asks_shared d all y) z → Contains (met_of d q (owner y) (access_footprints y)) z
  met_shared y z c =
      let s = subst (λ (b : Bool). Contains (if b && not (d.exact y.number) then Exact y.number ∷ [] else []) z) (by_access all y) c in
      met_from d q false (owner y) y (rules.access_footprint y) z (shared_to (is_plain (kind_in y)) (some_met (footprints_of all) (access_footprints y)) (d.exact y.number) (Exact y.number) z s)

  -- ---- what a step asks by itself

  of_both : (xs ys : List Need) → all_of need_blames (xs ++ ys) ≡ all_of need_blames xs ++ all_of need_blames ys
  of_both [] ys = refl
  of_both (n ∷ xs) ys = ap (λ l. need_blames n ++ l) (of_both xs ys) ∙ sym (append_assoc (need_blames n) (all_of need_blames xs) (all_of need_blames ys))

  own_is : (y : Seen) → own_asks R d y ≡ asks_pins d y ++ (asks_values R d y ++ asks_bounds R y)
  own_is y = ap (λ l. asks_pins d y ++ l) (of_both (value_needs R d y) (bounds_needs R y))

  -- ---- the whole

  abbrev all_asked : List Decision
  all_asked = all_of (own_asks R d) all ++ asks_of_met d (footprints_of all) (owners_of all) (map q (footprints_of all))

  first : (y : Seen) (z : Decision) → Contains (asks_pins d y) z → Contains (asks_at R d all y) z
  first y z c =
      Contains-append_left (((asks_pins d y ++ asks_values R d y) ++ asks_bounds R y) ++ asks_disturbed d all y) (asks_shared d all y) z
      (Contains-append_left ((asks_pins d y ++ asks_values R d y) ++ asks_bounds R y) (asks_disturbed d all y) z
      (Contains-append_left (asks_pins d y ++ asks_values R d y) (asks_bounds R y) z
      (Contains-append_left (asks_pins d y) (asks_values R d y) z c)))

  second : (y : Seen) (z : Decision) → Contains (asks_values R d y) z → Contains (asks_at R d all y) z
  second y z c =
      Contains-append_left (((asks_pins d y ++ asks_values R d y) ++ asks_bounds R y) ++ asks_disturbed d all y) (asks_shared d all y) z
      (Contains-append_left ((asks_pins d y ++ asks_values R d y) ++ asks_bounds R y) (asks_disturbed d all y) z
      (Contains-append_left (asks_pins d y ++ asks_values R d y) (asks_bounds R y) z
      (Contains-append_right (asks_pins d y) (asks_values R d y) z c)))

  third : (y : Seen) (z : Decision) → Contains (asks_bounds R y) z → Contains (asks_at R d all y) z
  third y z c =
      Contains-append_left (((asks_pins d y ++ asks_values R d y) ++ asks_bounds R y) ++ asks_disturbed d all y) (asks_shared d all y) z
      (Contains-append_left ((asks_pins d y ++ asks_values R d y) ++ asks_bounds R y) (asks_disturbed d all y) z
      (Contains-append_right (asks_pins d y ++ asks_values R d y) (asks_bounds R y) z c))

  fourth : (y : Seen) (z : Decision) → Contains (asks_disturbed d all y) z → Contains (asks_at R d all y) z
  fourth y z c =
      Contains-append_left (((asks_pins d y ++ asks_values R d y) ++ asks_bounds R y) ++ asks_disturbed d all y) (asks_shared d all y) z
      (Contains-append_right ((asks_pins d y ++ asks_values R d y) ++ asks_bounds R y) (asks_disturbed d all y) z c)

  fifth : (y : Seen) (z : Decision) → Contains (asks_shared d all y) z → Contains (asks_at R d all y) z
  fifth y z c = Contains-append_right (((asks_pins d y ++ asks_values R d y) ++ asks_bounds R y) ++ asks_disturbed d all y) (asks_shared d all y) z c

  own_asked : (y : Seen) (z : Decision) → Contains (own_asks R d y) z → Contains (asks_at R d all y) z
  own_asked y z c = go (Contains-append_cases (asks_pins d y) (asks_values R d y ++ asks_bounds R y) z (subst (λ l. Contains l z) (own_is y) c))
    where
      rest : Contains (asks_values R d y) z ⊎ Contains (asks_bounds R y) z → Contains (asks_at R d all y) z
      rest (inl a) = second y z a
      rest (inr a) = third y z a

      go : Contains (asks_pins d y) z ⊎ Contains (asks_values R d y ++ asks_bounds R y) z → Contains (asks_at R d all y) z
      go (inl a) = first y z a
      go (inr a) = rest (Contains-append_cases (asks_values R d y) (asks_bounds R y) z a)

  met_asked : (y : Seen) (z : Decision) → Contains (met_of d q (owner y) (footprints_at d q y)) z → Contains (asks_at R d all y) z
  met_asked y z c = go (Contains-append_cases (met_of d q (owner y) (access_footprints y)) (met_of d q (owner y) (region_footprints y)) z (subst (λ l. Contains l z) (met_parts d q y) c))
    where
      go : Contains (met_of d q (owner y) (access_footprints y)) z ⊎ Contains (met_of d q (owner y) (region_footprints y)) z → Contains (asks_at R d all y) z
      go (inl a) = fifth y z (shared_met y z a)
      go (inr a) = fourth y z (disturbed_met y z a)

  asked_to : (z : Decision) → Contains all_asked z → Contains (all_of (asks_at R d all) all) z
  asked_to z c = go (Contains-append_cases (all_of (own_asks R d) all) (asks_of_met d (footprints_of all) (owners_of all) (map q (footprints_of all))) z c)
    where
      go : Contains (all_of (own_asks R d) all) z ⊎ Contains (asks_of_met d (footprints_of all) (owners_of all) (map q (footprints_of all))) z → Contains (all_of (asks_at R d all) all) z
      go (inl a) = let h = in_all_of (own_asks R d) all z a in of_all (asks_at R d all) all h.0 z h.1 (own_asked h.0 z h.2)
      go (inr a) =
          let h = in_all_of (λ y. met_of d q (owner y) (footprints_at d q y)) all z (subst (λ l. Contains l z) (met_along d q all) a) in
          of_all (asks_at R d all) all h.0 z h.1 (met_asked h.0 z h.2)

  own_of : (y : Seen) (z : Decision) → Contains all y → Contains (own_asks R d y) z → Contains all_asked z
  own_of y z i c = Contains-append_left (all_of (own_asks R d) all) (asks_of_met d (footprints_of all) (owners_of all) (map q (footprints_of all))) z (of_all (own_asks R d) all y z i c)

  met_one : (y : Seen) (z : Decision) → Contains all y → Contains (met_of d q (owner y) (access_footprints y) ++ met_of d q (owner y) (region_footprints y)) z → Contains all_asked z
  met_one y z i c =
      Contains-append_right (all_of (own_asks R d) all) (asks_of_met d (footprints_of all) (owners_of all) (map q (footprints_of all))) z
      (subst (λ l. Contains l z) (sym (met_along d q all)) (of_all (λ y. met_of d q (owner y) (footprints_at d q y)) all y z i (subst (λ l. Contains l z) (sym (met_parts d q y)) c)))

  asked_one : (y : Seen) (z : Decision) → Contains all y → IsAskedBy R d all y z → Contains all_asked z
  asked_one y z i (By_pins c) = own_of y z i (subst (λ l. Contains l z) (sym (own_is y)) (Contains-append_left (asks_pins d y) (asks_values R d y ++ asks_bounds R y) z c))
  asked_one y z i (By_values c) = own_of y z i (subst (λ l. Contains l z) (sym (own_is y))
      (Contains-append_right (asks_pins d y) (asks_values R d y ++ asks_bounds R y) z (Contains-append_left (asks_values R d y) (asks_bounds R y) z c)))
  asked_one y z i (By_bounds c) = own_of y z i (subst (λ l. Contains l z) (sym (own_is y))
      (Contains-append_right (asks_pins d y) (asks_values R d y ++ asks_bounds R y) z (Contains-append_right (asks_values R d y) (asks_bounds R y) z c)))
  asked_one y z i (By_disturbed c) = met_one y z i (Contains-append_right (met_of d q (owner y) (access_footprints y)) (met_of d q (owner y) (region_footprints y)) z (met_disturbed y z c))
  asked_one y z i (By_shared c) = met_one y z i (Contains-append_left (met_of d q (owner y) (access_footprints y)) (met_of d q (owner y) (region_footprints y)) z (met_shared y z c))

  asked_from : (z : Decision) → Contains (all_of (asks_at R d all) all) z → Contains all_asked z
  asked_from z c = let h = in_all_of (asks_at R d all) all z c in asked_one h.0 z h.1 (asked_by R d all h.0 z h.2)

  -- the same decisions
  pub all_are_asked : (ys : List Seen) (ms : List Bool) (footprints : List Footprint) → ys ≡ seen_in R d → footprints ≡ footprints_of ys → ms ≡ map (is_met footprints) footprints → (z : Decision) →
      Contains (all_of (own_asks R d) ys ++ asks_of_met d footprints (owners_of ys) ms) z ↔ Contains (asks R d) z
  unfolding asks
  all_are_asked ys ms footprints e k h z =
      let same : all_of (own_asks R d) ys ++ asks_of_met d footprints (owners_of ys) ms ≡ all_asked = rw (h, k, e) refl in
      (λ c. asked_to z (subst (λ l. Contains l z) same c), λ c. subst (λ l. Contains l z) (sym same) (asked_from z c))

-- ---- what an input must give

pub same_admitted : (R : Reference) (d : Taken) (ys : List Seen) (input : List ℤ) → ys ≡ seen_in R d → all_met (all_of (conditions_at R d) ys) input ≡ admits R d input
unfolding admits conditions
same_admitted R d ys input e = ap (λ (l : List Seen). all_met (all_of (conditions_at R d) l) input) e

-- ---- a pass

-- what is missing, by what is gathered
pub missing_is : (p : NumberedProgram) (regions : Regions) (gated : List InstrId) (input : List ℤ) (xs : List Step) (d : Taken) (ns : NodeList) (g : Gathered) (whole : List Decision)
    → HasPassed (reference_of p regions gated input xs) d (length xs) ns g →
    whole ≡ g.asked.missing.items ++ asks_of_met d (all_footprints g.footprints) (all_owners g.footprints) (map (is_met (all_footprints g.footprints)) (all_footprints g.footprints))
    → (z : Decision) → Contains whole z
    ↔ Contains (asks (reference_of p regions gated input xs) d) z
missing_is p regions gated input xs d ns g whole a e z =
    let R = reference_of p regions gated input xs in
    let ys = first_steps R d (length xs) in
    let ps = all_footprints g.footprints in
    let ms = map (is_met ps) ps in
    let same : whole ≡ all_of (own_asks R d) ys ++ asks_of_met d ps (owners_of ys) ms =
    e ∙ ap (λ (l : List Decision). l ++ asks_of_met d ps (all_owners g.footprints) ms) a.missing ∙ ap (λ (os : List Owner). all_of (own_asks R d) ys ++ asks_of_met d ps os ms) a.owners in
    let h = all_are_asked R d ys ms ps (all_steps p regions gated input xs d) a.footprints refl z in
    (λ k. h.0 (subst (λ (l : List Decision). Contains l z) same k), λ k. subst (λ (l : List Decision). Contains l z) (sym same) (h.1 k))

pub admitted_is : (p : NumberedProgram) (regions : Regions) (gated : List InstrId) (input : List ℤ) (xs : List Step) (d : Taken) (ns : NodeList) (g : Gathered) (other : List ℤ)
    → HasPassed (reference_of p regions gated input xs) d (length xs) ns g →
    all_hold ns g.asked.checks.items other ≡ admits (reference_of p regions gated input xs) d other
admitted_is p regions gated input xs d ns g other a =
    let R = reference_of p regions gated input xs in
    a.checks other ∙ same_admitted R d (first_steps R d (length xs)) other (all_steps p regions gated input xs d)
