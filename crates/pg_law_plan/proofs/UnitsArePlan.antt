-- The units of an ordered run under closed decisions are a plan.
use Rattle.std.proofs.Common.{◌≡◌, ℕ, ◌≤◌, Bool, true, false, List, [], ◌∷◌, ◌++◌, map, refl, sym, ap, subst, arith, suc, inl, inr}
use Rattle.std.specs.Prelude.{◌&&◌, ◌||◌, not, if◌then◌else◌}
use Rattle.std.specs.List.{AllByRecursion as AllOf}
use Rattle.pg_law_threads.specs.Effects.{deeds}
use Rattle.pg_law_threads.specs.Intervals.{AreOrdered, Timed, did_of, times}
use Rattle.pg_law_threads.specs.Plans.{IsPlan}
use Rattle.pg_law_threads.specs.Steps.{Conflict, EachPair, meet_at}
use Rattle.pg_law_threads.proofs.DoneLists.{all_map, both_of, cons_head, cons_tail}
use Rattle.pg_law_threads.proofs.OwnTurns.{own_turns}
use Rattle.pg_law_threads.proofs.TimedSteps.{did_times, events_low, low_high}
use Rattle.pg_run_trace.specs.declared.step.Step.{Step}
use Rattle.pg_run_trace.specs.Races.{recorded}
use Rattle.pg_run_trace.specs.Steps.{access_in, access_of}
use Rattle.pg_run.specs.State.{State, initial}
use Rattle.pg_law_effects.specs.PermittedSteps.{none_taken, one_more}
use Rattle.pg_slice_rules.specs.Closed.{IsClosed}
use Rattle.pg_slice_rules.specs.Known.{Reference, SymbolicState, Seen, Taken, after_step, seen_from, seen_in, start_of}
use Rattle.pg_slice_rules.specs.Moments.{Moment, moments_from, thread_in}
use Rattle.pg_slice_rules.specs.Rules.{all_of, asks_disturbed, asks_shared, is_disturbed, is_shared, kind_in}
use Rattle.pg_law_plan.specs.Order.{Interval, IsOrderedRun, interval_of, interval_seen}
use Rattle.pg_law_plan.specs.Units.{ExtentsArePlain, Met, PlanDeed, PlanUnit, ReferenceRun, behind, deed_of, is_event_at, last_from, met_in, met_with, plan_of, reads_cell, reference_of}
use Rattle.pg_law_plan.specs.Units.{states_from, turns_of, unit_of, units_from, units_of, writes_cell}
use Rattle.pg_law_plan.specs.Lists.{Has}
use Rattle.pg_law_plan.proofs.ListMembers.{all_of_map, has_all, pairs_both, pairs_from, pairs_of_map}
use Rattle.pg_law_plan.proofs.MeetingUnitsOrdered.{IsFine, cells_ordered}
use Rattle.pg_law_plan.proofs.AccessesInBounds.{IsPlaced, run_placed}
use Rattle.pg_law_plan.proofs.UnitTurns.{intervals_are, is_some_if, turns_are}

-- ---- rules that ask for nothing

pub append_none : {A : Type 0} (xs ys : List A) → xs ++ ys ≡ [] → (xs ≡ []) × (ys ≡ [])
append_none [] ys h = (refl, h)
append_none (x ∷ xs) ys h = absurd cc

pub none_asked : {A B : Type 0} (f : A → List B) (xs : List A) → all_of f xs ≡ [] → AllOf (λ x. f x ≡ []) xs
none_asked f [] h = tt
none_asked f (x ∷ xs) h = let p = append_none (f x) (all_of f xs) h in (p.0, none_asked f xs p.1)

pub not_asked : {A : Type 0} (b : Bool) (x : A) → Path (List A) (if b then x ∷ [] else []) [] → b ≡ false
not_asked true x h = absurd cc
not_asked false x h = refl

-- ---- the steps that are seen

pub seen_times : (R : Reference) (d : Taken) (n : ℕ) (known : SymbolicState) (ms : List Moment) → map (λ (x : Seen). x.moment) (seen_from R d n known ms) ≡ ms
unfolding seen_from
seen_times R d n known [] = refl
seen_times R d n known (m ∷ ms) = ap (λ (l : List Moment). m ∷ l) (seen_times R d (suc n) (after_step R d n m known) ms)

moment_times : (r : ReferenceRun) (s : State) (ts : List (Timed Step)) → map (λ (m : Moment). m.did) (moments_from r.gated r.program r.input s ts) ≡ ts
unfolding moments_from
moment_times r s [] = refl
moment_times r s (t ∷ ts) = ap (λ (l : List (Timed Step)). t ∷ l) (moment_times r (behind r s t.did.thread.0) ts)

all_did : (P : Step → Type 0) (ts : List (Timed Step)) → AllOf P (did_of ts) → AllOf (λ (x : Timed Step). P x.did) ts
all_did P [] h = tt
all_did P (t ∷ ts) h = (h.0, all_did P ts h.1)

module _ (r : ReferenceRun) (d : Taken) where
  abbrev pub all : List Seen
  all = seen_in (reference_of r) d

  abbrev ts : List (Timed Step)
  ts = times recorded (turns_of r) 0 r.steps

  -- facts on the steps of the run, at the steps that are seen
  pub at_seen : (P : Timed Step → Type 0) → AllOf P (times recorded (turns_of r) 0 r.steps) → AllOf (λ (x : Seen). P x.moment.did) (seen_in (reference_of r) d)
  at_seen P h = all_of_map (λ (x : Seen). x.moment) (λ (m : Moment). P m.did) (seen_in (reference_of r) d)
      (subst (AllOf (λ (m : Moment). P m.did)) (sym (seen_times (reference_of r) d 0 (start_of r.program) (reference_of r).moments))
      (all_of_map (λ (m : Moment). m.did) P (reference_of r).moments (subst (AllOf P) (sym (moment_times r (initial r.program) ts)) h)))

  pub pairs_at_seen : (R : Timed Step → Timed Step → Type 0) → EachPair R (times recorded (turns_of r) 0 r.steps)
      → EachPair (λ (x y : Seen). R x.moment.did y.moment.did) (seen_in (reference_of r) d)
  pairs_at_seen R h = pairs_of_map (λ (x : Seen). x.moment) (λ (m n : Moment). R m.did n.did) (seen_in (reference_of r) d)
      (subst (EachPair (λ (m n : Moment). R m.did n.did)) (sym (seen_times (reference_of r) d 0 (start_of r.program) (reference_of r).moments))
      (pairs_of_map (λ (m : Moment). m.did) R (reference_of r).moments (subst (EachPair R) (sym (moment_times r (initial r.program) ts)) h)))

  -- ---- from the steps that are seen to units

  met_all : (P : Seen → Type 0) (xs : List Seen) (ss : List State) → AllOf P xs → AllOf (λ (m : Met). P m.seen) (met_with xs ss)
  met_all P [] ss h = tt
  met_all P (x ∷ xs) [] h = tt
  met_all P (x ∷ xs) (s ∷ ss) h = (h.0, met_all P xs ss h.1)

  met_pairs : (R : Seen → Seen → Type 0) (xs : List Seen) (ss : List State) → EachPair R xs → EachPair (λ (m n : Met). R m.seen n.seen) (met_with xs ss)
  met_pairs R [] ss h = tt
  met_pairs R (x ∷ xs) [] h = tt
  met_pairs R (x ∷ xs) (s ∷ ss) h = (met_all (R x) xs ss h.0, met_pairs R xs ss h.1)

  unit_all : (P : Seen → Type 0) (last : State) (counts : ℕ → ℕ) (ms : List Met) → AllOf (λ (m : Met). P m.seen) ms
      → AllOf (λ (u : PlanUnit). (u.seen.live ≡ true) × P u.seen) (units_from r d last counts ms)
  unfolding units_from
  unit_all P last counts [] h = tt
  unit_all P last counts (m ∷ ms) h = go m.seen.live refl (λ counts. unit_all P last counts ms h.1)
    where
      go : (b : Bool) → m.seen.live ≡ b → ((counts : ℕ → ℕ) → AllOf (λ (u : PlanUnit). (u.seen.live ≡ true) × P u.seen) (units_from r d last counts ms)) →
          AllOf (λ (u : PlanUnit). (u.seen.live ≡ true) × P u.seen)
          (if b then unit_of r d last counts m ms ∷ units_from r d last (one_more (thread_in m.seen.moment) counts) ms else units_from r d last counts ms)
      go true e more = ((e, h.0), more (one_more (thread_in m.seen.moment) counts))
      go false e more = more counts

  unit_pairs : (R : Seen → Seen → Type 0) (last : State) (counts : ℕ → ℕ) (ms : List Met) → EachPair (λ (m n : Met). R m.seen n.seen) ms
      → EachPair (λ (u v : PlanUnit). R u.seen v.seen) (units_from r d last counts ms)
  unfolding units_from
  unit_pairs R last counts [] h = tt
  unit_pairs R last counts (m ∷ ms) h = go m.seen.live (λ counts. unit_pairs R last counts ms h.1)
    where
      go : (b : Bool) → ((counts : ℕ → ℕ) → EachPair (λ (u v : PlanUnit). R u.seen v.seen) (units_from r d last counts ms)) →
          EachPair (λ (u v : PlanUnit). R u.seen v.seen) (if b then unit_of r d last counts m ms ∷ units_from r d last
          (one_more (thread_in m.seen.moment) counts) ms else units_from r d last counts ms)
      go true more = (
        all_map (λ u k. k.1) (units_from r d last (one_more (thread_in m.seen.moment) counts) ms) (unit_all (R m.seen) last (one_more (thread_in m.seen.moment) counts) ms h.0),
        more (one_more (thread_in m.seen.moment) counts),
      )
      go false more = more counts

  pub at_units : (P : Seen → Type 0) → AllOf P (seen_in (reference_of r) d) → AllOf (λ (u : PlanUnit). (u.seen.live ≡ true) × P u.seen) (units_of r d)
  at_units P h = unit_all P (last_from r (initial r.program) r.steps) none_taken (met_in r d) (met_all P (seen_in (reference_of r) d) (states_from r (initial r.program) r.steps) h)

  pub pairs_at_units : (R : Seen → Seen → Type 0) → EachPair R (seen_in (reference_of r) d) → EachPair (λ (u v : PlanUnit). R u.seen v.seen) (units_of r d)
  pairs_at_units R h = unit_pairs R (last_from r (initial r.program) r.steps) none_taken (met_in r d) (met_pairs R (seen_in (reference_of r) d) (states_from r (initial r.program) r.steps) h)

  -- ---- the plan is ordered

  module _ (o : IsOrderedRun r) (closed : IsClosed (reference_of r) d) (plain : ExtentsArePlain r d) where
    abbrev Facts : Seen → Type 0
    Facts x = Has (seen_in (reference_of r) d) x × IsPlaced (access_in (kind_in x)) × ((is_disturbed (seen_in (reference_of r) d) x && not (d.pinned x.number)) ≡ false)
        × ((is_shared (seen_in (reference_of r) d) x && not (d.exact x.number)) ≡ false) × (is_event_at x ≡ true → x.moment.did.low ≡ suc x.moment.did.high)

    facts : AllOf Facts (seen_in (reference_of r) d)
    facts =
        let all = seen_in (reference_of r) d in
        all_map (λ x h. (h.0, h.1.0, h.1.1.0, h.1.1.1.0, h.1.1.1.1)) all
        (both_of (Has all) _ all (has_all all)
        (both_of (λ (x : Seen). IsPlaced (access_in (kind_in x))) _ all
        (at_seen (λ (t : Timed Step). IsPlaced (access_of t.did))
        (all_did (λ (x : Step). IsPlaced (access_of x)) ts
        (subst (AllOf (λ (x : Step). IsPlaced (access_of x))) (sym (did_times recorded (turns_of r) 0 r.steps)) (run_placed r.gated r.program r.input (initial r.program) o.last r.steps o.run))))
        (both_of (λ (x : Seen). (is_disturbed all x && not (d.pinned x.number)) ≡ false) _ all
        (all_map (λ x h. not_asked (is_disturbed all x && not (d.pinned x.number)) _ h) all (none_asked (asks_disturbed d all) all closed.disturbed))
        (both_of (λ (x : Seen). (is_shared all x && not (d.exact x.number)) ≡ false) (λ (x : Seen). is_event_at x ≡ true → x.moment.did.low ≡ suc x.moment.did.high) all
        (all_map (λ x h. not_asked (is_shared all x && not (d.exact x.number)) _ h) all (none_asked (asks_shared d all) all closed.shared))
        (at_seen (λ (t : Timed Step). recorded.is_event t.did ≡ true → t.low ≡ suc t.high) (events_low recorded (turns_of r) 0 r.steps (own_turns recorded r.steps)))))))

    abbrev Pairs : Seen → Seen → Type 0
    Pairs x y = (x.moment.did.low ≤ y.moment.did.high) × (Conflict recorded x.moment.did.did y.moment.did.did → AreOrdered x.moment.did y.moment.did)

    pairs : EachPair Pairs (seen_in (reference_of r) d)
    pairs = pairs_at_seen (λ (x y : Timed Step). (x.low ≤ y.high) × (Conflict recorded x.did y.did → AreOrdered x y))
        (pairs_both (λ (x y : Timed Step). x.low ≤ y.high) (λ (x y : Timed Step). Conflict recorded x.did y.did → AreOrdered x y) ts
        (low_high recorded (turns_of r) 0 r.steps (omega arith) (own_turns recorded r.steps)) o.ordered)

    abbrev Settled : PlanUnit → PlanUnit → Type 0
    Settled u v = Conflict deeds (deed_of d u) (deed_of d v) → AreOrdered u.seen.moment.did v.seen.moment.did

    fine : (x : Seen) → (x.live ≡ true) × Facts x → IsFine d (seen_in (reference_of r) d) x
    fine x h = record { live = h.0; has = h.1.0; placed = h.1.1; pins = h.1.2; exact = h.1.3; event = h.1.4 }

    meet_of : (u v : PlanUnit) (c : ℕ) → meet_at deeds (deed_of d u) (deed_of d v) c ≡ true →
        ((writes_cell d u.seen c && (reads_cell d v.seen c || writes_cell d v.seen c)) || ((reads_cell d u.seen c || writes_cell d u.seen c) && writes_cell d v.seen c)) ≡ true
    meet_of u v c h = rw (is_some_if (writes_cell d u.seen c) (Rattle.pg_law_plan.specs.Units.cell_known u.known c)) at
        (rw (is_some_if (writes_cell d v.seen c) (Rattle.pg_law_plan.specs.Units.cell_known v.known c)) at h)

    settled : EachPair Settled (units_of r d)
    settled = pairs_from (λ (u : PlanUnit). (u.seen.live ≡ true) × Facts u.seen) (λ (u v : PlanUnit). Pairs u.seen v.seen) Settled
        (λ u v a b p c. cells_ordered d (seen_in (reference_of r) d) u.seen v.seen (fine u.seen a) (fine v.seen b) p.0 p.1 c.threads c.cell (meet_of u v c.cell c.meet))
        (units_of r d) (at_units Facts facts) (pairs_at_units Pairs pairs)

    abbrev SettledAt : Timed PlanDeed → Timed PlanDeed → Type 0
    SettledAt x y = Conflict deeds x.did y.did → AreOrdered x y

    settle : (u v : PlanUnit) (x y : Timed PlanDeed) → x.did ≡ deed_of d u → y.did ≡ deed_of d v → interval_of x ≡ interval_seen u → interval_of y ≡ interval_seen v
        → Settled u v → SettledAt x y
    settle u v x y e f i j h c =
        let a = ap (λ (k : Interval). k.low) i in
        let b = ap (λ (k : Interval). k.high) i in
        let p = ap (λ (k : Interval). k.low) j in
        let q = ap (λ (k : Interval). k.high) j in
        go a b p q (h (rw e at (rw f at c)))
      where
        go : x.low ≡ u.seen.moment.did.low → x.high ≡ u.seen.moment.did.high → y.low ≡ v.seen.moment.did.low → y.high ≡ v.seen.moment.did.high
            → AreOrdered u.seen.moment.did v.seen.moment.did → AreOrdered x y
        go a b p q (inl lt) = inl (omega (arith, b, p, lt))
        go a b p q (inr lt) = inr (omega (arith, a, q, lt))

    settle_all : (u : PlanUnit) (x : Timed PlanDeed) → x.did ≡ deed_of d u → interval_of x ≡ interval_seen u → (us : List PlanUnit) (xs : List (Timed PlanDeed))
        → did_of xs ≡ map (deed_of d) us → map interval_of xs ≡ map interval_seen us → AllOf (Settled u) us → AllOf (SettledAt x) xs
    settle_all u x e i us [] f j h = tt
    settle_all u x e i [] (y ∷ ys) f j h = absurd cc
    settle_all u x e i (v ∷ us) (y ∷ ys) f j h = (settle u v x y e (cons_head f) i (cons_head j) h.0, settle_all u x e i us ys (cons_tail f) (cons_tail j) h.1)

    settle_pairs : (us : List PlanUnit) (xs : List (Timed PlanDeed)) → did_of xs ≡ map (deed_of d) us → map interval_of xs ≡ map interval_seen us → EachPair Settled us
        → EachPair SettledAt xs
    settle_pairs us [] f j h = tt
    settle_pairs [] (x ∷ xs) f j h = absurd cc
    settle_pairs (u ∷ us) (x ∷ xs) f j h = (settle_all u x (cons_head f) (cons_head j) us xs (cons_tail f) (cons_tail j) h.0, settle_pairs us xs (cons_tail f) (cons_tail j) h.1)

    pub is_plan : IsPlan deeds (turns_of r) (plan_of r d)
    is_plan = record {
      turns = turns_are r d plain;
      ordered = settle_pairs (units_of r d) (times deeds (turns_of r) 0 (plan_of r d)) (did_times deeds (turns_of r) 0 (plan_of r d)) (intervals_are r d plain) settled;
    }
