-- The events among the units are the turns of the run.
use Rattle.std.proofs.Common.{◌≡◌, ℕ, Bool, true, false, List, [], ◌∷◌, map, Option, Some, None, refl, sym, ap, ◌∙◌, subst, suc}
use Rattle.std.specs.Prelude.{is_some, slice_get, ⊤, if◌then◌else◌}
use Rattle.std.specs.List.{AllByRecursion as AllOf}
use Rattle.pg_law_threads.specs.Effects.{deeds}
use Rattle.pg_law_threads.specs.Intervals.{AreTurns, done_after, last_before, next_from, timed, times}
use Rattle.pg_law_threads.proofs.OwnTurns.{own_turns}
use Rattle.pg_run_trace.specs.declared.step.Step.{Step}
use Rattle.pg_run_trace.specs.Races.{recorded}
use Rattle.pg_run.specs.State.{State, initial}
use Rattle.pg_law_effects.specs.PermittedSteps.{none_taken, one_more}
use Rattle.pg_slice_rules.specs.Known.{SymbolicState, Seen, Taken, seen_from, start_of}
use Rattle.pg_slice_rules.specs.Moments.{moments_from, thread_in}
use Rattle.pg_law_plan.specs.Order.{Interval, interval_of, interval_seen}
use Rattle.pg_law_plan.specs.Units.{ExtentsArePlain, Met, PlanUnit, ReferenceRun, behind, deed_of, is_event_at, last_from, met_in, met_with, plan_of, reference_of, states_from, turns_of}
use Rattle.pg_law_plan.specs.Units.{unit_of, units_from, units_of}

pub is_some_if : {A : Type 0} (b : Bool) (x : A) → is_some (if◌then◌else◌ {A = Option A} b (Some x) None) ≡ b
is_some_if true x = refl
is_some_if false x = refl

-- a step among the turns from turn k on
pub record IsTimed (T : List ℕ) (k : ℕ) (x : Seen) : Type 0 where
  pub did : x.moment.did ≡ timed recorded T k x.moment.did.did
  pub turn : is_event_at x ≡ true → slice_get T k ≡ Some (thread_in x.moment)
  pub plain : x.live ≡ false → is_event_at x ≡ false

abbrev pub AreTimed : List ℕ → ℕ → List Met → Type 0
AreTimed T k [] = ⊤
AreTimed T k (m ∷ ms) = IsTimed T k m.seen × AreTimed T (done_after (is_event_at m.seen) k) ms

module _ (r : ReferenceRun) (d : Taken) where
  met_timed : (T : List ℕ) (k n : ℕ) (known : SymbolicState) (s : State) (xs : List Step) → AreTurns recorded T k xs →
      AllOf (λ (x : Seen). x.live ≡ false → is_event_at x ≡ false) (seen_from (reference_of r) d n known (moments_from r.gated r.program r.input s (times recorded T k xs))) →
      AreTimed T k (met_with (seen_from (reference_of r) d n known (moments_from r.gated r.program r.input s (times recorded T k xs))) (states_from r s xs))
  unfolding seen_from moments_from states_from
  met_timed T k n known s [] t h = tt
  met_timed T k n known s (x ∷ xs) t h = (record { did = refl; turn = t.0; plain = h.0 }, met_timed T (done_after (recorded.is_event x) k) (suc n) _ (behind r s x.thread.0) xs t.1 h.1)

  pub all_timed : ExtentsArePlain r d → AreTimed (turns_of r) 0 (met_in r d)
  all_timed h = met_timed (turns_of r) 0 0 (start_of r.program) (initial r.program) r.steps (own_turns recorded r.steps) h

  -- ---- units

  pub deed_event : (u : PlanUnit) → deeds.is_event (deed_of d u) ≡ is_event_at u.seen
  deed_event u = is_some_if (is_event_at u.seen) u.objects

  unit_turns : (T : List ℕ) (k : ℕ) (last : State) (counts : ℕ → ℕ) (ms : List Met) → AreTimed T k ms → AreTurns deeds T k (map (deed_of d) (units_from r d last counts ms))
  unfolding units_from
  unit_turns T k last counts [] h = tt
  unit_turns T k last counts (m ∷ ms) h = go m.seen.live refl (λ counts. unit_turns T (done_after (is_event_at m.seen) k) last counts ms h.1)
    where
      go : (b : Bool) → m.seen.live ≡ b → ((counts : ℕ → ℕ) → AreTurns deeds T (done_after (is_event_at m.seen) k) (map (deed_of d) (units_from r d last counts ms))) →
          AreTurns deeds T k (map (deed_of d) (if b then unit_of r d last counts m ms ∷ units_from r d last (one_more (thread_in m.seen.moment) counts) ms else units_from r d last counts ms))
      go true e more = (
        (λ v. h.0.turn (sym (deed_event (unit_of r d last counts m ms)) ∙ v)),
        subst (λ (b : Bool). AreTurns deeds T (done_after b k) (map (deed_of d) (units_from r d last (one_more (thread_in m.seen.moment) counts) ms)))
            (sym (deed_event (unit_of r d last counts m ms))) (more (one_more (thread_in m.seen.moment) counts)),
      )
      go false e more = subst (λ (b : Bool). AreTurns deeds T (done_after b k) (map (deed_of d) (units_from r d last counts ms))) (h.0.plain e) (more counts)

  unit_intervals : (T : List ℕ) (k : ℕ) (last : State) (counts : ℕ → ℕ) (ms : List Met) → AreTimed T k ms →
      map interval_of (times deeds T k (map (deed_of d) (units_from r d last counts ms))) ≡ map interval_seen (units_from r d last counts ms)
  unfolding units_from
  unit_intervals T k last counts [] h = refl
  unit_intervals T k last counts (m ∷ ms) h = go m.seen.live refl (λ counts. unit_intervals T (done_after (is_event_at m.seen) k) last counts ms h.1)
    where
      one : (u : PlanUnit) → u.seen ≡ m.seen → interval_of (timed deeds T k (deed_of d u)) ≡ interval_seen u
      one u e =
          let t : IsTimed T k u.seen = subst (IsTimed T k) (sym e) h.0 in
          ap (λ (b : Bool). record { low = last_before (thread_in u.seen.moment) T (done_after b k); high = next_from (thread_in u.seen.moment) T k }) (deed_event u) ∙ sym (ap interval_of t.did)

      go : (b : Bool) → m.seen.live ≡ b → ((counts : ℕ → ℕ)
          → map interval_of (times deeds T (done_after (is_event_at m.seen) k) (map (deed_of d) (units_from r d last counts ms))) ≡ map interval_seen (units_from r d last counts ms)) →
          map interval_of (times deeds T k (map (deed_of d)
          (if b then unit_of r d last counts m ms ∷ units_from r d last (one_more (thread_in m.seen.moment) counts) ms else units_from r d last counts ms)))
          ≡ map interval_seen (if b then unit_of r d last counts m ms ∷ units_from r d last (one_more (thread_in m.seen.moment) counts) ms else units_from r d last counts ms)
      go true e more =
          let u = unit_of r d last counts m ms in
          let later = units_from r d last (one_more (thread_in m.seen.moment) counts) ms in
          ap (λ (b : Bool). interval_of (timed deeds T k (deed_of d u)) ∷ map interval_of (times deeds T (done_after b k) (map (deed_of d) later))) (deed_event u)
          ∙ ap (λ (l : List Interval). interval_of (timed deeds T k (deed_of d u)) ∷ l) (more (one_more (thread_in m.seen.moment) counts))
          ∙ ap (λ (i : Interval). i ∷ map interval_seen later) (one u refl)
      go false e more = ap (λ (b : Bool). map interval_of (times deeds T (done_after b k) (map (deed_of d) (units_from r d last counts ms)))) (sym (h.0.plain e)) ∙ more counts

  pub turns_are : ExtentsArePlain r d → AreTurns deeds (turns_of r) 0 (plan_of r d)
  turns_are h = unit_turns (turns_of r) 0 (last_from r (initial r.program) r.steps) none_taken (met_in r d) (all_timed h)

  pub intervals_are : ExtentsArePlain r d → map interval_of (times deeds (turns_of r) 0 (plan_of r d)) ≡ map interval_seen (units_of r d)
  intervals_are h = unit_intervals (turns_of r) 0 (last_from r (initial r.program) r.steps) none_taken (met_in r d) (all_timed h)
