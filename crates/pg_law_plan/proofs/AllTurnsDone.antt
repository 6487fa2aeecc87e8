-- The plan does all turns of the run.
use Rattle.std.proofs.Common.{◌≡◌, ℕ, ◌+◌, arith, Bool, true, false, List, [], ◌∷◌, length, map, refl, sym, ap, ◌∙◌, suc}
use Rattle.std.specs.Prelude.{if◌then◌else◌}
use Rattle.pg_law_threads.specs.Effects.{deeds}
use Rattle.pg_law_threads.specs.Intervals.{done_after, times, turns_done}
use Rattle.pg_law_threads.proofs.OwnTurns.{owners_done}
use Rattle.pg_run_trace.specs.declared.step.Step.{Step}
use Rattle.pg_run_trace.specs.Races.{recorded}
use Rattle.pg_run.specs.State.{State, initial}
use Rattle.pg_law_effects.specs.PermittedSteps.{none_taken, one_more}
use Rattle.pg_slice_rules.specs.Known.{SymbolicState, Taken, seen_from, start_of}
use Rattle.pg_slice_rules.specs.Moments.{moments_from, thread_in}
use Rattle.pg_law_plan.specs.Units.{ExtentsArePlain, Met, ReferenceRun, behind, deed_of, is_event_at, last_from, met_in, met_with, plan_of, reference_of, states_from, turns_of, unit_of, units_from}
use Rattle.pg_law_plan.proofs.UnitTurns.{AreTimed, all_timed, deed_event}

zero_plus : (n : ℕ) → 0 + n ≡ n
zero_plus n = omega arith

module _ (r : ReferenceRun) (d : Taken) where
  -- the turns that steps do
  abbrev met_turns : ℕ → List Met → ℕ
  met_turns k [] = k
  met_turns k (m ∷ ms) = met_turns (done_after (is_event_at m.seen) k) ms

  unit_turns : (T : List ℕ) (k : ℕ) (last : State) (counts : ℕ → ℕ) (ms : List Met) → AreTimed T k ms
      → turns_done deeds k (map (deed_of d) (units_from r d last counts ms)) ≡ met_turns k ms
  unfolding units_from
  unit_turns T k last counts [] h = refl
  unit_turns T k last counts (m ∷ ms) h = go m.seen.live refl (λ counts. unit_turns T (done_after (is_event_at m.seen) k) last counts ms h.1)
    where
      go : (b : Bool) → m.seen.live ≡ b → ((counts : ℕ → ℕ)
          → turns_done deeds (done_after (is_event_at m.seen) k) (map (deed_of d) (units_from r d last counts ms)) ≡ met_turns (done_after (is_event_at m.seen) k) ms) →
          turns_done deeds k (map (deed_of d) (if b then unit_of r d last counts m ms ∷ units_from r d last (one_more (thread_in m.seen.moment) counts) ms else units_from r d last counts ms))
          ≡ met_turns (done_after (is_event_at m.seen) k) ms
      go true e more = ap (λ (b : Bool). turns_done deeds (done_after b k) (map (deed_of d) (units_from r d last (one_more (thread_in m.seen.moment) counts) ms)))
          (deed_event r d (unit_of r d last counts m ms)) ∙ more (one_more (thread_in m.seen.moment) counts)
      go false e more = ap (λ (b : Bool). turns_done deeds (done_after b k) (map (deed_of d) (units_from r d last counts ms))) (sym (h.0.plain e)) ∙ more counts

  step_turns : (T : List ℕ) (k j n : ℕ) (known : SymbolicState) (s : State) (xs : List Step)
      → met_turns k (met_with (seen_from (reference_of r) d n known (moments_from r.gated r.program r.input s (times recorded T j xs))) (states_from r s xs)) ≡ turns_done recorded k xs
  unfolding seen_from moments_from states_from
  step_turns T k j n known s [] = refl
  step_turns T k j n known s (x ∷ xs) = step_turns T (done_after (recorded.is_event x) k) (done_after (recorded.is_event x) j) (suc n) _ (behind r s x.thread.0) xs

  pub plan_turns : ExtentsArePlain r d → turns_done deeds 0 (plan_of r d) ≡ length (turns_of r)
  plan_turns plain = unit_turns (turns_of r) 0 (last_from r (initial r.program) r.steps) none_taken (met_in r d) (all_timed r d plain)
      ∙ step_turns (turns_of r) 0 0 0 (start_of r.program) (initial r.program) r.steps ∙ owners_done recorded 0 r.steps ∙ zero_plus (length (turns_of r))
