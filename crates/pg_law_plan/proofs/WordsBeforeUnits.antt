-- Before each unit there is a word for each thread that is made.
use Rattle.std.proofs.Common.{◌≡◌, ℕ, Bool, true, false, List, [], ◌∷◌, length, suc, refl, sym, ap, ◌∙◌, subst}
use Rattle.std.specs.Prelude.{slice_get, if◌then◌else◌}
use Rattle.std.specs.List.{AllByRecursion as AllOf}
use Rattle.pg_run_memory.specs.Memory.{byte_at}
use Rattle.pg_law_threads.specs.Intervals.{done_after, timed, times}
use Rattle.pg_run_trace.specs.declared.step.Step.{Step}
use Rattle.pg_run_trace.specs.Races.{recorded}
use Rattle.pg_run.specs.Runs.{IsRun}
use Rattle.pg_run.specs.State.{State, initial}
use Rattle.pg_law_effects.specs.PermittedSteps.{none_taken, one_more}
use Rattle.pg_slice_rules.specs.Known.{SymbolicState, Seen, Taken, seen_from, start_of}
use Rattle.pg_slice_rules.specs.Moments.{calls_of, moments_from, thread_in}
use Rattle.pg_law_plan.specs.Order.{IsOrderedRun}
use Rattle.pg_law_plan.specs.Units.{ExtentsArePlain, Met, PlanUnit, ReferenceRun, behind, is_event_at, last_from, met_in, met_with, reference_of, states_from, turns_of, unit_of, units_from, units_of}
use Rattle.pg_law_plan.proofs.EachUnit.{behind_is}
use Rattle.pg_law_plan.proofs.ThreadWords.{words_kept}

module _ (r : ReferenceRun) (d : Taken) where
  -- facts on steps that were met, at units
  pub unit_facts : (P : Seen → State → Type 0) (last : State) (counts : ℕ → ℕ) (ms : List Met) → AllOf (λ (m : Met). P m.seen m.state) ms
      → AllOf (λ (u : PlanUnit). P u.seen u.state) (units_from r d last counts ms)
  unfolding units_from
  unit_facts P last counts [] h = tt
  unit_facts P last counts (m ∷ ms) h = go m.seen.live (λ counts. unit_facts P last counts ms h.1)
    where
      go : (b : Bool) → ((counts : ℕ → ℕ) → AllOf (λ (u : PlanUnit). P u.seen u.state) (units_from r d last counts ms)) →
          AllOf (λ (u : PlanUnit). P u.seen u.state) (if b then unit_of r d last counts m ms ∷ units_from r d last (one_more (thread_in m.seen.moment) counts) ms else units_from r d last counts ms)
      go true more = (h.0, more (one_more (thread_in m.seen.moment) counts))
      go false more = more counts

  pub first_words : length (start_of r.program).words ≡ length (initial r.program).locals
  unfolding initial
  first_words = refl

  met_words : (T : List ℕ) (k n : ℕ) (known : SymbolicState) (s z : State) (xs : List Step) → IsRun r.gated r.program r.input s xs z → length known.words ≡ length s.locals →
      AllOf (λ (x : Seen). x.live ≡ false → is_event_at x ≡ false) (seen_from (reference_of r) d n known (moments_from r.gated r.program r.input s (times recorded T k xs))) →
      AllOf (λ (m : Met). length m.seen.before.words ≡ length m.state.locals)
      (met_with (seen_from (reference_of r) d n known (moments_from r.gated r.program r.input s (times recorded T k xs))) (states_from r s xs))
  unfolding seen_from moments_from states_from
  met_words T k n known s z [] h e plain = tt
  met_words T k n known s z (x ∷ xs) h e plain =
      let b = behind_is r d s x h.0 in (
        e,
        met_words T (done_after (recorded.is_event x) k) (suc n) _ (behind r s x.thread.0) z xs (subst (λ (w : State). IsRun r.gated r.program r.input w xs z) (sym b) h.1)
            (words_kept (reference_of r) d n (record { did = timed recorded T k x; calls = calls_of (slice_get s.locals x.thread.0); bytes = byte_at s.memory }) known r.gated r.input s h.0
            plain.0 e ∙ sym (ap (λ (w : State). length w.locals) b)) plain.1,
      )

  pub all_words : IsOrderedRun r → ExtentsArePlain r d → AllOf (λ (u : PlanUnit). length u.seen.before.words ≡ length u.state.locals) (units_of r d)
  all_words o plain = unit_facts (λ (x : Seen) (s : State). length x.before.words ≡ length s.locals) (last_from r (initial r.program) r.steps) none_taken (met_in r d)
      (met_words (turns_of r) 0 0 (start_of r.program) (initial r.program) o.last r.steps o.run first_words plain)
