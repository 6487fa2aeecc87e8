-- A run on an admitted input does the first turns of the reference run, with the same replies.
use Rattle.std.proofs.Common.{◌≡◌, ℕ, ℤ, ◌++◌, suc, cond, Bool, true, false, List, [], ◌∷◌, map, Option, Some, None, refl, sym, ap, ◌∙◌}
use Rattle.std.specs.Prelude.{filter, is_some, if◌then◌else◌}
use Rattle.pg_ir.specs.declared.ids.InstrId.{InstrId}
use Rattle.pg_ir.specs.Program.{NumberedProgram}
use Rattle.pg_law_threads.specs.Effects.{deeds}
use Rattle.pg_law_threads.specs.Intervals.{done_after, times}
use Rattle.pg_law_threads.specs.Plans.{FitEach}
use Rattle.pg_run_trace.specs.declared.step.Step.{Step}
use Rattle.pg_run_trace.specs.Races.{recorded}
use Rattle.pg_run_trace.specs.Steps.{event_of, events, happening_in, turn_at}
use Rattle.pg_run_trace.specs.declared.step.Happening.{Happening}
use Rattle.pg_run_trace.specs.declared.turn.Turn.{Turn}
use Rattle.std.specs.List.{cons_option}
use Rattle.pg_run.specs.State.{State, initial}
use Rattle.pg_law_effects.specs.Effect.{effect, effect_of}
use Rattle.pg_law_effects.specs.PermittedSteps.{none_taken, one_more}
use Rattle.pg_law_runs.proofs.DeedDependence.{some_turn}
use Rattle.pg_slice_rules.specs.Known.{SymbolicState, Taken, seen_from, start_of}
use Rattle.pg_slice_rules.specs.Moments.{moments_from, thread_in}
use Rattle.pg_law_runs.specs.Answered.{Answered, answered, answers}
use Rattle.pg_law_plan.specs.Likes.{like}
use Rattle.pg_law_plan.specs.Moves.{RunDeed, deed_moved}
use Rattle.pg_law_plan.specs.Units.{ExtentsArePlain, Met, PlanDeed, ReferenceRun, behind, deed_of, is_event_at, last_from, met_in, met_with, plan_of, reference_of, states_from, turns_of}
use Rattle.pg_law_plan.specs.Units.{unit_of, units_from}
use Rattle.pg_law_plan.proofs.StepsAreMoves.{moved_by}
use Rattle.pg_law_plan.proofs.UnitTurns.{AreTimed, all_timed, deed_event, is_some_if}

abbrev pub plan_answer : PlanDeed → Answered
plan_answer p = answered p.told

abbrev pub run_answer : RunDeed → Answered
run_answer d = answered d.told

-- those that fit answer alike
pub fit_answers : (input : List ℤ) (ps : List PlanDeed) (ds : List RunDeed) → FitEach (like input) ps ds → map run_answer ds ≡ map plan_answer ps
fit_answers input [] [] h = refl
fit_answers input [] (d ∷ ds) h = absurd h
fit_answers input (p ∷ ps) [] h = absurd h
fit_answers input (p ∷ ps) (d ∷ ds) h =
    let first : run_answer d ≡ plan_answer p = ap (λ t. record { turn = t; reply = (run_answer d).reply }) h.0.told.turn
    ∙ ap (λ n. record { turn = (plan_answer p).turn; reply = n }) h.0.told.reply in
    ap (λ (a : Answered). a ∷ map run_answer ds) first ∙ ap (λ (l : List Answered). plan_answer p ∷ l) (fit_answers input ps ds h.1)

module _ (gated : List InstrId) (p : NumberedProgram) (input : List ℤ) where
  pub moved_answers : (s : State) (counts : ℕ → ℕ) (xs : List Step) → map run_answer (filter deeds.is_event (moved_by gated p input s counts xs)) ≡ answers xs
  unfolding moved_by
  moved_answers s counts [] = refl
  moved_answers s counts (x ∷ xs) =
      let later = moved_by gated p input (effect s (effect_of p input s x.thread.0)) (one_more x.thread.0 counts) xs in
      ap (λ (b : Bool). map run_answer (cond b (deed_moved p input s counts x ∷ filter deeds.is_event later) (filter deeds.is_event later)))
      (is_some_if (is_some (event_of x)) _ ∙ some_turn x (happening_in x.kind))
      ∙ go (recorded.is_event x) (filter deeds.is_event later) (moved_answers (effect s (effect_of p input s x.thread.0)) (one_more x.thread.0 counts) xs)
    where
      go : (b : Bool) (ds : List RunDeed) → map run_answer ds ≡ answers xs
          → map run_answer (cond b (deed_moved p input s counts x ∷ ds) ds) ≡ map answered (cond b (x ∷ filter recorded.is_event xs) (filter recorded.is_event xs))
      go true ds e = ap (λ (l : List Answered). answered x ∷ l) e
      go false ds e = e

module _ (r : ReferenceRun) (d : Taken) where
  abbrev met_answers : List Met → List Answered
  met_answers [] = []
  met_answers (m ∷ ms) = cond (is_event_at m.seen) (answered m.seen.moment.did.did ∷ met_answers ms) (met_answers ms)

  unit_answers : (T : List ℕ) (k : ℕ) (last : State) (counts : ℕ → ℕ) (ms : List Met) → AreTimed T k ms
      → map plan_answer (filter deeds.is_event (map (deed_of d) (units_from r d last counts ms))) ≡ met_answers ms
  unfolding units_from
  unit_answers T k last counts [] h = refl
  unit_answers T k last counts (m ∷ ms) h = go m.seen.live refl (λ counts. unit_answers T (done_after (is_event_at m.seen) k) last counts ms h.1)
    where
      each : (b : Bool) (q : PlanDeed) (ds : List PlanDeed) → plan_answer q ≡ answered m.seen.moment.did.did → map plan_answer ds ≡ met_answers ms
          → map plan_answer (cond b (q ∷ ds) ds) ≡ cond b (answered m.seen.moment.did.did ∷ met_answers ms) (met_answers ms)
      each true q ds e k = ap (λ (a : Answered). a ∷ map plan_answer ds) e ∙ ap (λ (l : List Answered). answered m.seen.moment.did.did ∷ l) k
      each false q ds e k = k

      go : (b : Bool) → m.seen.live ≡ b → ((counts : ℕ → ℕ) → map plan_answer (filter deeds.is_event (map (deed_of d) (units_from r d last counts ms))) ≡ met_answers ms) →
          map plan_answer (filter deeds.is_event (map (deed_of d)
          (if b then unit_of r d last counts m ms ∷ units_from r d last (one_more (thread_in m.seen.moment) counts) ms else units_from r d last counts ms))) ≡ met_answers (m ∷ ms)
      go true e more =
          let u = unit_of r d last counts m ms in
          let later = filter deeds.is_event (map (deed_of d) (units_from r d last (one_more (thread_in m.seen.moment) counts) ms)) in
          ap (λ (b : Bool). map plan_answer (cond b (deed_of d u ∷ later) later)) (deed_event r d u)
          ∙ each (is_event_at m.seen) (deed_of d u) later refl (more (one_more (thread_in m.seen.moment) counts))
      go false e more = more counts ∙ sym (ap (λ (b : Bool). cond b (answered m.seen.moment.did.did ∷ met_answers ms) (met_answers ms)) (h.0.plain e))

  step_answers : (T : List ℕ) (k n : ℕ) (known : SymbolicState) (s : State) (xs : List Step)
      → met_answers (met_with (seen_from (reference_of r) d n known (moments_from r.gated r.program r.input s (times recorded T k xs))) (states_from r s xs)) ≡ answers xs
  unfolding seen_from moments_from states_from
  step_answers T k n known s [] = refl
  step_answers T k n known s (x ∷ xs) = go (recorded.is_event x) _ (step_answers T (done_after (recorded.is_event x) k) (suc n) _ (behind r s x.thread.0) xs)
    where
      go : (b : Bool) (l : List Answered) → l ≡ answers xs → cond b (answered x ∷ l) l ≡ map answered (cond b (x ∷ filter recorded.is_event xs) (filter recorded.is_event xs))
      go true l e = ap (λ (l : List Answered). answered x ∷ l) e
      go false l e = e

  pub plan_answers : ExtentsArePlain r d → map plan_answer (filter deeds.is_event (plan_of r d)) ≡ answers r.steps
  plan_answers plain = unit_answers (turns_of r) 0 (last_from r (initial r.program) r.steps) none_taken (met_in r d) (all_timed r d plain)
      ∙ step_answers (turns_of r) 0 0 (start_of r.program) (initial r.program) r.steps

pub map_join : {A B : Type 0} (f : A → B) (xs ys : List A) → map f xs ++ map f ys ≡ map f (xs ++ ys)
map_join f [] ys = refl
map_join f (x ∷ xs) ys = ap (λ l. f x ∷ l) (map_join f xs ys)

-- the turns of what is answered are the events
pub answered_turns : (xs : List Step) → map (λ (a : Answered). a.turn) (answers xs) ≡ map (λ (u : Turn). Some u) (events xs)
answered_turns [] = refl
answered_turns (x ∷ xs) = go (happening_in x.kind) refl (answered_turns xs)
  where
    go : (h : Option Happening) → happening_in x.kind ≡ h → map (λ (a : Answered). a.turn) (answers xs) ≡ map (λ (u : Turn). Some u) (events xs) →
        map (λ (a : Answered). a.turn) (map answered (cond (is_some (happening_in x.kind)) (x ∷ filter recorded.is_event xs) (filter recorded.is_event xs)))
        ≡ map (λ (u : Turn). Some u) (cons_option (turn_at x (happening_in x.kind)) (events xs))
    go None e ih = rw e ih
    go (Some v) e ih = rw e (ap (λ (l : List (Option Turn)). event_of x ∷ l) ih ∙ ap (λ (h : Option Happening). turn_at x h ∷ map (λ (u : Turn). Some u) (events xs)) e)
