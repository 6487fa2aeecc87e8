-- An unbroken permitted run on an admitted input, at its end: the moves into which it falls, what is done and what was answered.
use Rattle.std.specs.List.{filter}
use Rattle.std.proofs.Common.{◌∙◌, ◌≡◌, ◌≤◌, List, None, Option, Some, ap, arith, length, map, sym, true, ℕ, ℤ}
use Rattle.pg_law_threads.specs.Cuts.{Mark, kept, whole}
use Rattle.pg_law_threads.specs.Effects.{deeds, effects}
use Rattle.pg_law_threads.specs.Intervals.{Timed, did_of, times, turns_done}
use Rattle.pg_law_threads.proofs.EffectsOfSteps.{same_refl}
use Rattle.pg_law_threads.proofs.PlanLaw.{Stands}
use Rattle.pg_law_threads.proofs.PlanLaw as follows
use Rattle.pg_law_threads.proofs.TimedSteps.{did_times}
use Rattle.pg_run_objects.specs.Sync as sync
use Rattle.pg_run_trace.specs.Steps.{events}
use Rattle.pg_run_trace.specs.declared.step.Step.{Step}
use Rattle.pg_run_trace.specs.declared.turn.Turn.{Turn}
use Rattle.pg_region_accesses.specs.Accesses.{RootedList}
use Rattle.pg_run.specs.Permitted.{IsPermitted}
use Rattle.pg_run.specs.State.{State, initial}
use Rattle.pg_slice_rules.specs.Known.{Taken}
use Rattle.pg_law_effects.specs.PermittedSteps.{none_taken}
use Rattle.pg_law_effects.specs.Reached.{IsReached}
use Rattle.pg_law_effects.specs.Views.{Objects}
use Rattle.pg_law_effects.proofs.PermittedStepByStep.{permitted_is}
use Rattle.pg_law_effects.proofs.ReachedStates.{reached_first, reached_run}
use Rattle.pg_law_plan.specs.pg_law_runs.Answered.{Answered, answers}
use Rattle.pg_law_plan.specs.Likes.{like}
use Rattle.pg_law_plan.specs.Moves.{RunDeed, RunState, moved}
use Rattle.pg_law_plan.specs.Units.{PlanDeed, ReferenceRun, plan_of, plan_start, turns_of}
use Rattle.pg_law_plan.proofs.FirstStates.{begins_alike}
use Rattle.pg_law_plan.proofs.AllTurnsDone as counted
use Rattle.pg_law_plan.proofs.UnbegunThreads.{starts_are_fresh}
use Rattle.pg_law_plan.proofs.KnownBeforeUnits.{plan_leaves, plan_remembers}
use Rattle.pg_law_plan.proofs.SameReplies.{fit_answers, plan_answer, plan_answers, run_answer}
use Rattle.pg_law_plan.proofs.UnitsArePlan.{is_plan}
use Rattle.pg_law_admitted.specs.Free.{IsAnyMove}
use Rattle.pg_law_admitted.specs.Unbroken.{IsUnbroken}
use Rattle.pg_law_admitted.proofs.AdmittedInputs.{IsAdmitted}
use Rattle.pg_law_admitted.proofs.AskedTurns.{answers_length, count_turns, map_length, owners_length}
use Rattle.pg_law_admitted.proofs.RunsFallIntoMoves.{run_falls}
use Rattle.pg_law_admitted.proofs.MovesFollowPlan.{moves_follow, obeys}
use Rattle.pg_law_admitted.proofs.MovesAsPortions.{Falls}
use Rattle.pg_law_admitted.proofs.OrderFromMoves.{falls_answers}

module _ (r : ReferenceRun) (d : Taken) (input : List ℤ) (sums : ℕ → Option RootedList) (turns : List Turn) (given : IsAdmitted r d input sums turns)
    (xs : List Step) (z : State) (h : IsPermitted r.program input turns r.gated xs z) (unbroken : IsUnbroken xs) where
  open given use {reference, plain, closed, admitted, small, same_turns, again, over, begins}

  abbrev first : RunState
  first = moved (initial r.program) none_taken

  pub fallen : Falls r d input sums turns (λ t. None) (initial r.program) first 0 xs z
  fallen = run_falls r d input sums turns reference plain (starts_are_fresh r d reference plain) (plan_remembers r d reference plain) closed admitted small same_turns again begins xs
      (initial r.program) z first none_taken none_taken (begins_alike r reference input) (reached_first r.program reference.can.program reference.can.bytes) (same_refl first)
      ((permitted_is r.program input turns r.gated xs z).0 h) unbroken

  abbrev ds : List RunDeed
  ds = fallen.moves

  abbrev g : ℕ
  g = turns_done deeds 0 fallen.moves

  pub stands : Stands (like input) (turns_of r) (plan_start r) (plan_of r d) (IsAnyMove r d input sums turns) (is_plan r d reference closed plain)
      (obeys r d input sums turns reference plain (starts_are_fresh r d reference plain) (plan_remembers r d reference plain) closed admitted small same_turns again) (effects first fallen.moves)
      (turns_done deeds 0 fallen.moves) fallen.moves (times deeds (turns_of r) 0 fallen.moves)
  stands = moves_follow r d input sums turns reference plain (starts_are_fresh r d reference plain) (plan_remembers r d reference plain) closed admitted small same_turns again first
      (begins_alike r reference input) fallen.moves fallen.are

  abbrev marks : List (Mark (Timed PlanDeed))
  marks = stands.holds.cut.marks

  pub done_is : g ≡ length (events xs)
  done_is =
      let n = count_turns 0 fallen.moves in
      let a = map_length run_answer (filter deeds.is_event fallen.moves) in
      let b = ap length (falls_answers xs fallen.moves fallen.fall) in
      let c = answers_length xs in
      omega (arith, n, a, b, c)

  pub reached : IsReached r.program z
  reached = reached_run r.gated r.program input (initial r.program) z xs reference.can.program small (reached_first r.program reference.can.program reference.can.bytes) h.run

  pub plan_parts : did_of (whole marks) ≡ plan_of r d
  plan_parts = ap did_of stands.holds.cut.is_whole ∙ did_times deeds (turns_of r) 0 (plan_of r d)

  -- what is answered
  pub mine : answers xs ≡ map plan_answer (filter deeds.is_event (did_of (kept marks)))
  mine = sym (falls_answers xs fallen.moves fallen.fall) ∙ fit_answers input (filter deeds.is_event (did_of (kept marks))) (filter deeds.is_event ds) stands.performs.events

  pub theirs : map plan_answer (filter deeds.is_event (did_of (whole marks))) ≡ answers r.steps
  theirs = ap (λ (l : List PlanDeed). map plan_answer (filter deeds.is_event l)) plan_parts ∙ plan_answers r d plain

  -- all of these
  abbrev pub facts : record {
    first : RunState;
    fallen : Falls r d input sums turns (λ t. None) (initial r.program) first 0 xs z;
    stands : Stands (like input) (turns_of r) (plan_start r) (plan_of r d) (IsAnyMove r d input sums turns) (is_plan r d reference closed plain)
        (obeys r d input sums turns reference plain (starts_are_fresh r d reference plain) (plan_remembers r d reference plain) closed admitted small same_turns again) (effects first fallen.moves)
        (turns_done deeds 0 fallen.moves) fallen.moves
        (times deeds (turns_of r) 0 fallen.moves);
    done_is : g ≡ length (events xs);
    reached : IsReached r.program z;
    plan_parts : did_of (whole marks) ≡ plan_of r d;
    mine : answers xs ≡ map plan_answer (filter deeds.is_event (did_of (kept marks)));
    theirs : map plan_answer (filter deeds.is_event (did_of (whole marks))) ≡ answers r.steps;
  }
  facts = record { first = first; fallen = fallen; stands = stands; done_is = done_is; reached = reached; plan_parts = plan_parts; mine = mine; theirs = theirs }

  abbrev turn_in : Answered → Option Turn
  turn_in a = a.turn

  abbrev as_some : Turn → Option Turn
  as_some u = Some u

  -- ---- behind all turns

  pub finished : length turns ≤ length (events xs) → sync.over z.sync ≡ true
  finished k =
      let a = owners_length turns in
      let b = ap length same_turns in
      let c = counted.plan_turns r d plain in
      let le : turns_done deeds 0 (plan_of r d) ≤ g = (let n = done_is in omega (arith, a, b, c, k, n)) in
      ap (λ (q : Objects). sync.over q.sync) (sym fallen.objects
      ∙ sym (follows.last_objects (like input) (turns_of r) (plan_start r) (plan_of r d) (IsAnyMove r d input sums turns) (is_plan r d reference closed plain)
      (obeys r d input sums turns reference plain (starts_are_fresh r d reference plain) (plan_remembers r d reference plain) closed admitted small same_turns again)
      (effects first ds) g stands.holds le)
      ∙ plan_leaves r d reference plain) ∙ over
