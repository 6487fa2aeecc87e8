-- The full guided run of an admitted input along a recording's schedule.
use Rattle.std.proofs.Common.{◌≡◌, ◌≢◌, ℕ, ℤ, true, List, ◌∷◌, ◌++◌, length, map, arith, Option, None, refl, sym, ap, ◌∙◌, subst}
use Rattle.std.specs.Prelude.{filter}
use Rattle.std.specs.List.{filter_map}
use Rattle.pg_run_trace.specs.Steps.{events}
use Rattle.pg_region_accesses.specs.Accesses.{RootedList}
use Rattle.pg_ir.specs.Program.{NumberedProgram}
use Rattle.pg_law_threads.specs.Cuts.{kept}
use Rattle.pg_law_threads.specs.Effects.{deeds, effects}
use Rattle.pg_law_threads.specs.Intervals.{IsOrdered, did_of, times, turns_done}
use Rattle.pg_law_threads.proofs.EffectsOfSteps.{same_refl}
use Rattle.pg_law_threads.proofs.FirstOfKind.{events_first}
use Rattle.pg_law_threads.proofs.PlanLaw.{Stands}
use Rattle.pg_law_threads.proofs.TimedSteps.{did_times}
use Rattle.pg_run_trace.specs.declared.schedule.Schedule.{Schedule}
use Rattle.pg_run_trace.specs.declared.step.Step.{Step}
use Rattle.pg_run_trace.specs.Races.{recorded}
use Rattle.pg_run_trace.specs.declared.turn.Turn.{Turn}
use Rattle.pg_ir.specs.declared.ids.InstrId.{InstrId}
use Rattle.pg_ir.specs.declared.request.Request.{Request}
use Rattle.pg_ir.specs.declared.request.TrapName.{TrapName}
use Rattle.pg_run_thread.specs.declared.action.Action.TheVariants as actions
use Rattle.pg_run_objects.specs.Sync as sync
use Rattle.pg_run.specs.declared.guided_end.GuidedEnd.TheVariants as ends
use Rattle.pg_run.specs.FullGuided.{full_guided_of}
use Rattle.pg_run.specs.Guided.{GuidedRun, guided_of}
use Rattle.pg_run.specs.Permitted.{IsPermitted, end_before, turns_left}
use Rattle.pg_run.specs.State.{State, initial, next_of}
use Rattle.pg_law_effects.specs.PermittedSteps.{none_taken}
use Rattle.pg_law_effects.specs.Reached.{IsReached}
use Rattle.pg_law_effects.specs.Views.{local_at}
use Rattle.pg_law_effects.proofs.FullGuidedRun.{full_is}
use Rattle.pg_law_effects.proofs.PermittedStepByStep.{permitted_is}
use Rattle.pg_law_effects.proofs.ReachedStates.{reached_first}
use Rattle.pg_slice_rules.specs.Freeable.{Regions}
use Rattle.pg_slice_rules.specs.Known.{Taken, thread_of}
use Rattle.pg_slice_rules.specs.Moments.{thread_in}
use Rattle.pg_law_order.specs.Good.{IsGoodRun, replies_of}
use Rattle.pg_law_plan.specs.pg_law_runs.Cuts.{CanRun, IsAtCut, IsFrontOf, IsOrderedAlong, IsOrderedFull}
use Rattle.pg_law_plan.proofs.of_pg_law_runs.MaximalRuns.{drop_end}
use Rattle.pg_law_plan.proofs.of_pg_law_runs.PermittedRuns as law
use Rattle.pg_law_plan.specs.pg_law_runs.Answered.{Answered, AreFirst, answers}
use Rattle.pg_law_plan.specs.Fits.{IsAlikeFor}
use Rattle.pg_law_plan.specs.Likes.{IsCellLike, MovedThread, StandLike, like}
use Rattle.pg_law_plan.specs.Lists.{Has}
use Rattle.pg_law_plan.specs.Moves.{LooksTo, RunState, moved}
use Rattle.pg_law_plan.specs.Order.{IsOrderedRun}
use Rattle.pg_law_plan.specs.Units.{PlanDeed, PlanUnit, ReferenceRun, cell_known, is_instance, plan_of, plan_start, reference_of, standing_of, turns_of, units_of}
use Rattle.pg_law_plan.proofs.EachUnit.{IsUnit, all_units}
use Rattle.pg_law_plan.proofs.FirstStates.{begins_alike}
use Rattle.pg_law_plan.proofs.StepChecks.{IsGood, all_good}
use Rattle.pg_law_plan.proofs.UnbegunThreads.{starts_are_fresh}
use Rattle.pg_law_plan.proofs.ListMembers.{all_has}
use Rattle.pg_law_plan.proofs.KnownBeforeUnits.{plan_remembers}
use Rattle.pg_law_plan.proofs.SameReplies.{fit_answers, map_join, plan_answer, plan_answers}
use Rattle.pg_law_plan.proofs.UnitsArePlan.{at_units, is_plan}
use Rattle.pg_law_admitted.specs.Falls.{FallIntoMoves}
use Rattle.pg_law_admitted.specs.Free.{BeginsInstance, IsAnyMove, ReadsPaths}
use Rattle.pg_law_admitted.specs.Recorded.{Admits, IsOrderedReference, recording}
use Rattle.pg_law_admitted.proofs.AdmittedInputs.{IsAdmitted}
use Rattle.pg_law_admitted.proofs.InstanceStarts as begin
use Rattle.pg_law_admitted.proofs.RunsFallIntoMoves.{run_falls}
use Rattle.pg_law_admitted.proofs.MovesFollowPlan.{moves_follow, obeys}
use Rattle.pg_law_order.proofs.RepliesOfSteps.{first_replies, given, replies_are}
use Rattle.pg_law_admitted.proofs.RepliesAndTraps.{none_left, nothing, own_trap, trap_before}
use Rattle.pg_law_admitted.proofs.ReferenceRunJoins.{units_again}
use Rattle.pg_law_admitted.proofs.OrderFromMoves.{falls_answers, falls_ordered}
use Rattle.pg_law_admitted.proofs.PathReads.{paths_are_read}
use Rattle.pg_law_admitted.proofs.RecordedRuns.{ordered_run, over_last, own, plain, same_owners}
use Rattle.pg_law_admitted.proofs.TurnOwners as turns
use Rattle.pg_law_admitted.proofs.AskedTurns.{answers_length}
use Rattle.pg_law_admitted.proofs.GuidedRunsUnbroken.{full_unbroken}

module _ (p : NumberedProgram) (recorded_input input : List ℤ) (s : Schedule) (sums : ℕ → Option RootedList) (regions : Regions) (xs : List Step) (d : Taken)
    (k : IsOrderedReference p recorded_input s sums regions xs) (q : Admits p recorded_input s regions xs d input) where
  abbrev r : ReferenceRun
  r = recording p recorded_input s regions xs

  abbrev o : IsOrderedRun r
  o = ordered_run p recorded_input s sums regions xs d k

  pub begins : (u : PlanUnit) (a : RunState) (z : State) (c : ℕ → ℕ) → Has (units_of r d) u → is_instance d u.seen ≡ true → IsAlikeFor input d u a
      → LooksTo (thread_in u.seen.moment) a (moved z c) → IsReached p z → BeginsInstance r sums u z
  begins u a z c has free alike looks reached =
      let t = thread_in u.seen.moment in
      begin.begins r d input u (all_has (IsUnit r d) (units_of r d) u (all_units r d o) has) free z reached
      (subst (λ (l : MovedThread). StandLike input (standing_of (local_at u.state t) (thread_of u.seen.before t).calls) l.local) (looks.locals t refl) alike.thread.stands)
      o.can.program sums k.reference.regions_are k.reference.summaries
      (all_has (λ (v : PlanUnit). (v.seen.live ≡ true) × IsGood (reference_of r) d input v.seen) (units_of r d) u
      (at_units r d (IsGood (reference_of r) d input) (all_good input (reference_of r) d q.closed q.admitted)) has).1
      (all_has (ReadsPaths d) (units_of r d) u (paths_are_read r d o sums k.reference.regions_are k.reference.summaries) has free)
      (λ b h. subst (λ n. IsCellLike input (cell_known u.seen.before b) n) (looks.cells b) (alike.cells b h))

  pub is_admitted : IsAdmitted r d input sums s.turns
  is_admitted = record {
    reference = o;
    plain = plain p recorded_input s sums regions xs d k;
    closed = q.closed;
    admitted = q.admitted;
    small = q.small;
    same_turns = same_owners p recorded_input s sums regions xs d k;
    again = units_again p recorded_input s.turns s.gated sums regions xs k.reference d;
    own_turns = own p recorded_input s sums regions xs d k;
    over = over_last p recorded_input s sums regions xs d k;
    begins = begins;
  }

  abbrev f : GuidedRun
  f = full_guided_of p input s.turns s.gated

  pub fallen : FallIntoMoves r d input sums s.turns f.trace
  fallen =
      let h = plain p recorded_input s sums regions xs d k in
      let first = moved (initial p) none_taken in
      let w = run_falls r d input sums s.turns o h (starts_are_fresh r d o h) (plan_remembers r d o h) q.closed q.admitted q.small (same_owners p recorded_input s sums regions xs d k)
      (units_again p recorded_input s.turns s.gated sums regions xs k.reference d) begins
      f.trace (initial p) f.state first none_taken none_taken (begins_alike r o input) (reached_first p o.can.program o.can.bytes) (same_refl first)
      ((permitted_is p input s.turns s.gated f.trace f.state).0 (full_is p input s.turns s.gated).permitted) (full_unbroken p input s.turns s.gated) in
      record { moves = w.moves; are = w.are; fall = w.fall }

  abbrev first : RunState
  first = moved (initial p) none_taken

  -- its moves follow the plan
  abbrev Follow : Type 0
  Follow = Stands (like input) (turns_of r) (plan_start r) (plan_of r d) (IsAnyMove r d input sums s.turns) (is_plan r d o q.closed (plain p recorded_input s sums regions xs d k))
      (obeys r d input sums s.turns o (plain p recorded_input s sums regions xs d k) (starts_are_fresh r d o (plain p recorded_input s sums regions xs d k))
      (plan_remembers r d o (plain p recorded_input s sums regions xs d k)) q.closed q.admitted q.small (same_owners p recorded_input s sums regions xs d k)
      (units_again p recorded_input s.turns s.gated sums regions xs k.reference d))
      (effects first fallen.moves) (turns_done deeds 0 fallen.moves) fallen.moves (times deeds (turns_of r) 0 fallen.moves)

  follow : Follow
  follow =
      let h = plain p recorded_input s sums regions xs d k in
      moves_follow r d input sums s.turns o h (starts_are_fresh r d o h) (plan_remembers r d o h) q.closed q.admitted q.small (same_owners p recorded_input s sums regions xs d k)
      (units_again p recorded_input s.turns s.gated sums regions xs k.reference d) first (begins_alike r o input) fallen.moves fallen.are

  pub ordered : IsOrderedAlong s.turns f.trace
  ordered = subst (λ (T : List ℕ). IsOrdered recorded T f.trace) (sym (same_owners p recorded_input s sums regions xs d k))
      (falls_ordered (turns_of r) f.trace fallen.moves fallen.fall follow.settled)

  -- what it has answered by then
  abbrev done : List PlanDeed
  done = filter deeds.is_event (did_of (kept follow.holds.cut.marks))

  mine : answers f.trace ≡ map plan_answer done
  mine = sym (falls_answers f.trace fallen.moves fallen.fall) ∙ fit_answers input done (filter deeds.is_event fallen.moves) follow.performs.events

  pub first_answers : AreFirst (answers f.trace) (answers xs)
  first_answers =
      let h = plain p recorded_input s sums regions xs d k in
      let front = events_first (turns_of r) (plan_of r d) (is_plan r d o q.closed h) (turns_done deeds 0 fallen.moves) follow.holds.cut.marks follow.holds.cut.is_whole follow.holds.cut.below in (
        map plan_answer front.0,
        ap (λ (l : List Answered). l ++ map plan_answer front.0) mine ∙ map_join plan_answer done front.0 ∙ ap (map plan_answer) front.1
            ∙ ap (λ (l : List PlanDeed). map plan_answer (filter deeds.is_event l)) (ap did_of follow.holds.cut.is_whole ∙ did_times deeds (turns_of r) 0 (plan_of r d)) ∙ plan_answers r d h,
      )

  pub replies : IsFrontOf (replies_of f.trace) s.replies
  replies = subst (λ (l : List ℕ). IsFrontOf (replies_of f.trace) l) k.replies (first_replies f.trace xs first_answers)

  -- the guided run doesn't stray
  pub no_stray : (guided_of p input s.turns s.gated).end ≢ ends.Strayed
  no_stray = turns.no_stray r d input sums s.turns is_admitted

  -- no check on the objects fails at what the owner of the next turn asks
  checks_hold : (u : Turn) (us : List Turn) (a : Request) → turns_left s.turns f.trace ≡ u ∷ us → next_of p f.state u.thread.0 ≡ actions.Event a
      → sync.check f.state.sync u.thread.0 a ≡ None
  checks_hold u us a left e = turns.unchecked r d input sums s.turns is_admitted f.trace f.state (full_is p input s.turns s.gated).permitted (full_unbroken p input s.turns s.gated) u us left a e

  end_is : f.end ≡ (guided_of p input s.turns s.gated).end
  end_is = (full_is p input s.turns s.gated).end

  objects : (next : Turn) (later : List Turn) (name : TrapName) (id : InstrId) → turns_left s.turns f.trace ≡ next ∷ later → f.end ≡ ends.Trap name id
      → next_of p f.state next.thread.0 ≡ actions.Trap name
  objects next later name id left e =
      let full = ((full_is p input s.turns s.gated).full no_stray).1 in
      let before : end_before p f.trace f.state (next ∷ later) ≡ ends.Trap name id = ap (end_before p f.trace f.state) (sym left) ∙ full ∙ sym end_is ∙ e in
      own_trap f.state next.thread.0 (next_of p f.state next.thread.0) name (λ a i. checks_hold next later a left i) (trap_before p f.trace f.state next later name id before)

  pub good_run : IsGoodRun p input s
  good_run = record { arrives = λ e. no_stray (sym end_is ∙ e); ordered = ordered; objects = objects; replies = replies }

  -- ---- by the laws on permitted runs

  can : CanRun p input
  can = record { program = o.can.program; bytes = o.can.bytes; small = q.small }

  pub full : IsOrderedFull p input s.turns s.gated f.trace f.state
  full = record { permitted = (full_is p input s.turns s.gated).permitted; is_full = ((full_is p input s.turns s.gated).full no_stray).0; ordered = ordered }

  pub at_cut : (ys : List Step) (z : State) → IsPermitted p input s.turns s.gated ys z → IsAtCut p input s.turns s.gated f.trace ys z
  at_cut ys z h = law.at_cut p input s.turns s.gated can f.trace f.state full ys z h

  pub permitted_ordered : (ys : List Step) (z : State) → IsPermitted p input s.turns s.gated ys z → IsOrderedAlong s.turns ys
  permitted_ordered ys z h = law.ordered p input s.turns s.gated can f.trace f.state full ys z h

  -- where it exits it has had each reply
  pub all_replies : (value : ℤ) → f.end ≡ ends.Exit value → replies_of f.trace ≡ s.replies
  all_replies value e =
      let whole = ((full_is p input s.turns s.gated).full no_stray).1 in
      let left = none_left p f.trace f.state (turns_left s.turns f.trace) value (whole ∙ sym end_is ∙ e) in
      let a = answers_length f.trace in
      let b = answers_length xs in
      let c = ap length (own p recorded_input s sums regions xs d k) in
      let n = drop_end (length (events f.trace)) s.turns left in
      replies_are f.trace ∙ ap (filter_map given) (nothing (answers f.trace) (answers xs) first_answers.0 first_answers.1 (omega (arith, a, b, c, n))) ∙ sym (replies_are xs) ∙ k.replies
