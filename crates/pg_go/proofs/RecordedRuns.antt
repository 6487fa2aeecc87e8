-- The full guided run along the schedule of a recorded run is good.
use Rattle.std.proofs.Common.{◌≡◌, ◌≢◌, ℕ, ℤ, List, [], ◌∷◌, map, drop, Bool, true, false, refl, sym, ap, ◌∙◌, subst, append-nil}
use Rattle.std.specs.Prelude.{if◌then◌else◌}
use Rattle.pg_rounds.specs.pg_ir.Program.{NumberedProgram}
use Rattle.pg_rounds.specs.pg_ir.declared.ids.InstrId.{InstrId}
use Rattle.pg_rounds.specs.pg_ir.declared.request.TrapName.{TrapName}
use Rattle.pg_rounds.specs.pg_run_thread.declared.action.Action.TheVariants as actions
use Rattle.pg_rounds.specs.pg_run_trace.declared.schedule.Schedule.{Schedule}
use Rattle.pg_rounds.specs.pg_run_trace.declared.step.Step.{Step}
use Rattle.pg_rounds.specs.pg_run_trace.declared.turn.Turn.{Turn}
use Rattle.pg_rounds.specs.pg_run_trace.Races.{schedule_of, with_gated}
use Rattle.pg_rounds.specs.pg_run.declared.guided_end.GuidedEnd.{GuidedEnd}
use Rattle.pg_rounds.specs.pg_run.declared.guided_end.GuidedEnd.TheVariants as ends
use Rattle.pg_rounds.specs.pg_run.FullGuided.{full_guided_of, gone_on, stops_early}
use Rattle.pg_rounds.specs.pg_run.Guided.{GuidedRun, guided_of}
use Rattle.pg_rounds.specs.pg_run.Permitted.{turns_left}
use Rattle.pg_rounds.specs.pg_run.State.{State, exit_value_of, next_of}
use Rattle.pg_rounds.proofs.of_pg_run.GuidedPermitted.{guided_permitted}
use Rattle.pg_rounds.specs.pg_law_runs.Cuts.{CanRun, IsFrontOf, IsOrderedAlong, steps_by}
use Rattle.pg_rounds.specs.pg_law_runs.LastTurns.{IsRecorded}
use Rattle.pg_rounds.specs.pg_law_order.Good.{IsGoodRun, replies_of, run_along}
use Rattle.pg_rounds.specs.pg_law_order.Schedules.{along}
use Rattle.pg_rounds.proofs.of_pg_law_order.FirstEvents.{fronts_same, replies_first, until_replies}
use Rattle.pg_rounds.proofs.of_pg_law_order.RecordedSchedules.{guides_as, up_to}

-- where the guided run exits, the full one goes no further
same_run : (p : NumberedProgram) (input : List ℤ) (s : Schedule) (value : ℤ) → (guided_of p input s.turns s.gated).end ≡ ends.Exit value
    → run_along p input s ≡ guided_of p input s.turns s.gated
unfolding full_guided_of
same_run p input s value e =
    let g = guided_of p input s.turns s.gated in
    ap (λ (b : Bool). if b then gone_on s.gated p input (drop g.turns s.turns) g else g) (ap stops_early e)

exit_arrives : (e : GuidedEnd) (value : ℤ) → e ≡ ends.Exit value → e ≢ ends.Strayed
exit_arrives e value is h = absurd cc

exit_is_no_trap : (e : GuidedEnd) (value : ℤ) (name : TrapName) (id : InstrId) → e ≡ ends.Exit value → e ≡ ends.Trap name id → ⊥
exit_is_no_trap e value name id is h = absurd cc

module _ (p : NumberedProgram) (input : List ℤ) (xs : List Step) (z : State) (can : CanRun p input) (h : IsRecorded p input xs z) where
  abbrev s : Schedule
  s = schedule_of xs

  abbrev g : GuidedRun
  g = guided_of p input (schedule_of xs).turns (schedule_of xs).gated

  same : run_along p input s ≡ g
  same = same_run p input s (exit_value_of z) (guides_as p input can xs z h).end

  ends_so : (run_along p input s).end ≡ ends.Exit (exit_value_of z)
  ends_so = ap (λ (r : GuidedRun). r.end) same ∙ (guides_as p input can xs z h).end

  -- it has the schedule's replies, since each thread does the same
  replies : replies_of g.trace ≡ s.replies
  replies =
      let all = (up_to p input can xs z h).ordered.permitted.in_order in
      let mine = (guided_permitted p input s.turns s.gated).in_order in
      let steps = (guides_as p input can xs z h).steps in
      fronts_same (replies_of g.trace) (replies_of (along s xs))
      (replies_first s.turns g.trace (along s xs) (turns_left s.turns g.trace, mine) (turns_left s.turns (along s xs), all) (λ t. ([], append-nil (steps_by t g.trace) ∙ steps t)))
      (replies_first s.turns (along s xs) g.trace (turns_left s.turns (along s xs), all) (turns_left s.turns g.trace, mine) (λ t. ([], append-nil (steps_by t (along s xs)) ∙ sym (steps t))))
      ∙ until_replies s.turns (map (with_gated s.gated) xs) refl

  pub recorded_good : IsGoodRun p input (schedule_of xs)
  recorded_good = record {
    arrives = exit_arrives (run_along p input s).end (exit_value_of z) ends_so;
    ordered = subst (λ (r : GuidedRun). IsOrderedAlong s.turns r.trace) (sym same) (guides_as p input can xs z h).ordered.ordered;
    objects = λ next later name id left e. absurd (exit_is_no_trap (run_along p input s).end (exit_value_of z) name id ends_so e);
    replies = ([], append-nil (replies_of (run_along p input s).trace) ∙ ap (λ (r : GuidedRun). replies_of r.trace) same ∙ replies);
  }
