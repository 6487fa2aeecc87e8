use Rattle.std.proofs.Common.{◌∷◌, [], ◌++◌, sym, ap, ◌∙◌}
use Rattle.pg_run_trace.specs.declared.step.Step.{Step}
use Rattle.pg_run_trace.specs.Races.{reply_in, with_gated}
use Rattle.pg_run_trace.specs.Steps.{event_of}
use Rattle.pg_schedule.proofs.ChosenSteps.{chosen_some, chosen_none}
use Rattle.pg_schedule.proofs.schedule.turns.Goals as goal
use Rattle.pg_schedule.proofs.schedule.turns.Goals.{in-Some+in_ok-push, in_default}

pub loop-i-preserved : goal.loop-i-preserved
loop-i-preserved c = elim c.match-event.branch [
  | in-Some+in_ok-push w ↦ ap (λ v. v.items) w.turns-is ∙ w.in_ok-push.ensures.items ∙ ap (λ l. l ++ w.in-Some.turn ∷ []) c.loop-i.invariant
      ∙ sym (chosen_some event_of (with_gated c.args.gated.now) c.args.t.now.steps c.loop-i.i c.step.result w.in-Some.turn c.step.ensures
      (ap event_of (sym c.with_gated-step.ensures) ∙ sym c.event.ensures ∙ w.in-Some.is))
  | in_default w ↦ ap (λ v. v.items) w.turns-is ∙ c.loop-i.invariant
      ∙ sym (chosen_none event_of (with_gated c.args.gated.now) c.args.t.now.steps c.loop-i.i c.step.result c.step.ensures
      (ap event_of (sym c.with_gated-step.ensures) ∙ sym c.event.ensures ∙ w.in_default.is))
]
