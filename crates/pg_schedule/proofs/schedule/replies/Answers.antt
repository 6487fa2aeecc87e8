use Rattle.std.proofs.Common.{◌∷◌, [], ◌++◌, sym, ap, ◌∙◌}
use Rattle.pg_run_trace.specs.declared.step.Step.{Step}
use Rattle.pg_run_trace.specs.Races.{reply_in, with_gated}
use Rattle.pg_run_trace.specs.Steps.{event_of}
use Rattle.pg_schedule.proofs.ChosenSteps.{chosen_some, chosen_none}
use Rattle.pg_schedule.proofs.schedule.replies.Goals as goal
use Rattle.pg_schedule.proofs.schedule.replies.Goals.{in-Some+in_ok-push, in_default}

pub loop-i-preserved : goal.loop-i-preserved
loop-i-preserved c = elim c.match-reply_in.branch [
  | in-Some+in_ok-push w ↦ ap (λ v. v.items) w.replies-is ∙ w.in_ok-push.ensures.items ∙ ap (λ l. l ++ w.in-Some.reply ∷ []) c.loop-i.invariant
      ∙ sym (chosen_some (λ (x : Step). reply_in x.kind) (with_gated c.args.gated.now) c.args.t.now.steps c.loop-i.i c.step.result w.in-Some.reply c.step.ensures
      (ap (λ (x : Step). reply_in x.kind) (sym c.with_gated-step.ensures) ∙ sym c.reply_in.ensures ∙ w.in-Some.is))
  | in_default w ↦ ap (λ v. v.items) w.replies-is ∙ c.loop-i.invariant
      ∙ sym (chosen_none (λ (x : Step). reply_in x.kind) (with_gated c.args.gated.now) c.args.t.now.steps c.loop-i.i c.step.result c.step.ensures
      (ap (λ (x : Step). reply_in x.kind) (sym c.with_gated-step.ensures) ∙ sym c.reply_in.ensures ∙ w.in_default.is))
]
