use Rattle.std.proofs.Common.{◌∷◌, [], ◌++◌, sym, ap, ◌∙◌}
use Rattle.pg_run_trace.specs.declared.step.Step.{Step}
use Rattle.pg_run_trace.specs.Races.{reply_in}
use Rattle.pg_session_entry.proofs.MappedLists.{chosen_some, chosen_none}
use Rattle.pg_session_entry.proofs.replies.replies_of.Goals as goal
use Rattle.pg_session_entry.proofs.replies.replies_of.Goals.{in-Some+in_ok-push, in_default}

pub loop-i-preserved : goal.loop-i-preserved
loop-i-preserved c = elim c.match-reply_in.branch [
  | in-Some+in_ok-push w ↦ ap (λ v. v.items) w.replies-is ∙ w.in_ok-push.ensures.items ∙ ap (λ l. l ++ w.in-Some.reply ∷ []) c.loop-i.invariant
      ∙ sym (chosen_some (λ (x : Step). reply_in x.kind) c.args.t.now.steps c.loop-i.i c.step-step.result w.in-Some.reply c.step-step.ensures (sym c.reply_in.ensures ∙ w.in-Some.is))
  | in_default w ↦ ap (λ v. v.items) w.replies-is ∙ c.loop-i.invariant
      ∙ sym (chosen_none (λ (x : Step). reply_in x.kind) c.args.t.now.steps c.loop-i.i c.step-step.result c.step-step.ensures (sym c.reply_in.ensures ∙ w.in_default.is))
]
