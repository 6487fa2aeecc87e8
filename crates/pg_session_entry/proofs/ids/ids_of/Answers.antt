use Rattle.std.proofs.Common.{◌∷◌, [], ◌++◌, sym, ap, ◌∙◌}
use Rattle.pg_run_trace.specs.declared.step.Step.{Step}
use Rattle.pg_session_entry.proofs.MappedLists.{one_more}
use Rattle.pg_session_entry.proofs.ids.ids_of.Goals as goal

pub loop-i-preserved : goal.loop-i-preserved
loop-i-preserved c = c.in_ok-push.ensures.items ∙ (ap (λ l. l ++ c.step-step.result.instr ∷ []) c.loop-i.invariant
    ∙ sym (one_more (λ (x : Step). x.instr) c.args.t.now.steps c.loop-i.i c.step-step.result c.step-step.ensures))
