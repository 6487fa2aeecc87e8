use Rattle.std.proofs.Common.{◌==◌, sym, ◌∙◌}
use Rattle.std.proofs.lemmas.Bool.{not-false, not-true}
use Rattle.pg_run_trace.specs.declared.step.Step.{Step}
use Rattle.pg_schedule.proofs.RaceTable.{all_fails, all_more}
use Rattle.pg_schedule.proofs.fast.is_of_thread.Goals as goal

pub returns-then-is_of_another : goal.returns-then-is_of_another
returns-then-is_of_another c =
    sym (all_fails (λ (x : Step). x.thread.0 == c.args.thread.0) c.args.t.now.steps c.loop-i.i c.step.result c.step.ensures
    (not-true (c.step.result.thread.0 == c.args.thread.0) (sym c.is_of_another.ensures ∙ c.if-is_of_another.true)))

pub loop-i-preserved : goal.loop-i-preserved
loop-i-preserved c =
    all_more (λ (x : Step). x.thread.0 == c.args.thread.0) c.args.t.now.steps c.loop-i.i c.step.result c.loop-i.invariant c.step.ensures
    (not-false (c.step.result.thread.0 == c.args.thread.0) (sym c.is_of_another.ensures ∙ c.if-is_of_another.false))
