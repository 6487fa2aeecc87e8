use Rattle.std.proofs.Common.{sym, ◌∙◌}
use Rattle.pg_slice.proofs.TimedSteps.{shares_by}
use Rattle.pg_slice.proofs.meetings.shares.Goals as goal

pub returns : goal.returns
returns c = λ q. shares_by c.args.trace.now.steps c.args.intervals.now c.requires.intervals c.args.number c.args.other c.step-step.result c.step-other_step.result c.step-step.ensures c.step-other_step.ensures
    (c.are_together.ensures c.if-not-are_together.false) (sym c.is_plain.ensures ∙ c.if-not-is_plain.false) (sym c.accesses_meet.ensures ∙ q)
