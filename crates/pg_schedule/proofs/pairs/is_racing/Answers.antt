use Rattle.std.proofs.Common.{sym, ap, ◌∙◌}
use Rattle.std.specs.Prelude.{is_some}
use Rattle.pg_schedule.proofs.NumberedSteps.{racing_true, racing_false}
use Rattle.pg_schedule.proofs.pairs.is_racing.Goals as goal

pub returns-then-is_access_of : goal.returns-then-is_access_of
returns-then-is_access_of c =
    c.is_some.ensures ∙ ap is_some c.partner.ensures
    ∙ racing_true c.args.t.now.steps c.args.intervals.now c.requires.intervals c.args.id.0 c.args.i c.step-step.result c.step-step.ensures (sym c.is_access_of.ensures ∙ c.if-is_access_of.true)

pub returns-else-is_access_of : goal.returns-else-is_access_of
returns-else-is_access_of c =
    racing_false c.args.t.now.steps c.args.intervals.now c.requires.intervals c.args.id.0 c.args.i c.step-step.result c.step-step.ensures (sym c.is_access_of.ensures ∙ c.if-is_access_of.false)
