use Rattle.std.proofs.Common.{sym, ◌∙◌, arith}
use Rattle.pg_slice_walk.proofs.of_pg_law_demands.DemandsBack.{eq_false}
use Rattle.pg_slice_walk.proofs.of_pg_slice_passes.OneStepMore.{intervals_length}
use Rattle.pg_slice.proofs.TimedSteps.{are_together}
use Rattle.pg_slice.proofs.meetings.are_together.Goals as goal

pub interval_at-interval-requires : goal.interval_at-interval-requires
interval_at-interval-requires c = let l = intervals_length c.args.trace.now.steps c.args.intervals.now c.requires.intervals in omega (arith, c.requires.number, l)

pub interval_at-other_interval-requires : goal.interval_at-other_interval-requires
interval_at-other_interval-requires c = let l = intervals_length c.args.trace.now.steps c.args.intervals.now c.requires.intervals in omega (arith, c.requires.other, l)

pub returns : goal.returns
returns c = λ q. are_together c.args.trace.now.steps c.args.intervals.now c.requires.intervals c.args.number c.args.other c.step-step.result c.step-other_step.result c.interval_at-interval.result c.interval_at-other_interval.result
    c.step-step.ensures c.step-other_step.ensures c.interval_at-interval.ensures.or_any c.interval_at-other_interval.ensures.or_any
    (eq_false c.step-step.result.thread.0 c.step-other_step.result.thread.0 c.if-step-other_step.false) (sym c.overlap.ensures ∙ c.if-not-overlap.false)
