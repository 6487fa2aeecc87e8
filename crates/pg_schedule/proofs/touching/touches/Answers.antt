use Rattle.std.proofs.Common.{◌∷◌, [], ◌++◌, length, arith, ap, ◌∙◌}
use Rattle.pg_schedule.specs.Touching.{touch_for}
use Rattle.pg_schedule.proofs.UnorderedSearch.{touched_all, touched_more}
use Rattle.pg_schedule.proofs.touching.touches.Goals as goal

pub touch_for-requires : goal.touch_for-requires
touch_for-requires c = c.requires.within c.loop-i.i c.interval_at-interval.result c.interval_at-interval.ensures.is

pub loop-i-preserved : goal.loop-i-preserved
loop-i-preserved c =
    c.in_ok-push.ensures.items ∙ ap (λ t. c.loop-i.touches.items ++ t ∷ []) c.touch_for.ensures
    ∙ touched_more (touch_for c.args.pass (length c.args.intervals.now)) c.args.t.now.steps c.args.intervals.now c.loop-i.i c.step.result c.interval_at-interval.result c.loop-i.touches.items
    c.step.ensures c.interval_at-interval.ensures.is c.loop-i.invariant

pub returns : goal.returns
returns c =
    touched_all (touch_for c.args.pass (length c.args.intervals.now)) c.args.t.now.steps c.args.intervals.now c.loop-i.i c.loop-i.touches.items c.requires.as_many (omega arith)
    c.loop-i.invariant
