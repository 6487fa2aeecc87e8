use Rattle.std.proofs.Common.{◌<◌, rules, arith, refl, sym}
use Rattle.std.proofs.lemmas.List.{get_or-replicate}
use Rattle.pg_schedule.specs.Intervals.{view_of}
use Rattle.pg_schedule.proofs.IntervalWalk.{forward_event, forward_plain, forward_end}
use Rattle.pg_schedule.proofs.interval.lows.Goals as goal
use Rattle.pg_schedule.proofs.interval.lows.Goals.{then-has, else-has}

pub loop-i-init : goal.loop-i-init
loop-i-init c = record { made = c.in_ok-intervals.ensures.items; counted = refl; few = omega arith; lasts = (refl, λ u h. get_or-replicate 256 u 0 0 h) }

pub loop-i-preserved : goal.loop-i-preserved
loop-i-preserved c =
    let lt : c.step-step.result.thread.0 < 256 = first_of (omega arith, search rules) in
    elim c.if-has.branch [
      | then-has w ↦ rw (c.in_ok-push.ensures.items, w.last-is, w.done-is)
          (forward_event (view_of c.args.turns) c.args.t.now.steps c.loop-i.i c.step-step.result c.loop-i.intervals.items c.loop-i.done c.loop-i.last c.step-step.ensures
          (sym w.if-has.ensures) lt c.loop-i.invariant)
      | else-has w ↦ rw (c.in_ok-push.ensures.items, w.last-is, w.done-is)
          (forward_plain (view_of c.args.turns) c.args.t.now.steps c.loop-i.i c.step-step.result c.loop-i.intervals.items c.loop-i.done c.loop-i.last c.step-step.ensures
          (sym w.if-has.ensures) lt c.loop-i.invariant)
    ]
