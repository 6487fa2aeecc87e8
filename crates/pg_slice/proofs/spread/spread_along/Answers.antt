use Rattle.std.proofs.Common.{arith}
use Rattle.pg_slice_decisions.specs.Steps.{taken_by}
use Rattle.pg_slice.proofs.MoreDecisions.{widens_none, widens_then}
use Rattle.pg_slice.proofs.spread.spread_along.Goals as goal

pub loop-n-init : goal.loop-n-init
loop-n-init c = (c.requires.size, c.requires.live, c.requires.settled, omega arith, widens_none c.args.run.now.r.now c.args.holders.now c.args.run.now.t.now.steps (taken_by c.args.decisions.now))

pub loop-n-preserved : goal.loop-n-preserved
loop-n-preserved c =
    let v = c.loop-n.invariant in
    let e = c.in_ok-spread_step.ensures in
    let a = v.3 in
    let b = e.left in (
      e.size,
      e.live,
      e.settled,
      omega (arith, a, b),
      widens_then c.args.run.now.r.now c.args.holders.now c.args.run.now.t.now.steps
          (taken_by c.args.decisions.now) (taken_by c.loop-n.decisions) (taken_by c.spread_step.new.decisions) v.4 e.widens,
    )
