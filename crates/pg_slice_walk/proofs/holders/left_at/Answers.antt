use Rattle.std.proofs.Common.{◌-◌, Some, refl, sym, ◌∙◌, arith}
use Rattle.pg_slice_walk.proofs.OpenExtents.{left_ends, left_none, left_stays}
use Rattle.pg_slice_walk.proofs.holders.left_at.Goals as goal

pub loop-left-init : goal.loop-left-init
loop-left-init c = ((λ es s h. (es, h, s, refl)), omega arith)

pub loop-left-preserved : goal.loop-left-preserved
loop-left-preserved c = (
  left_ends c.args.reference.now c.args.holders.now c.args.inner c.loop-left.left c.args.depth (Some c.args.block) c.holder_at-left.result c.loop-left-test.true c.holder_at-left.ensures
      (λ x e n. sym (c.ends.ensures x e n) ∙ c.if-ends.true) c.loop-left.invariant.0,
  (let a = c.requires.by (c.loop-left.left - 1) in let b = c.holder_at-left.ensures in let d = c.loop-left.invariant.1 in omega (arith, a, b, d)),
)

pub returns-else-ends-clause-older : goal.returns-else-ends-clause-older
returns-else-ends-clause-older c = c.loop-left.invariant.1

pub returns-else-ends-clause-left : goal.returns-else-ends-clause-left
returns-else-ends-clause-left c = left_stays c.args.reference.now c.args.holders.now c.args.inner c.loop-left.left c.args.depth (Some c.args.block) c.loop-left-test.true
    (λ x e n. sym (c.ends.ensures x e n) ∙ c.if-ends.false) c.loop-left.invariant.0

pub returns-after-loop-left-clause-older : goal.returns-after-loop-left-clause-older
returns-after-loop-left-clause-older c = c.loop-left.invariant.1

pub returns-after-loop-left-clause-left : goal.returns-after-loop-left-clause-left
returns-after-loop-left-clause-left c = left_none c.args.reference.now c.args.holders.now c.args.inner c.loop-left.left c.args.depth (Some c.args.block) c.loop-left-test.false c.loop-left.invariant.0
