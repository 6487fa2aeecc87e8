use Rattle.std.proofs.Common.{◌+◌, arith, sym, subst}
use Rattle.pg_slice_conflicts.specs.Meets.{InOrder}
use Rattle.pg_test_slice.proofs.FootprintsInOrder.{AreUpTo, order_push, up_push}
use Rattle.pg_test_slice.proofs.conflicts.rows.long_writes.Goals as goal

pub loop-k-init : goal.loop-k-init
loop-k-init c = (subst InOrder (sym c.new-footprints.ensures.items) tt, subst (AreUpTo 0) (sym c.new-footprints.ensures.items) tt)

pub loop-k-preserved : goal.loop-k-preserved
loop-k-preserved c =
    let inv = c.loop-k.invariant in
    let low = c.long_write.ensures.low in
    let high = c.long_write.ensures.high in (
      subst InOrder (sym c.in_ok-push.ensures.items) (order_push c.loop-k.k c.loop-k.footprints.items c.long_write.result high inv.1 inv.0),
      subst (AreUpTo (c.loop-k.k + 1)) (sym c.in_ok-push.ensures.items) (up_push c.loop-k.k (c.loop-k.k + 1) c.loop-k.footprints.items c.long_write.result (omega arith) (omega (arith, low)) inv.1),
    )
