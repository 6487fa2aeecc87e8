use Rattle.std.proofs.Common.{◌+◌, ◌/◌, arith, sym, subst}
use Rattle.pg_slice_conflicts.specs.Meets.{InOrder}
use Rattle.pg_test_slice.proofs.FootprintsInOrder.{AreUpTo, next_turn, order_push, up_push}
use Rattle.pg_test_slice.proofs.conflicts.made.repeated.Goals as goal

pub loop-k-init : goal.loop-k-init
loop-k-init c = (subst InOrder (sym c.new-footprints.ensures.items) tt, subst (AreUpTo (0 / 8)) (sym c.new-footprints.ensures.items) tt)

pub loop-k-preserved : goal.loop-k-preserved
loop-k-preserved c =
    let inv = c.loop-k.invariant in
    let k = c.loop-k.k in
    let low = c.made.ensures.low in
    let high = c.made.ensures.high in (
      subst InOrder (sym c.in_ok-push.ensures.items) (order_push (k / 8) c.loop-k.footprints.items c.made.result high inv.1 inv.0),
      subst (AreUpTo ((k + 1) / 8)) (sym c.in_ok-push.ensures.items) (up_push (k / 8) ((k + 1) / 8) c.loop-k.footprints.items c.made.result (next_turn k) (omega (arith, low, next_turn k)) inv.1),
    )
