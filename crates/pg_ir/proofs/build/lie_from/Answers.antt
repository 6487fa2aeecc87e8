use Rattle.std.proofs.Common.{arith, ◌∙◌, ◌≤◌, ◌^◌, ◌+◌, sym, refl}
use Rattle.pg_ir.proofs.GlobalsDecide.{lie_more}
use Rattle.pg_ir.proofs.build.lie_from.Goals as goal

pub loop-g-preserved : goal.loop-g-preserved
loop-g-preserved c =
    let small : c.loop-g.at + c.granules_for-at.result ≤ 2 ^ 33 = omega (arith, c.if-not-global_fits.ensures.small refl, c.granules_for-at.ensures.small) in (
      sym (lie_more c.loop-g.at c.args.globals.now c.loop-g.g-index c.granules_for-at.result c.g-item.result c.loop-g-test.true c.g-item.is
          (sym c.if-not-global_fits.ensures.fits) c.granules_for-at.ensures.granules) ∙ c.loop-g.invariant.0,
      small,
    )
