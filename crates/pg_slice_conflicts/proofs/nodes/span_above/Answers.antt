use Rattle.std.proofs.Common.{arith, sym, ◌∙◌}
use Rattle.pg_slice_conflicts.proofs.NotedRanks.{span_passed}
use Rattle.pg_slice_conflicts.proofs.nodes.span_above.Goals as goal

pub loop-level-preserved : goal.loop-level-preserved
loop-level-preserved c =
    let inv = c.loop-level.invariant in
    let at = inv.0 in (
      omega (arith, at),
      span_passed c.args.touch.now c.args.table.now c.args.count c.loop-level.level c.loop-level.low c.loop-level.high (omega arith)
          (sym c.ends_above.ensures ∙ c.if-ends_above.false) ∙ inv.1,
    )
