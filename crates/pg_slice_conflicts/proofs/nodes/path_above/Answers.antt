use Rattle.std.proofs.Common.{arith, sym, ◌∙◌}
use Rattle.pg_slice_conflicts.proofs.NotedRanks.{path_passed}
use Rattle.pg_slice_conflicts.proofs.nodes.path_above.Goals as goal

pub loop-level-preserved : goal.loop-level-preserved
loop-level-preserved c =
    let inv = c.loop-level.invariant in
    let at = inv.0 in
    (omega (arith, at), path_passed c.args.touch.now c.args.table.now c.args.count c.loop-level.level c.loop-level.node (omega arith) (sym c.has_above.ensures ∙ c.if-has_above.false) ∙ inv.1)
