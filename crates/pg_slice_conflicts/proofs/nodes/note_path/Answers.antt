use Rattle.std.proofs.Common.{arith}
use Rattle.pg_slice_conflicts.proofs.NotedRanks.{noted_none, path_next, path_whole}
use Rattle.pg_slice_conflicts.proofs.nodes.note_path.Goals as goal

pub loop-level-preserved : goal.loop-level-preserved
loop-level-preserved c =
    let inv = c.loop-level.invariant in
    let at = inv.0 in (
      omega (arith, at),
      c.note_at.ensures.best,
      λ more h. inv.2 more (path_next c.args.touch.now c.loop-level.table more c.args.count c.loop-level.level c.loop-level.node (omega arith) c.note_at.new.table c.note_at.ensures h),
    )

pub returns : goal.returns
returns c =
    let inv = c.loop-level.invariant in
    inv.2 c.loop-level.table (path_whole c.args.touch.now c.loop-level.table c.loop-level.table c.args.count c.loop-level.level c.loop-level.node (omega arith)
    (noted_none c.args.touch.now c.loop-level.table inv.1))
