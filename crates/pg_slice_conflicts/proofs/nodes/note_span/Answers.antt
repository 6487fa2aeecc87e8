use Rattle.std.proofs.Common.{arith}
use Rattle.pg_slice_conflicts.proofs.NotedRanks.{noted_none, span_next, span_whole}
use Rattle.pg_slice_conflicts.proofs.nodes.note_span.Goals as goal

pub loop-level-preserved : goal.loop-level-preserved
loop-level-preserved c =
    let inv = c.loop-level.invariant in
    let at = inv.0 in (
      omega (arith, at),
      c.note_ends.ensures.best,
      λ more h. inv.2 more
          (span_next c.args.touch.now c.loop-level.table more c.args.count c.loop-level.level c.loop-level.low c.loop-level.high (omega arith) c.note_ends.new.table c.note_ends.ensures h),
    )

pub returns : goal.returns
returns c =
    let inv = c.loop-level.invariant in
    inv.2 c.loop-level.table (span_whole c.args.touch.now c.loop-level.table c.loop-level.table c.args.count c.loop-level.level c.loop-level.low c.loop-level.high (omega arith)
    (noted_none c.args.touch.now c.loop-level.table inv.1))
