use Rattle.std.proofs.Common.{arith}
use Rattle.pg_slice_conflicts.proofs.Joining.{join_more}
use Rattle.pg_slice_conflicts.proofs.fast.join.Goals as goal

pub loop-i-preserved : goal.loop-i-preserved
loop-i-preserved c = join_more c.args.marks.now c.loop-i.marks c.args.others.now c.loop-i.i c.either.result (let l = c.loop-i.auto.marks in let r = c.requires in omega (arith, l, r))
    (omega arith) c.either.ensures c.loop-i.invariant
