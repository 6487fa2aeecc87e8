use Rattle.std.proofs.Common.{arith}
use Rattle.pg_read_ast.proofs.Decimals.{compared_next}
use Rattle.pg_read_ast.proofs.print.numbers.is_less.Goals as goal

pub loop-at-preserved : goal.loop-at-preserved
loop-at-preserved c = compared_next c.args.left.now c.args.right.now c.max-width.result c.loop-at.at c.loop-at.less c.loop-at.same c.less_after-less.result c.same_after-same.result
    c.digit_at-first.result c.digit_at-second.result
    (omega arith) (omega arith) (omega arith) c.digit_at-first.ensures.value c.digit_at-second.ensures.value c.digit_at-first.ensures.digit c.digit_at-second.ensures.digit
    c.less_after-less.ensures c.same_after-same.ensures c.loop-at.invariant
