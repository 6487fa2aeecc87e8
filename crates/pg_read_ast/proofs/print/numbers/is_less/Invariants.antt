use Rattle.std.proofs.Common.{◌-◌}
use Rattle.pg_read_ast.proofs.Decimals.{Compared}
use Rattle.pg_read_ast.proofs.print.numbers.is_less.Given as goal

abbrev pub invariant-loop-at : goal.invariant-loop-at
invariant-loop-at l = Compared l.left l.right l.width l.at l.less l.same

abbrev pub decreases-loop-at : goal.decreases-loop-at
decreases-loop-at l = l.width - l.at
