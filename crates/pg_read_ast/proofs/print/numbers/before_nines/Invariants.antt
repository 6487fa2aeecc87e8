use Rattle.pg_read_ast.proofs.Decimals.{Nines}
use Rattle.pg_read_ast.proofs.print.numbers.before_nines.Given as goal

abbrev pub invariant-loop-end : goal.invariant-loop-end
invariant-loop-end l = Nines l.digits l.end

abbrev pub decreases-loop-end : goal.decreases-loop-end
decreases-loop-end l = l.end
