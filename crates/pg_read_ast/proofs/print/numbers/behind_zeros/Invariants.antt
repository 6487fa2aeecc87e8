use Rattle.std.proofs.Common.{length, ◌-◌}
use Rattle.pg_read_ast.proofs.Decimals.{Stripped}
use Rattle.pg_read_ast.proofs.print.numbers.behind_zeros.Given as goal

abbrev pub invariant-loop-at : goal.invariant-loop-at
invariant-loop-at l = Stripped l.text l.at

abbrev pub decreases-loop-at : goal.decreases-loop-at
decreases-loop-at l = length l.text - l.at
