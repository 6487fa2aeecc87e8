use Rattle.pg_session.proofs.LineNumbers.{Told}
use Rattle.pg_session.proofs.lines.numbers_of.Given as goal

abbrev pub invariant-loop-at : goal.invariant-loop-at
invariant-loop-at l = Told l.line l.numbers.items l.start l.at
