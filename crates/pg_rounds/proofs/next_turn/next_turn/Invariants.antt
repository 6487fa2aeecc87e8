use Rattle.pg_rounds.specs.Turns.{IsFirstOf}
use Rattle.pg_rounds.proofs.next_turn.next_turn.Given as goal

abbrev pub invariant-loop-t : goal.invariant-loop-t
invariant-loop-t l = IsFirstOf l.workers l.t l.found
