use Rattle.pg_precondition.proofs.number.+joined.Given as goal

abbrev pub decreases-joined : goal.decreases-joined
decreases-joined l = l.count
