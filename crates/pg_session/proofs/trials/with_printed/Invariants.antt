use Rattle.pg_session.proofs.TrialCounts.{Summed}
use Rattle.pg_session.proofs.trials.with_printed.Given as goal

abbrev pub invariant-loop-at : goal.invariant-loop-at
invariant-loop-at l = Summed l.fn.before l.output l.total l.start l.at
