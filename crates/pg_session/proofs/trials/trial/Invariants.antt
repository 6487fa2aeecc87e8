use Rattle.std.proofs.Common.{◌≡◌}
use Rattle.pg_session.specs.Sessions.{admits_by}
use Rattle.pg_session.proofs.TrialCounts.{Tallied}
use Rattle.pg_session.proofs.trials.trial.Given as goal

abbrev pub invariant-loop-i : goal.invariant-loop-i
invariant-loop-i g l = record {
  tallied : Tallied (admits_by g.R.Entry.Admits.meaning g.R.Entry.Admits.test) (g.R.Runner.runs (g.R.Runner.subject l.fn.runner)) l.number l.i l.cache
      l.counts.recorded l.counts.reused l.counts.refused l.counts.turns l.counts.sum
      (g.R.Runner.counts l.fn.runner) (g.R.Runner.counts l.runner);
  subject : g.R.Runner.subject l.runner ≡ g.R.Runner.subject l.fn.runner;
}
