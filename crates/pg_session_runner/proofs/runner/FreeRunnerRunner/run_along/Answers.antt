use Rattle.std.proofs.Common.{subst, sym}
use Rattle.pg_session.specs.Sessions.{IsEntryOf}
use Rattle.pg_session_runner.specs.Runs.{Running, freely, runs_by}
use Rattle.pg_session_runner.proofs.runner.FreeRunnerRunner.run_along.Goals as goal

pub ran_along-requires-clause-entry : goal.ran_along-requires-clause-entry
ran_along-requires-clause-entry g c = λ _ _.
    (freely, subst (λ (s : Running). IsEntryOf (runs_by s.subject.program s.subject.way) c.args.entry.now) (sym c.self.view_is) c.requires.entry)
