use Rattle.std.proofs.Common.{subst}
use Rattle.pg_session_runner.specs.Runs.{RecordsNothing, Running}
use Rattle.pg_session_runner.proofs.runner.TestedRunnerRunner.record.Goals as goal

pub returns-clause-gives : goal.returns-clause-gives
returns-clause-gives g c = subst (λ (s : Running). RecordsNothing s.subject.way) c.self.view_is tt
