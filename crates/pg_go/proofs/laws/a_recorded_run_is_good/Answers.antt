use Rattle.pg_go.proofs.RecordedRuns.{recorded_good}
use Rattle.pg_go.proofs.laws.a_recorded_run_is_good.Goals as goal

pub returns : goal.returns
returns c p input xs z can h = recorded_good p input xs z can h
