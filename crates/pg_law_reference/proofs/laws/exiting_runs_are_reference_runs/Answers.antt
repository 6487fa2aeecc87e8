use Rattle.pg_law_reference.proofs.ExitingRuns.{exits_reference}
use Rattle.pg_law_reference.proofs.laws.exiting_runs_are_reference_runs.Goals as goal

pub returns : goal.returns
returns c = exits_reference
