use Rattle.pg_law_runs.proofs.FullRunEnds.{ends}
use Rattle.pg_law_runs.proofs.a_full_run_is_maximal.Goals as goal

pub returns : goal.returns
returns c = ends
