use Rattle.pg_law_reference.proofs.SliceableRuns.{exits_sliceable}
use Rattle.pg_law_reference.proofs.laws.exiting_runs_can_be_sliced.Goals as goal

pub returns : goal.returns
returns c = exits_sliceable
