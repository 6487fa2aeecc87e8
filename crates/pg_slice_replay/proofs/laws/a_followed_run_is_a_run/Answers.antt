use Rattle.pg_slice_replay.proofs.ReplaysAreRuns.{followed_runs}
use Rattle.pg_slice_replay.proofs.laws.a_followed_run_is_a_run.Goals as goal

pub returns : goal.returns
returns c = followed_runs
