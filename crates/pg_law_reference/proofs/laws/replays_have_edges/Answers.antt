use Rattle.pg_law_reference.proofs.SliceableRuns.{replay_edges}
use Rattle.pg_law_reference.proofs.laws.replays_have_edges.Goals as goal

pub returns : goal.returns
returns c = replay_edges
