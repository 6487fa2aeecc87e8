use Rattle.std.proofs.Common.{[]}
use Rattle.pg_law_runs.proofs.AlikeStatesEqual.{same_state}
use Rattle.pg_law_runs.proofs.states_that_look_alike_are_equal.Goals as goal

pub returns : goal.returns
returns c p s z m n h k e = same_state p [] s z m n h k e
