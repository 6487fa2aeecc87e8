use Rattle.pg_run.proofs.GuidedRuns.{turn_is_itself}
use Rattle.pg_run.proofs.guided_laws.equal_turns_are_one_turn.Goals as goal

pub returns : goal.returns
returns c = turn_is_itself
