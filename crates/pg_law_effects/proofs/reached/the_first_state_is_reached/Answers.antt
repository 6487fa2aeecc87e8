use Rattle.pg_law_effects.proofs.ReachedStates.{reached_first}
use Rattle.pg_law_effects.proofs.reached.the_first_state_is_reached.Goals as goal

pub returns : goal.returns
returns c = reached_first
