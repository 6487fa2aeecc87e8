use Rattle.pg_law_effects.proofs.RunsByThreads.{runs_cross}
use Rattle.pg_law_effects.proofs.runs.first_steps_change_places.Goals as goal

pub returns : goal.returns
returns c = runs_cross
