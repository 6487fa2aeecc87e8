use Rattle.pg_law_effects.proofs.StepsApart.{change_places}
use Rattle.pg_law_effects.proofs.laws.steps_apart_change_places.Goals as goal

pub returns : goal.returns
returns c = change_places
