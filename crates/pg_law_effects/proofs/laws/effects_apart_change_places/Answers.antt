use Rattle.pg_law_effects.proofs.EffectsApart.{effects_cross}
use Rattle.pg_law_effects.proofs.laws.effects_apart_change_places.Goals as goal

pub returns : goal.returns
returns c = effects_cross
