use Rattle.pg_law_effects.proofs.StepViews.{agree_like}
use Rattle.pg_law_effects.proofs.views.alike_states_agree.Goals as goal

pub returns : goal.returns
returns c = agree_like
