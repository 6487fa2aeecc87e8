use Rattle.pg_law_effects.proofs.StepViews.{leads_to}
use Rattle.pg_law_effects.proofs.views.a_step_leads_to_what_it_writes.Goals as goal

pub returns : goal.returns
returns c = leads_to
