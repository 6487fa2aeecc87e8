use Rattle.pg_law_threads.specs.Effects.{deeds}
use Rattle.pg_law_threads.proofs.ChosenSteps.{plan_filter}
use Rattle.pg_law_threads.proofs.chosen_steps_are_a_plan.Goals as goal

pub returns : goal.returns
returns c T plan chosen events h = plan_filter deeds T chosen events plan h
