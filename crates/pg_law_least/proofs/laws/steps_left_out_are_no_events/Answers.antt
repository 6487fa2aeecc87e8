use Rattle.pg_law_least.proofs.EachStep.{plain_in}
use Rattle.pg_law_least.proofs.laws.steps_left_out_are_no_events.Goals as goal

pub returns : goal.returns
returns c = λ R keeps d. plain_in R keeps d
