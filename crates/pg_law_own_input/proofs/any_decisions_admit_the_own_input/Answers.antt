use Rattle.pg_law_own_input.proofs.FewerDecisions.{any_admit}
use Rattle.pg_law_own_input.proofs.any_decisions_admit_the_own_input.Goals as goal

pub returns : goal.returns
returns c = λ r o keeps d. any_admit r o keeps d
