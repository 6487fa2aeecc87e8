use Rattle.pg_law_own_input.proofs.KnownAlongRun.{all_admit}
use Rattle.pg_law_own_input.proofs.all_decisions_admit_the_own_input.Goals as goal

pub returns : goal.returns
returns c = λ r o. all_admit r o
