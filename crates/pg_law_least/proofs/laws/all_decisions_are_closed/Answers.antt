use Rattle.pg_law_least.proofs.ClosedDecisions.{all_closed}
use Rattle.pg_law_least.proofs.laws.all_decisions_are_closed.Goals as goal

pub returns : goal.returns
returns c = λ R. all_closed R
