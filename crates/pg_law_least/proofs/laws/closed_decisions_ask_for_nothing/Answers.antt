use Rattle.pg_law_least.proofs.ClosedDecisions.{asks_none, closed_where}
use Rattle.pg_law_least.proofs.laws.closed_decisions_ask_for_nothing.Goals as goal

pub returns : goal.returns
returns c = λ R d. (λ closed. asks_none R d closed, λ h. closed_where R d h)
