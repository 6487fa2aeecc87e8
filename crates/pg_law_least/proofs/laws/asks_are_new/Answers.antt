use Rattle.pg_law_least.proofs.AskedAreMissing.{asks_new}
use Rattle.pg_law_least.proofs.laws.asks_are_new.Goals as goal

pub returns-clause-new : goal.returns-clause-new
returns-clause-new c = λ R d x h. (asks_new R d x h).0

pub returns-clause-steps : goal.returns-clause-steps
returns-clause-steps c = λ R d x h. (asks_new R d x h).1
