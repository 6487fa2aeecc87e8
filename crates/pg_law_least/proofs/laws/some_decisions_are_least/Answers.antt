use Rattle.pg_law_least.proofs.ClosedDecisions.{one_slice}
use Rattle.pg_law_least.proofs.LeastClosedSet.{has_slice}
use Rattle.pg_law_least.proofs.laws.some_decisions_are_least.Goals as goal

pub returns-clause-some : goal.returns-clause-some
returns-clause-some c = λ R keeps. has_slice R keeps

pub returns-clause-one : goal.returns-clause-one
returns-clause-one c = λ R d e f g x. one_slice R d e f g x
