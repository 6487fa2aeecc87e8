use Rattle.pg_law_demands.proofs.DueDemands.{more_due, some_due}
use Rattle.pg_law_demands.proofs.laws.some_demands_are_due.Goals as goal

pub returns-clause-some : goal.returns-clause-some
returns-clause-some c = λ R d n a b f g h. some_due R d n a b f g h

pub returns-clause-more : goal.returns-clause-more
returns-clause-more c = λ R d n a b h k. more_due R d n a b h k
