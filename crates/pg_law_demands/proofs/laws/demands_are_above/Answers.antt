use Rattle.pg_law_demands.proofs.DueDemands.{demanded_within}
use Rattle.pg_law_demands.proofs.WalkBack.{demands_above}
use Rattle.pg_law_demands.proofs.laws.demands_are_above.Goals as goal

pub returns-clause-above : goal.returns-clause-above
returns-clause-above c = λ R keeps d e closed within x h. demands_above R keeps d e closed within x h

pub returns-clause-within : goal.returns-clause-within
returns-clause-within c = λ R keeps d e closed within. demanded_within R keeps d e closed within
