use Rattle.pg_law_least.proofs.InLargerClosedSets.{asks_above}
use Rattle.pg_law_least.proofs.laws.asks_are_above.Goals as goal

pub returns : goal.returns
returns c = λ R keeps d e closed within x h. asks_above R keeps d e closed within x h
