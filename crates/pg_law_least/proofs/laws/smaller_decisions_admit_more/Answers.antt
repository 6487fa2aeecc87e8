use Rattle.pg_law_least.proofs.SmallerAdmitsMore.{admits_more}
use Rattle.pg_law_least.proofs.laws.smaller_decisions_admit_more.Goals as goal

pub returns : goal.returns
returns c = λ R keeps d e within input h. admits_more R keeps d e within input h
