use Rattle.pg_law_least.proofs.SmallerAdmitsMore.{known_stays}
use Rattle.pg_law_least.proofs.laws.known_values_stay_known.Goals as goal

pub returns : goal.returns
returns c = λ R keeps d e within. known_stays R keeps d e within
