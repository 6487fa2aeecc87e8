use Rattle.pg_law_least.proofs.HeldAlongMoments.{goes_keep}
use Rattle.pg_law_least.proofs.laws.extents_keep_along.Goals as goal

pub returns : goal.returns
returns c = λ R goes. goes_keep R goes
