use Rattle.pg_law_admitted.proofs.CoveredPaths.{quiet_covered}
use Rattle.pg_law_admitted.proofs.laws.quiet_sets_are_covered.Goals as goal

pub returns : goal.returns
returns c = λ p gated sums m blocks xs program summaries e. quiet_covered p gated sums program summaries m blocks xs e
