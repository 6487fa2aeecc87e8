use Rattle.pg_region_summaries.proofs.SummaryFacts.{reaches_quiet}
use Rattle.pg_region_summaries.proofs.laws.quiet_functions_reach_quiet.Goals as goal

pub returns : goal.returns
returns c = λ p gated sums f xs h g r. reaches_quiet p gated sums f xs h g r
