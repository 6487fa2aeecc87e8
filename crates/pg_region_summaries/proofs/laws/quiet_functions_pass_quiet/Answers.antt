use Rattle.pg_region_summaries.proofs.SummaryFacts.{passes_quiet}
use Rattle.pg_region_summaries.proofs.laws.quiet_functions_pass_quiet.Goals as goal

pub returns : goal.returns
returns c = λ p gated sums f xs h i x at own. passes_quiet p gated sums f xs h i x at own
