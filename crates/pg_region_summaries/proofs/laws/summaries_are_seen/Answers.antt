use Rattle.pg_region_summaries.proofs.SummaryFacts.{is_few, all_seen}
use Rattle.pg_region_summaries.proofs.laws.summaries_are_seen.Goals as goal

pub returns : goal.returns
returns c = λ p gated sums f xs h. (is_few p gated sums f xs h, λ a m. all_seen p gated sums f xs h a m)
