use Rattle.pg_law_reference.proofs.ShortSummaries.{short_calls}
use Rattle.pg_law_reference.proofs.RegionsExist.{region_of}
use Rattle.pg_law_reference.proofs.laws.a_branch_has_its_region.Goals as goal

pub returns : goal.returns
returns c p gated sums program h b = region_of p program gated sums (short_calls p program gated sums h) b
