use Rattle.pg_law_reference.proofs.SummariesAreOne.{one_summary}
use Rattle.pg_law_reference.proofs.laws.a_function_has_one_summary.Goals as goal

pub returns : goal.returns
returns c p gated sums others program first second = one_summary p program gated sums others first second
