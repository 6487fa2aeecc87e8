use Rattle.pg_law_admitted.proofs.ReferenceRunJoins.{units_again}
use Rattle.pg_law_admitted.proofs.laws.a_reference_run_joins_again.Goals as goal

pub returns : goal.returns
returns c p input turns gated sums regions xs d h = units_again p input turns gated sums regions xs h d
