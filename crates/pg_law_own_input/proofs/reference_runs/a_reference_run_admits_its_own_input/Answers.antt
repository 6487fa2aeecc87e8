use Rattle.pg_law_own_input.proofs.ReferenceRunsRecorded.{reference_admits}
use Rattle.pg_law_own_input.proofs.reference_runs.a_reference_run_admits_its_own_input.Goals as goal

pub returns : goal.returns
returns c = λ p input turns gated sums regions xs h d. reference_admits p input turns gated sums regions xs h d
