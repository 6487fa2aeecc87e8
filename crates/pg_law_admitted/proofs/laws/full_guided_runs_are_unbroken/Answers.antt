use Rattle.pg_law_admitted.proofs.GuidedRunsUnbroken.{full_unbroken}
use Rattle.pg_law_admitted.proofs.laws.full_guided_runs_are_unbroken.Goals as goal

pub returns : goal.returns
returns c p input turns gated = full_unbroken p input turns gated
