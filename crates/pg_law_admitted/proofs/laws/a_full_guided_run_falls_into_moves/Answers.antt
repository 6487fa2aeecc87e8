use Rattle.pg_law_admitted.proofs.AdmittedGuidedRun.{fallen}
use Rattle.pg_law_admitted.proofs.laws.a_full_guided_run_falls_into_moves.Goals as goal

pub returns : goal.returns
returns c p recorded input s sums regions xs d k q = fallen p recorded input s sums regions xs d k q
