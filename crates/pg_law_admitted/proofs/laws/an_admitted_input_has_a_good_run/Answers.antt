use Rattle.pg_law_admitted.proofs.AdmittedGuidedRun.{good_run}
use Rattle.pg_law_admitted.proofs.laws.an_admitted_input_has_a_good_run.Goals as goal

pub returns : goal.returns
returns c p recorded input s sums regions xs d k a = good_run p recorded input s sums regions xs d k a
