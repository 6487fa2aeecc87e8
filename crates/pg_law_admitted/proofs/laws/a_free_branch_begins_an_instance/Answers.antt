use Rattle.pg_law_admitted.proofs.AdmittedGuidedRun.{begins}
use Rattle.pg_law_admitted.proofs.laws.a_free_branch_begins_an_instance.Goals as goal

pub returns : goal.returns
returns c p recorded input s sums regions xs d u a z moves k q has free alike looks reached = begins p recorded input s sums regions xs d k q u a z moves has free alike looks reached
