use Rattle.pg_law_admitted.proofs.AdmittedGuidedRun.{all_replies, at_cut, full, permitted_ordered}
use Rattle.pg_law_admitted.proofs.laws.an_admitted_input_has_an_ordered_full_run.Goals as goal

pub returns-clause-full : goal.returns-clause-full
returns-clause-full c = λ p recorded input s sums regions xs d k q. full p recorded input s sums regions xs d k q

pub returns-clause-permitted : goal.returns-clause-permitted
returns-clause-permitted c = λ p recorded input s sums regions xs d ys z k q h.
    (at_cut p recorded input s sums regions xs d k q ys z h, permitted_ordered p recorded input s sums regions xs d k q ys z h)

pub returns-clause-exits : goal.returns-clause-exits
returns-clause-exits c = λ p recorded input s sums regions xs d value k q e. all_replies p recorded input s sums regions xs d k q value e
