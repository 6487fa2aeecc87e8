use Rattle.pg_law_admitted.proofs.AdmittedGuidedRun.{ordered, replies}
use Rattle.pg_law_admitted.proofs.laws.an_admitted_input_keeps_order_and_replies.Goals as goal

pub returns : goal.returns
returns c p recorded input s sums regions xs d k q = (ordered p recorded input s sums regions xs d k q, replies p recorded input s sums regions xs d k q)
