use Rattle.pg_law_least.specs.Keeps.{every}
use Rattle.pg_law_least.proofs.ClosedDecisions.{in_every}
use Rattle.pg_law_least.proofs.EachStep.{same_in}
use Rattle.pg_law_least.proofs.laws.extents_rest_on_no_decision.Goals as goal

pub returns : goal.returns
returns c = λ R keeps d. same_in R keeps d every (λ x h. in_every x)
