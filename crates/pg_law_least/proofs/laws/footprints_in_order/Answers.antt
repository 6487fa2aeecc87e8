use Rattle.pg_law_least.proofs.FootprintsInOrder.{footprints_order}
use Rattle.pg_law_least.proofs.laws.footprints_in_order.Goals as goal

pub returns : goal.returns
returns c = λ all o. footprints_order all o
