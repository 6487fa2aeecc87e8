use Rattle.pg_slice_rules.specs.Known.{seen_in}
use Rattle.pg_slice_rules.specs.Moments.{moments_of}
use Rattle.pg_law_least.proofs.FootprintsInOrder.{footprints_order, steps_order}
use Rattle.pg_law_least.proofs.laws.steps_in_order.Goals as goal

pub returns : goal.returns
returns c = λ gated p regions input xs d. (
  steps_order gated p regions input xs d,
  footprints_order (seen_in (record { program = p; regions = regions; moments = moments_of gated p input xs }) d) (steps_order gated p regions input xs d),
)
