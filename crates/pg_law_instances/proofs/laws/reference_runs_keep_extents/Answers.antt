use Rattle.pg_law_instances.proofs.ReferenceExtents.{extents_keep}
use Rattle.pg_law_instances.proofs.laws.reference_runs_keep_extents.Goals as goal

pub returns : goal.returns
returns c = λ p input turns gated sums regions xs h. extents_keep p gated sums regions h.regions_are h.program h.summaries input h.small h.bytes turns xs h.printed h.value h.exits
