use Rattle.pg_law_admitted.proofs.KnownValues.{values}
use Rattle.pg_law_admitted.proofs.prefixes.known_values_are_kept.Goals as goal

pub returns : goal.returns
returns c r d input sums turns xs z h = values r d input sums h.portions h.each h.fronts
