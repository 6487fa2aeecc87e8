use Rattle.pg_check_values.proofs.EarliestPlaces.{both}
use Rattle.pg_check_values.proofs.names.unknown_values.Goals as goal

pub returns : goal.returns
returns c = λ g k t s. both _ _ _ _ _ c.earlier.ensures (c.unknown_value.ensures g s) (c.unknown_within-within.ensures g s)
