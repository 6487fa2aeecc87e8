use Rattle.pg_check_values.proofs.EarliestPlaces.{both_end}
use Rattle.pg_check_values.proofs.uses.unmet_cast.Goals as goal

pub returns : goal.returns
returns c = record {
  place = both_end _ _ _ _ _ c.earlier.ensures c.in_ok-first.ensures.place c.in_ok-second.ensures.place;
}
