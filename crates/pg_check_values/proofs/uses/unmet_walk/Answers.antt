use Rattle.pg_check_values.proofs.EarliestPlaces.{both}
use Rattle.pg_check_values.proofs.uses.unmet_walk.Goals as goal

pub returns : goal.returns
returns c = record {
  place =
      both _ _ _ _ _ c.earlier-2.ensures c.in_ok-first.ensures.place
      (both _ _ _ _ _ c.earlier.ensures c.in_ok-second.ensures.place c.in_ok-others.ensures.place);
}
