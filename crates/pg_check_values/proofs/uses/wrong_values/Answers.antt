use Rattle.pg_check_values.proofs.EarliestPlaces.{both}
use Rattle.pg_check_values.proofs.uses.wrong_values.Goals as goal

pub returns : goal.returns
returns c = record {
  place = λ g s.
      both _ _ _ _ _ c.earlier.ensures (c.in_ok-own.ensures.place g s) (c.in_ok-within.ensures.place g s);
}
