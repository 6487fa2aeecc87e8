use Rattle.pg_law_plan.specs.Units.{units_of}
use Rattle.pg_law_plan.proofs.EachUnit.{IsUnit, all_units}
use Rattle.pg_law_plan.proofs.ListMembers.{all_has}
use Rattle.pg_law_admitted.specs.Recorded.{recording}
use Rattle.pg_law_admitted.proofs.RecordedRuns.{ordered_run}
use Rattle.pg_law_admitted.proofs.InstanceFits as law
use Rattle.pg_law_admitted.proofs.laws.a_part_of_an_instance_fits.Goals as goal

pub returns : goal.returns
returns c p recorded input s sums regions xs d u a g e k has free alike m =
    let r = recording p recorded s regions xs in
    law.part_fits r d input sums s.turns u (all_has (IsUnit r d) (units_of r d) u (all_units r d (ordered_run p recorded s sums regions xs d k)) has) free a g e alike m
