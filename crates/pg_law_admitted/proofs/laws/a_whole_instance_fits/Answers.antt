use Rattle.std.proofs.Common.{◌≡◌, true}
use Rattle.pg_law_plan.specs.Units.{PlanUnit, is_instance, units_of}
use Rattle.pg_law_plan.proofs.EachUnit.{IsUnit, all_units}
use Rattle.pg_law_plan.proofs.ListMembers.{all_has}
use Rattle.pg_law_admitted.specs.Free.{JoinsAgain}
use Rattle.pg_law_admitted.specs.Recorded.{recording}
use Rattle.pg_law_admitted.proofs.ReferenceRunJoins.{units_again}
use Rattle.pg_law_admitted.proofs.RecordedRuns.{ordered_run}
use Rattle.pg_law_admitted.proofs.InstanceFits as law
use Rattle.pg_law_admitted.proofs.laws.a_whole_instance_fits.Goals as goal

pub returns : goal.returns
returns c p recorded input s sums regions xs d u a g e k small has free alike m =
    let r = recording p recorded s regions xs in
    let o = ordered_run p recorded s sums regions xs d k in
    law.whole_fits r d input sums s.turns u (all_has (IsUnit r d) (units_of r d) u (all_units r d o) has) free a g e alike o.can.program small
    (all_has (λ (v : PlanUnit). is_instance d v.seen ≡ true → JoinsAgain r sums v) (units_of r d) u (units_again p recorded s.turns s.gated sums regions xs k.reference d) has free) m
