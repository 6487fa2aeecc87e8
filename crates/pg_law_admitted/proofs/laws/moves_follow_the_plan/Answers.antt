use Rattle.pg_law_plan.proofs.UnbegunThreads.{starts_are_fresh}
use Rattle.pg_law_plan.proofs.KnownBeforeUnits.{plan_remembers}
use Rattle.pg_law_admitted.specs.Recorded.{recording}
use Rattle.pg_law_admitted.proofs.MovesFollowPlan as law
use Rattle.pg_law_admitted.proofs.ReferenceRunJoins.{units_again}
use Rattle.pg_law_admitted.proofs.RecordedRuns.{ordered_run, plain, same_owners}
use Rattle.pg_law_admitted.proofs.laws.moves_follow_the_plan.Goals as goal

pub returns : goal.returns
returns c p recorded input s sums regions xs d z ds k q a m =
    let r = recording p recorded s regions xs in
    let o = ordered_run p recorded s sums regions xs d k in
    let h = plain p recorded s sums regions xs d k in
    let f = law.moves_follow r d input sums s.turns o h (starts_are_fresh r d o h) (plan_remembers r d o h) q.closed q.admitted q.small (same_owners p recorded s sums regions xs d k)
    (units_again p recorded s.turns s.gated sums regions xs k.reference d) z a ds m in
    (f.holds.cut, f.performs, f.settled)
