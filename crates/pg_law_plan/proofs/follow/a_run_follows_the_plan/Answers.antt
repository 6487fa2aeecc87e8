use Rattle.pg_law_plan.proofs.UnbegunThreads.{starts_are_fresh}
use Rattle.pg_law_plan.proofs.KnownBeforeUnits.{plan_remembers, units_single}
use Rattle.pg_law_plan.proofs.RunFollowsPlan as law
use Rattle.pg_law_plan.proofs.follow.a_run_follows_the_plan.Goals as goal

pub returns : goal.returns
returns c r d input turns s ds o plain alone closed admitted small same a m =
    let k = law.stands_at_cuts r d input turns o plain (starts_are_fresh r d o plain) (units_single r d o alone) (plan_remembers r d o plain) closed admitted small same s a ds m in
    (k.holds.cut, k.performs, k.settled)
