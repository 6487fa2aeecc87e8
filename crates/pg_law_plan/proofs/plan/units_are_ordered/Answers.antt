use Rattle.pg_law_plan.proofs.UnitsArePlan as law
use Rattle.pg_law_plan.proofs.plan.units_are_ordered.Goals as goal

pub returns : goal.returns
returns c r d o closed plain = law.is_plan r d o closed plain
