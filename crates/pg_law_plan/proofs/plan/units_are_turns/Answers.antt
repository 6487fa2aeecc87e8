use Rattle.pg_law_plan.proofs.UnitTurns as law
use Rattle.pg_law_plan.proofs.plan.units_are_turns.Goals as goal

pub returns-clause-turns : goal.returns-clause-turns
returns-clause-turns c r d h = law.turns_are r d h

pub returns-clause-intervals : goal.returns-clause-intervals
returns-clause-intervals c r d h = law.intervals_are r d h
