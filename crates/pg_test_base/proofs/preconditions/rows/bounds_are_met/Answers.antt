use Rattle.std.proofs.Common.{refl}
use Rattle.pg_precondition.specs.Values.{joined, numbers_behind}
use Rattle.pg_test_base.proofs.preconditions.rows.bounds_are_met.Goals as goal

pub returns-clause-moved : goal.returns-clause-moved
unfolding joined numbers_behind
returns-clause-moved c = refl

pub returns-clause-other : goal.returns-clause-other
unfolding joined numbers_behind
returns-clause-other c = refl
