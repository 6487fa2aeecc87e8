use Rattle.std.proofs.Common.{refl}
use Rattle.pg_precondition.specs.Values.{joined, numbers_behind}
use Rattle.pg_test_base.proofs.preconditions.rows.bytes_have_these_numbers.Goals as goal

pub returns : goal.returns
unfolding joined numbers_behind
returns c = refl
