use Rattle.pg_num.proofs.Moves.{moved_by-moved_by, moved_by-zero}
use Rattle.pg_num.proofs.laws.moves_add.Goals as goal

pub returns-clause-sum : goal.returns-clause-sum
returns-clause-sum c = moved_by-moved_by

pub returns-clause-zero : goal.returns-clause-zero
returns-clause-zero c = moved_by-zero
