use Rattle.pg_num.proofs.Moves.{start-moved_by, length-moved_by, offset-moved_by, moved_by-fits}
use Rattle.pg_num.proofs.laws.a_move_keeps_the_bounds.Goals as goal

pub returns-clause-start : goal.returns-clause-start
returns-clause-start c = start-moved_by

pub returns-clause-length : goal.returns-clause-length
returns-clause-length c = length-moved_by

pub returns-clause-offset : goal.returns-clause-offset
returns-clause-offset c = offset-moved_by

pub returns-clause-word : goal.returns-clause-word
returns-clause-word c = moved_by-fits
