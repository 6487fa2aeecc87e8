use Rattle.pg_law_numbering.proofs.AcceptedIsProgram.{is_program}
use Rattle.pg_law_numbering.proofs.laws.an_accepted_tree_is_a_program.Goals as goal

pub returns : goal.returns
returns c = is_program
