use Rattle.pg_law_numbering.proofs.AcceptedIsProgram.{is_program}
use Rattle.pg_law_numbering.proofs.laws.an_accepted_module_is_a_program.Goals as goal

pub returns : goal.returns
returns c = λ text m module_is accepted. is_program m (c.a_module_is_in_order.ensures text m module_is) accepted
