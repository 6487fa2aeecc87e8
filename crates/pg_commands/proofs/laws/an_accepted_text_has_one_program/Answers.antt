use Rattle.pg_commands.proofs.TextVerdicts.{one_program}
use Rattle.pg_commands.proofs.laws.an_accepted_text_has_one_program.Goals as goal

pub returns : goal.returns
returns c = one_program
