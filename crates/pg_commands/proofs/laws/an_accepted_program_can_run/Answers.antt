use Rattle.pg_commands.proofs.GuidedTexts.{accepted_can_run}
use Rattle.pg_commands.proofs.laws.an_accepted_program_can_run.Goals as goal

pub returns : goal.returns
returns c = λ text p input. accepted_can_run text p input (c.an_accepted_module_is_a_program.ensures text)
