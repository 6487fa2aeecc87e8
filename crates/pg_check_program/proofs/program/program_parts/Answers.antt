use Rattle.pg_read_ast.specs.Views.{tree_of}
use Rattle.pg_check_program.proofs.AcceptedNumbers.{program_fits}
use Rattle.pg_check_program.proofs.program.program_parts.Goals as goal

pub parts_of-requires-clause-fits : goal.parts_of-requires-clause-fits
parts_of-requires-clause-fits c = program_fits (tree_of c.args.tree.now) c.requires.accepted
