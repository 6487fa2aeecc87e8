-- The numbered program of an accepted tree, whose names and ending lines stand in order, is a program.
use Rattle.pg_ir.specs.WellFormed.{IsProgram}
use Rattle.pg_read_ast.specs.Syntax.{Tree}
use Rattle.pg_check_rules.specs.Conditions.{IsUnrefused}
use Rattle.pg_check_rules.specs.Numbered.{program_of}
use Rattle.pg_law_numbering.specs.Parsed.{IsInOrder}
use Rattle.pg_law_numbering.proofs.Globals.{globals_lie, few_globals}
use Rattle.pg_law_numbering.proofs.FitsFunctions.{fits_function, fits_block, fits_main, few_functions, few_instrs}
use Rattle.pg_law_numbering.proofs.FitsInstructions.{fits_instr}

pub is_program : (m : Tree) → IsInOrder m → IsUnrefused m → IsProgram (program_of m)
is_program m order accepted = record {
  functions = fits_function m accepted;
  blocks = fits_block m accepted;
  instrs = fits_instr m accepted order;
  main = fits_main m accepted;
  globals = globals_lie m accepted;
  few_functions = few_functions m accepted;
  few_instrs = few_instrs m accepted;
  few_globals = few_globals m accepted;
}
