use Rattle.pg_check_program.proofs.WholeProgram.{program_made}
use Rattle.pg_check_program.proofs.program.parts_among.Goals as goal

pub returns : goal.returns
returns c = record {
  program =
      program_made c.args.globals.now.symbols.tree.now c.as_slice-all.result.now _ _ _ _ _
      c.as_slice-all.ensures.value c.in_ok-functions.ensures.functions c.in_ok-functions.ensures.blocks c.in_ok-instrs.ensures.instrs c.in_ok-instrs.ensures.rows
      c.main_number-main.ensures;
}
