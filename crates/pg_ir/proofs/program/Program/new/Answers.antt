use Rattle.std.proofs.Common.{sym}
use Rattle.pg_ir.proofs.ProgramDecide.{fits_program}
use Rattle.pg_ir.proofs.program.Program.new.Goals as goal

pub from_parts-requires-clause-program : goal.from_parts-requires-clause-program
from_parts-requires-clause-program c = fits_program _ (sym c.if-not-fit.ensures)
