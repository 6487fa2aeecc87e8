-- Calls of the library.
use Rattle.std.specs.Prelude.{Bool, true, false}
use Rattle.pg_seats.specs.pg_ir.declared.instr.Op.{Op}
use Rattle.pg_seats.specs.pg_ir.declared.instr.Op.TheVariants as op

abbrev pub is_call : Op → Bool
is_call (op.CallLibrary k args) = true
is_call x = false
