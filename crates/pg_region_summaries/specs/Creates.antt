-- The functions that creates name.
use Rattle.std.specs.Prelude.{ℕ, Bool, Option, Some, None, slice_get}
use Rattle.std.specs.List.{list_any}
use Rattle.pg_ir.specs.declared.library_call.LibraryCall.TheVariants.{PthreadCreate}
use Rattle.pg_ir.specs.declared.value.Value.{Value}
use Rattle.pg_ir.specs.declared.value.Value.TheVariants as value
use Rattle.pg_ir.specs.declared.instr.Instr.{Instr}
use Rattle.pg_ir.specs.declared.instr.Op.{Op}
use Rattle.pg_ir.specs.declared.instr.Op.TheVariants as op
use Rattle.pg_ir.specs.Program.{NumberedProgram}
use Rattle.pg_region_paths.specs.Registers.{is_register}

abbrev pub named : Option Value → Option ℕ
named (Some (value.Function f)) = Some f
named _ = None

-- the function with which a thread begins that the operation makes, if it makes one
abbrev pub op_starts : Op → Option ℕ
op_starts (op.CallLibrary PthreadCreate args) = named (slice_get args 2)
op_starts _ = None

unfoldable pub is_started : NumberedProgram → ℕ → Bool
is_started p f = list_any (λ (x : Instr). is_register (op_starts x.op) f) p.instrs
