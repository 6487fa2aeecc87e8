-- A step that only the thread's own state decides and sees, in one piece with what is told of it.
use Rattle.std.specs.Prelude.{ℕ, length, Option, Some, None, slice_get, slice_index}
use Rattle.pg_ir.specs.declared.library_call.LibraryCall.{LibraryCall}
use Rattle.pg_ir.specs.declared.library_call.LibraryCall.TheVariants as known
use Rattle.pg_ir.specs.declared.instr.Op.{Op}
use Rattle.pg_ir.specs.declared.instr.Op.TheVariants as op
use Rattle.pg_ir.specs.declared.instr.Instr.{Instr}
use Rattle.pg_ir.specs.Program.{NumberedProgram}
use Rattle.pg_run_thread.specs.declared.action.Action.{Action}
use Rattle.pg_run_thread.specs.declared.action.Action.TheVariants as actions
use Rattle.pg_run_thread.specs.declared.advance.Advance.{Advance}
use Rattle.pg_run_thread.specs.declared.advance.Advance.TheVariants.{Done, Asks}
use Rattle.pg_run_thread.specs.declared.advance.LocalStep.{LocalStep}
use Rattle.pg_run_thread.specs.declared.advance.LocalStep.TheVariants as told
use Rattle.pg_run_thread.specs.LocalState.{LocalState, own_memory}
use Rattle.pg_run_thread.specs.Step.{next, after, instr_after, op_action, top_registers, total}
use Rattle.pg_run_thread.specs.Told.{id_of, number_given, operand_values, op_own, or_zero}
use Rattle.pg_run_thread.specs.Operands.{number_at, operands_of}

-- ---- what is told, by the number of the first operand and the number that the register gets

abbrev pub library_local : ℕ → ℕ → LibraryCall → LocalStep
library_local first number known.Malloc = told.Allocation first number
library_local first number k = told.Other

abbrev pub op_local : ℕ → ℕ → Op → LocalStep
op_local first number (op.CondBr c a b) = told.Branch first
op_local first number (op.Switch w on other cases) = told.Branch first
op_local first number (op.Alloca bytes) = told.Allocation 0 number
op_local first number (op.CallLibrary k args) = library_local first number k
op_local first number o = told.Other

abbrev pub instr_local : ℕ → ℕ → Option Instr → LocalStep
instr_local first number None = told.Other
instr_local first number (Some x) = op_local first number x.op

unfoldable pub local_told : NumberedProgram → LocalState → LocalStep
local_told p l = instr_local (slice_index (operand_values p l) 0) (number_given p l 0) (slice_get p.instrs (id_of l))

-- ---- the state after the step and what is told of it, or the state as it was and what the step asks

abbrev pub done_if : Action → LocalState → LocalState → LocalStep → LocalState × Advance
done_if actions.Local l next_l t = (next_l, Done t)
done_if a l next_l t = (l, Asks a)

-- the same by the present instruction of a thread that has begun
abbrev pub instr_done : NumberedProgram → LocalState → Instr → LocalState × Advance
instr_done p l x =
    done_if (op_action p (own_memory l) l.halfway (top_registers l.frames) (length l.frames) (total l.frames) x.block.0 x.op) l (instr_after p l 0 (Some x))
    (op_local (number_at p (top_registers l.frames) (operands_of x.op) 0) (or_zero x.result (op_own p l (top_registers l.frames) 0 x.op)) x.op)

unfoldable pub advanced : NumberedProgram → LocalState → LocalState × Advance
advanced p l = done_if (next p l) l (after p l 0) (local_told p l)
