-- What a thread tells of its present step.
use Rattle.std.specs.Prelude.{ℕ, List, [], ◌∷◌, Bool, true, false, Option, Some, None, slice_get, if◌then◌else◌}
use Rattle.pg_ir.specs.declared.library_call.LibraryCall.{LibraryCall}
use Rattle.pg_ir.specs.declared.library_call.LibraryCall.TheVariants as known
use Rattle.pg_ir.specs.declared.instr.Op.{Op}
use Rattle.pg_ir.specs.declared.instr.Op.TheVariants as op
use Rattle.pg_ir.specs.declared.instr.Instr.{Instr}
use Rattle.pg_ir.specs.Program.{NumberedProgram}
use Rattle.pg_run_thread.specs.LocalState.{Frame, LocalState, own_memory}
use Rattle.pg_run_thread.specs.Operands.{operands_of, first_four}
use Rattle.pg_run_thread.specs.Step.{result_number}

abbrev pub place_in : List Frame → ℕ
place_in [] = 0
place_in (f ∷ fs) = f.place

-- the number of the present instruction, for a start that of the function's first
unfoldable pub id_of : LocalState → ℕ
id_of l = place_in l.frames

-- ---- the number that the instruction's own register gets in this step, 0 where it gets none

abbrev pub or_zero : Option ℕ → ℕ → ℕ
or_zero None n = 0
or_zero (Some r) n = n

-- the first half of a wait sets nothing
abbrev pub library_own : Bool → LibraryCall → ℕ → ℕ
library_own halfway known.PthreadCondWait n = if halfway then n else 0
library_own halfway known.PthreadBarrierWait n = if halfway then n else 0
library_own halfway k n = n

-- a call's register is set by the step that returns to it
abbrev pub op_own : NumberedProgram → LocalState → List (Option ℕ) → ℕ → Op → ℕ
op_own p l rs answer (op.Call f args) = 0
op_own p l rs answer (op.CallLibrary k args) = library_own l.halfway k (result_number p (own_memory l) rs (op.CallLibrary k args) answer)
op_own p l rs answer o = result_number p (own_memory l) rs o answer

abbrev pub instr_own : NumberedProgram → LocalState → List (Option ℕ) → ℕ → Option Instr → ℕ
instr_own p l rs answer None = 0
instr_own p l rs answer (Some x) = or_zero x.result (op_own p l rs answer x.op)

abbrev pub frames_own : NumberedProgram → LocalState → Bool → List Frame → ℕ → ℕ
frames_own p l begun [] answer = 0
frames_own p l false (f ∷ fs) answer = 0
frames_own p l true (f ∷ fs) answer = instr_own p l f.registers answer (slice_get p.instrs f.place)

unfoldable pub number_given : NumberedProgram → LocalState → ℕ → ℕ
number_given p l answer = frames_own p l l.begun l.frames answer

-- ---- the values of the first four operands; a start has none

abbrev pub no_operands : List ℕ
no_operands = 0 ∷ 0 ∷ 0 ∷ 0 ∷ []

abbrev pub instr_operands : NumberedProgram → List (Option ℕ) → Option Instr → List ℕ
instr_operands p rs None = no_operands
instr_operands p rs (Some x) = first_four p rs (operands_of x.op)

abbrev pub frames_operands : NumberedProgram → Bool → List Frame → List ℕ
frames_operands p begun [] = no_operands
frames_operands p false (f ∷ fs) = no_operands
frames_operands p true (f ∷ fs) = instr_operands p f.registers (slice_get p.instrs f.place)

unfoldable pub operand_values : NumberedProgram → LocalState → List ℕ
operand_values p l = frames_operands p l.begun l.frames
