-- The function with which each thread begins, by the schedule alone.
use Rattle.std.specs.Prelude.{ℕ, ◌==◌, ◌&&◌, List, Bool, true, false, Option, Some, None, find, slice_get, if◌then◌else◌}
use Rattle.pg_ir.specs.declared.instr.Instr.{Instr}
use Rattle.pg_ir.specs.declared.value.Value.{Value}
use Rattle.pg_ir.specs.declared.value.Value.TheVariants as value
use Rattle.pg_ir.specs.Program.{NumberedProgram}
use Rattle.pg_run_thread.specs.Operands.{operands_of}
use Rattle.pg_run_trace.specs.declared.turn.Turn.{Turn}
use Rattle.pg_run_trace.specs.declared.turn.TurnKind.{TurnKind}
use Rattle.pg_run_trace.specs.declared.turn.TurnKind.TheVariants as kinds

abbrev pub is_create : TurnKind → Bool
is_create kinds.Create = true
is_create kind = false

-- the turn creates thread t
abbrev pub creates : ℕ → Turn → Bool
creates t u = is_create u.kind && (u.object == t)

-- a function's name as a value
abbrev pub function_value : Option Value → Option ℕ
function_value None = None
function_value (Some (value.Function f)) = Some f
function_value (Some v) = None

-- the function that the third operand names
abbrev pub function_operand : Option Instr → Option ℕ
function_operand None = None
function_operand (Some x) = function_value (slice_get (operands_of x.op) 2)

abbrev pub or_main : NumberedProgram → Option ℕ → ℕ
or_main p None = p.main
or_main p (Some f) = f

abbrev pub created_by : NumberedProgram → Option Turn → ℕ
created_by p None = p.main
created_by p (Some u) = or_main p (function_operand (slice_get p.instrs u.instr.0))

-- the function with which thread t begins: that which the first turn that creates the thread names at its instruction; main for the
-- main thread, and for a thread that no turn creates
abbrev pub start_function : NumberedProgram → List Turn → ℕ → ℕ
start_function p turns t = if t == 0 then p.main else created_by p (find (creates t) turns)
