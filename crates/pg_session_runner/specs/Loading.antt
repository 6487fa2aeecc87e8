-- Loading: an entry of turns that are given, and why there is none.
use Rattle.std.specs.Prelude.{◌≡◌, ℤ, Bool, true, false, List, Option, Some, None, slice_get}
use Rattle.std.specs.List.{list_all}
use Rattle.pg_go.specs.pg_ir.declared.ids.InstrId.{InstrId}
use Rattle.pg_go.specs.pg_ir.declared.instr.Instr.{Instr}
use Rattle.pg_go.specs.pg_ir.declared.instr.Op.{Op}
use Rattle.pg_go.specs.pg_ir.declared.instr.Op.TheVariants as op
use Rattle.pg_go.specs.pg_ir.Program.{NumberedProgram}
use Rattle.pg_go.specs.pg_run_trace.declared.turn.Turn.{Turn}
use Rattle.pg_go.specs.pg_run.Follow.{following_of}
use Rattle.pg_law_reuse.specs.Faults.{IsFault}
use Rattle.pg_session_runner.specs.declared.loading.LoadFault.{LoadFault}
use Rattle.pg_session_runner.specs.declared.loading.LoadFault.TheVariants as faults

abbrev pub is_load_or_store : Op → Bool
is_load_or_store (op.Load width from) = true
is_load_or_store (op.Store width value at) = true
is_load_or_store _ = false

abbrev pub is_access_at : Option Instr → Bool
is_access_at None = false
is_access_at (Some x) = is_load_or_store x.op

-- the number is that of a load or a store of the program
abbrev pub names_access : NumberedProgram → InstrId → Bool
names_access p id = is_access_at (slice_get p.instrs id.0)

-- they all are
abbrev pub are_accesses : NumberedProgram → List InstrId → Bool
are_accesses p ids = list_all (names_access p) ids

-- why these turns on this input give no entry: first of all, one of the instructions that are gated is no load or store
abbrev pub IsLoadFault : NumberedProgram → List ℤ → List Turn → List InstrId → LoadFault → Type 0
IsLoadFault p input us gated faults.Gate = are_accesses p gated ≡ false
IsLoadFault p input us gated (faults.Turns fault) = (are_accesses p gated ≡ true) × IsFault fault (following_of p input us gated)
