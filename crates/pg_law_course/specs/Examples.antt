-- Small steps, on which the definitions are computed.
use Rattle.std.specs.Prelude.{ℕ, List, [], ◌∷◌, true, false, None}
use Rattle.pg_ir.specs.declared.instr.Instr.{Instr}
use Rattle.pg_ir.specs.declared.instr.Op.TheVariants as op
use Rattle.pg_ir.specs.declared.library_call.LibraryCall.{LibraryCall}
use Rattle.pg_ir.specs.declared.library_call.LibraryCall.TheVariants as known
use Rattle.pg_ir.specs.Program.{NumberedProgram, numbered_program}
use Rattle.pg_run_trace.specs.declared.step.Step.{Step}
use Rattle.pg_run_trace.specs.declared.step.StepKind.TheVariants as kinds
use Rattle.pg_run_trace.specs.declared.turn.TurnKind.{TurnKind}
use Rattle.pg_law_order.specs.Examples.{access}
use Rattle.pg_law_runs.specs.Deeds.{Did}

-- a plain store of thread t to the granule, of which the rest isn't said
abbrev pub store : ℕ → ℕ → Did
store t granule = record {
  thread = t;
  to = record { local = None; taken = 0 };
  told = access t 0 granule true;
  reads = λ c. false;
  writes = λ c. None;
  objects = None;
}

-- two threads take turns
abbrev pub stores : List Did
stores = store 0 1 ∷ store 1 2 ∷ store 0 3 ∷ store 1 4 ∷ []

-- an event of this kind at this instruction, with this number as its first operand
abbrev pub print : TurnKind → ℕ → ℕ → Step
print kind place n = record {
  thread = record { 0 = 0 };
  instr = record { 0 = place };
  kind = kinds.Event (record { kind = kind; object = 0; operands = n ∷ 0 ∷ 0 ∷ 0 ∷ []; reply = 0; write = None });
}

abbrev pub call : LibraryCall → Instr
call k = record { op = op.CallLibrary k []; block = record { 0 = 0 }; result = None }

-- a program of two calls
abbrev pub prints : NumberedProgram
prints = numbered_program [] [] (call known.PgPrint ∷ call known.PgOut ∷ []) [] 0

-- cells that hold their number
abbrev pub own_number : ℕ → ℕ
own_number c = c
