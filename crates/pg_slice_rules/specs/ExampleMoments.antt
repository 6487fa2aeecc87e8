-- The moments of the computed examples, as a line each.
use Rattle.std.specs.Prelude.{ℕ, List, Bool, Option, Some}
use Rattle.pg_run.specs.pg_run_thread.LocalState.{Frame}
use Rattle.pg_run.specs.pg_run_trace.declared.turn.TurnKind.{TurnKind}
use Rattle.pg_run.specs.pg_run_trace.declared.step.StepKind.{StepKind}
use Rattle.pg_run.specs.pg_run_trace.declared.step.StepKind.TheVariants as kinds
use Rattle.pg_run.specs.pg_run_trace.declared.step.Write.{Write}
use Rattle.pg_slice_rules.specs.Moments.{Moment}

-- a call by its function, the place that it is at, its registers and the height of its stack
abbrev pub frame : ℕ → ℕ → List (Option ℕ) → ℕ → Frame
frame function place registers height = record { function = function; place = place; registers = registers; height = height }

-- an event by its kind, its object, its operands, its reply and what it writes
abbrev pub event : TurnKind → ℕ → List ℕ → ℕ → Option Write → StepKind
event kind object operands reply write = kinds.Event (record { kind = kind; object = object; operands = operands; reply = reply; write = write })

-- a write by its pointer and the number
abbrev pub writing : ℕ → ℕ → Option Write
writing pointer number = Some (record { pointer = pointer; number = number })

-- an access by its pointer, the number, its bytes, whether it writes and whether it is an event's
abbrev pub access : ℕ → ℕ → ℕ → Bool → Bool → StepKind
access pointer number bytes writes event = kinds.Access (record { pointer = pointer; number = number; bytes = bytes; writes = writes; event = event })

-- a step of a thread at an instruction by its kind and its interval, with the calls of its thread and the bytes before it
abbrev pub moment : ℕ → ℕ → StepKind → ℕ → ℕ → List Frame → (ℕ → ℕ) → Moment
moment thread instr kind low high calls bytes = record {
  did = record { did = record { thread = record { 0 = thread }; instr = record { 0 = instr }; kind = kind }; low = low; high = high };
  calls = calls;
  bytes = bytes;
}
