-- The reference run: its steps, and of the state before each what its symbolic value rests on.
use Rattle.std.specs.Prelude.{ℕ, ℤ, List, [], ◌∷◌, Option, Some, None, slice_get}
use Rattle.pg_precondition.specs.pg_num.Places.{ByteRange}
use Rattle.pg_region_paths.specs.pg_ir.declared.ids.InstrId.{InstrId}
use Rattle.pg_region_paths.specs.pg_ir.declared.instr.Instr.{Instr}
use Rattle.pg_region_paths.specs.pg_ir.Program.{NumberedProgram}
use Rattle.pg_run.specs.pg_run_memory.Bytes.{number_of}
use Rattle.pg_run.specs.pg_run_memory.Memory.{byte_at}
use Rattle.pg_run.specs.pg_law_threads.Intervals.{Timed}
use Rattle.pg_run.specs.pg_run_thread.LocalState.{Frame, LocalState}
use Rattle.pg_run.specs.pg_run_trace.declared.step.Step.{Step}
use Rattle.pg_run.specs.pg_run_trace.Races.{recorded, timed_by}
use Rattle.pg_run.specs.State.{State, initial}
use Rattle.pg_run.specs.MachineStep.{Stepped, Did, Trapped, step}

-- a step with its interval, the calls of its thread before it, the present one first, and the bytes of memory before it
pub record Moment : Type 0 where
  pub did : Timed Step
  pub calls : List Frame
  pub bytes : ℕ → ℕ

abbrev pub thread_in : Moment → ℕ
thread_in m = m.did.did.thread.0

-- the number in a range of memory
abbrev pub number_in : Moment → ByteRange → ℕ
number_in m r = number_of m.bytes r.start r.bytes

abbrev pub registers_in : List Frame → List (Option ℕ)
registers_in [] = []
registers_in (f ∷ fs) = f.registers

-- the instruction of a step
abbrev pub instr_in : NumberedProgram → Moment → Option Instr
instr_in p m = slice_get p.instrs m.did.did.instr.0

abbrev pub calls_of : Option LocalState → List Frame
calls_of None = []
calls_of (Some l) = l.frames

-- the state behind a step that was done
abbrev pub state_after : State → Stepped → State
state_after s (Did x z) = z
state_after s (Trapped name id) = s

-- steps of a run from a state on, with what each starts from
unfoldable pub moments_from : List InstrId → NumberedProgram → List ℤ → State → List (Timed Step) → List Moment
moments_from gated p input s [] = []
moments_from gated p input s (x ∷ xs) =
    record { did = x; calls = calls_of (slice_get s.locals x.did.thread.0); bytes = byte_at s.memory }
    ∷ moments_from gated p input (state_after s (step gated p input s x.did.thread.0)) xs

-- the steps of a run of a program on an input, with what each starts from
abbrev pub moments_of : List InstrId → NumberedProgram → List ℤ → List Step → List Moment
moments_of gated p input xs = moments_from gated p input (initial p) (timed_by recorded xs)
