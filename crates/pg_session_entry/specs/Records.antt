-- What comes of recording a run.
use Rattle.std.specs.Prelude.{◌≡◌, ℕ, ℤ, List}
use Rattle.pg_ir.specs.Program.{NumberedProgram}
use Rattle.pg_run_trace.specs.declared.step.Step.{Step}
use Rattle.pg_run.specs.declared.outcome.Outcome.{Outcome}
use Rattle.pg_run.specs.declared.outcome.Outcome.TheVariants as ends
use Rattle.pg_run.specs.Recordings.{IsRecording}
use Rattle.pg_run.specs.Rotation.{RunResult}
use Rattle.pg_run.specs.State.{State}
use Rattle.pg_session_entry.specs.Entries.{IsEntry}
use Rattle.pg_session_entry.specs.declared.recorded.Record.{Record}
use Rattle.pg_session_entry.specs.declared.recorded.Record.TheVariants as records

-- the record of this run: where it exits its entry and its value, else its end; and what it printed
abbrev pub IsRecord : NumberedProgram → List ℤ → RunResult → Record → Type 0
IsRecord p input run (records.Kept entry output value) = (run.end ≡ ends.Exit value) × (output.items ≡ run.state.printed) × IsEntry p input run.trace run.state entry
IsRecord p input run (records.Refused refusal output) = (run.end ≡ ends.Refused refusal) × (output.items ≡ run.state.printed)

-- a recording of these steps that ends so printed this
abbrev pub IsPrinted : NumberedProgram → List ℤ → List Step → Outcome → List ℕ → Type 0
IsPrinted p input xs end printed = (z : State) × IsRecording p input xs z end × (printed ≡ z.printed)

-- so it did, and this is its record
abbrev pub IsRecordOf : NumberedProgram → List ℤ → List Step → Outcome → List ℕ → Record → Type 0
IsRecordOf p input xs end printed r = (z : State) × IsRecording p input xs z end × (printed ≡ z.printed) × IsRecord p input (record { trace = xs; state = z; end = end }) r
