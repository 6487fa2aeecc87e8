-- The exit status of the process, and that of a session.
use Rattle.std.specs.Prelude.{ℕ, Result, Ok, Err}
use Rattle.pg_session_book.specs.pg_session.declared.fault.ServeFault.{ServeFault}
use Rattle.pg_session_book.specs.pg_session.declared.fault.ServeFault.TheVariants as fault
use Rattle.pg_commands.specs.declared.status.Status.{Status}
use Rattle.pg_commands.specs.declared.status.Status.TheVariants.{Done, Usage, ProgramRefused, ShelfFault, ReadFault, WriteFault, InputLimit, OutOfMemory, BookRefused}

abbrev pub status_code : Status → ℕ
status_code Done = 0
status_code Usage = 2
status_code ProgramRefused = 3
status_code ShelfFault = 4
status_code ReadFault = 5
status_code WriteFault = 6
status_code InputLimit = 7
status_code OutOfMemory = 8
status_code BookRefused = 9

abbrev pub status_of : ServeFault → Status
status_of fault.ReadFault = ReadFault
status_of fault.WriteFault = WriteFault
status_of fault.InputLimit = InputLimit
status_of fault.OutOfMemory = OutOfMemory

-- the status of a session that ended so
abbrev pub session_status : Result (Unit {0}) ServeFault → Status
session_status (Ok done) = Done
session_status (Err fault) = status_of fault
