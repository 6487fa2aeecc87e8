-- What a session of a program begins with, and how it ended.
use Rattle.std.specs.Prelude.{◌≡◌, ℕ, ◌+◌, ◌⊎◌, IsErrOf, List, OnOk, Option, Result}
use Rattle.pg_cache.specs.Kept.{Kept}
use Rattle.pg_commands_words.specs.Pieces.{Word}
use Rattle.pg_ir.specs.Program.{NumberedProgram}
use Rattle.pg_io.specs.Faults.{Rose}
use Rattle.pg_io.specs.Streams.{TakesAtMost}
use Rattle.pg_num.specs.declared.limits.TheConstants.{SESSION_INPUT_LIMIT}
use Rattle.pg_session_book.specs.pg_session.Counts.{RoseBy}
use Rattle.pg_session_book.specs.pg_session.Lines.{lines_of}
use Rattle.pg_session_book.specs.pg_session.Sessions.{Answer}
use Rattle.pg_session_book.specs.pg_session.Texts.{HasBytes, ServesFront, ServesLimit, ServesTaken}
use Rattle.pg_session_book.specs.pg_session.declared.fault.ServeFault.{ServeFault}
use Rattle.pg_session_book.specs.pg_session.declared.fault.ServeFault.TheVariants as fault
use Rattle.pg_session_book.specs.pg_session.pg_session_texts.declared.forms.ReplyForm.{ReplyForm}
use Rattle.pg_session_book.specs.Entries.{EntryParts}
use Rattle.pg_session_book.specs.Runs.{Way, entry_admits, runs_by}
use Rattle.pg_session_book.specs.declared.opening.OpenedBook.{OpenedBook}
use Rattle.pg_session_book.specs.declared.opening.OpenedBook.TheVariants.{Entries, Refused}
use Rattle.pg_commands.specs.Commands.{Begins, CrewChange, IsBookLine, ServesMaking, SinkChange, SourceChange}

-- what a session of the program begins with, or the line that refuses its book
abbrev pub IsOpening : (List ℕ → Option (List ℕ)) → Option Word → NumberedProgram → OpenedBook → Type 0
IsOpening texts named p (Entries first) = Begins texts named p first
IsOpening texts named p (Refused line) = IsBookLine texts named p line.items

-- what is told of so many recordings: nothing; or that the crew made as many rounds at least, as far as they are counted
abbrev pub nothing_told : ℕ → Type 0
nothing_told recordings = Unit {0}

abbrev pub rounds_told : CrewChange → ℕ → Type 0
rounds_told crew recordings = RoseBy recordings crew.rounds_before crew.rounds_after

-- a front of the replies in this form to the lines of what the source had
abbrev pub ServesAFront : ReplyForm → NumberedProgram → Way → Kept EntryParts → SourceChange → SinkChange → Type 0
ServesAFront form p way first source sink =
    HasBytes source.rest_before (λ input. ServesFront form entry_admits (runs_by p way) first (lines_of input) sink.taken_before sink.taken_after)

-- a session of the program p in this form, whose inputs are recorded in this way, began with these entries and ended so
pub record SessionEnds (form : ReplyForm) (Makes : List Answer → Type 0) (p : NumberedProgram) (way : Way) (first : Kept EntryParts) (source : SourceChange) (sink : SinkChange) (ended : Result (Unit {0}) ServeFault) : Type 0 where
  pub done : OnOk ended (HasBytes source.rest_before (ServesMaking form Makes p way first sink.taken_before sink.taken_after))
  pub input_limit : IsErrOf ended fault.InputLimit → HasBytes source.rest_before (ServesLimit form entry_admits (runs_by p way) first sink.taken_before sink.taken_after)
  pub read_fault : IsErrOf ended fault.ReadFault → ServesTaken form entry_admits (runs_by p way) first source.rest_before source.rest_after sink.taken_before sink.taken_after
  pub write_fault : IsErrOf ended fault.WriteFault → ServesAFront form p way first source sink
  pub out_of_memory : IsErrOf ended fault.OutOfMemory → ServesAFront form p way first source sink
  pub read_cause : IsErrOf ended fault.ReadFault → Rose source.reads_before source.reads_after
  pub read_within : IsErrOf ended fault.ReadFault → TakesAtMost source.rest_before source.rest_after SESSION_INPUT_LIMIT
  pub read_count : IsErrOf ended fault.ReadFault ⊎ (source.reads_after ≡ source.reads_before)
  pub write_cause : IsErrOf ended fault.WriteFault → Rose sink.writes_before sink.writes_after
  pub write_count : IsErrOf ended fault.WriteFault ⊎ (sink.writes_after ≡ sink.writes_before)
  pub takes : TakesAtMost source.rest_before source.rest_after (SESSION_INPUT_LIMIT + 1)
