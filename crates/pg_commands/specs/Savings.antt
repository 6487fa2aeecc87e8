-- How a session ended of which only its book is asked.
use Rattle.std.specs.Prelude.{◌≡◌, ◌+◌, ◌<◌, ◌⊎◌, IfOk, IsErrOf, List, Result, length}
use Rattle.pg_cache.specs.Kept.{Kept}
use Rattle.pg_ir.specs.Program.{NumberedProgram}
use Rattle.pg_io.specs.Faults.{Rose}
use Rattle.pg_io.specs.Streams.{TakesAtMost}
use Rattle.pg_num.specs.declared.limits.TheConstants.{SESSION_INPUT_LIMIT}
use Rattle.pg_session_book.specs.pg_session.Sessions.{Answer}
use Rattle.pg_session_book.specs.pg_session.Texts.{HasBytes}
use Rattle.pg_session_book.specs.pg_session.declared.fault.ServeFault.{ServeFault}
use Rattle.pg_session_book.specs.pg_session.declared.fault.ServeFault.TheVariants as fault
use Rattle.pg_session_book.specs.Entries.{EntryParts}
use Rattle.pg_session_book.specs.Runs.{Way}
use Rattle.pg_commands.specs.Commands.{KeepsMaking, SourceChange}

-- a session of the program p, whose inputs are recorded in this way, began with no entries and ended so: with what it keeps, where its
-- input is within the limit
pub record SavingEnds (Makes : List Answer → Type 0) (p : NumberedProgram) (way : Way) (source : SourceChange) (ended : Result (Kept EntryParts) ServeFault) : Type 0 where
  pub done : IfOk ended (λ last. HasBytes source.rest_before (KeepsMaking Makes p way last))
  pub no_write : IsErrOf ended fault.WriteFault → ⊥
  pub input_limit : IsErrOf ended fault.InputLimit → HasBytes source.rest_before (λ input. SESSION_INPUT_LIMIT < length input)
  pub read_cause : IsErrOf ended fault.ReadFault → Rose source.reads_before source.reads_after
  pub read_within : IsErrOf ended fault.ReadFault → TakesAtMost source.rest_before source.rest_after SESSION_INPUT_LIMIT
  pub read_count : IsErrOf ended fault.ReadFault ⊎ (source.reads_after ≡ source.reads_before)
  pub takes : TakesAtMost source.rest_before source.rest_after (SESSION_INPUT_LIMIT + 1)
