-- How `book` ends.
use Rattle.std.proofs.Common.{◌≡◌, ◌<◌, ◌+◌, refl, ℕ, ◌⊎◌, inl, inr, List, length, arith}
use Rattle.std.specs.Prelude.{Err, IsErrOf, Result}
use Rattle.pg_ir.specs.Program.{NumberedProgram}
use Rattle.pg_num.specs.declared.limits.TheConstants.{SESSION_INPUT_LIMIT}
use Rattle.pg_io.specs.Faults.{Rose}
use Rattle.pg_io.specs.Streams.{TakesAtMost}
use Rattle.pg_commands_words.specs.Pieces.{Word}
use Rattle.pg_commands_words.specs.Commands.{Meaning, book}
use Rattle.pg_commands_words.specs.declared.commands.RecordingWay.{RecordingWay}
use Rattle.pg_session_book.specs.pg_session.Texts.{HasBytes}
use Rattle.pg_session_book.specs.pg_session.declared.fault.ServeFault.{ServeFault}
use Rattle.pg_session_book.specs.pg_session.declared.fault.ServeFault.TheVariants as fault
use Rattle.pg_commands.specs.declared.status.Status.{Status}
use Rattle.pg_commands.specs.declared.status.Status.TheVariants.{Done, ProgramRefused, ReadFault, InputLimit, OutOfMemory}
use Rattle.pg_commands.specs.Commands.{CrewsMake, DueOfLines, EndsAs, Fetched, MakesRounds, SavesMaking, World, way_of}
use Rattle.pg_commands.specs.Replies.{IsWritten}
use Rattle.pg_commands.specs.Statuses.{session_status}
use Rattle.pg_commands.specs.Texts.{IsRefusalLine}
use Rattle.pg_commands.proofs.CommandEnds.{OfCrews, ends_as, none_failed, stayed, takes_same}
use Rattle.pg_commands.proofs.DueStatuses.{Program, lines_due, lines_starved, program_due, refusal_due, starved_due}
use Rattle.pg_commands.proofs.ServeEnds.{Unread, is_program}
use Rattle.pg_commands.proofs.ShowEnds.{Fetches}
use Rattle.pg_commands.proofs.WrittenEnds.{Quiet, written_ends}

-- nothing was written
pub record Unwritten (w : World) : Type 0 where
  pub taken : w.sink.taken_after ≡ w.sink.taken_before
  pub writes : w.sink.writes_after ≡ w.sink.writes_before

-- what is told of the source where no book is given
pub record NoBook (w : World) (T : Type 0) (given : Result T ServeFault) : Type 0 where
  pub no_write : IsErrOf given fault.WriteFault → ⊥
  pub input_limit : IsErrOf given fault.InputLimit → HasBytes w.source.rest_before (λ input. SESSION_INPUT_LIMIT < length input)
  pub read_cause : IsErrOf given fault.ReadFault → Rose w.source.reads_before w.source.reads_after
  pub read_within : IsErrOf given fault.ReadFault → TakesAtMost w.source.rest_before w.source.rest_after SESSION_INPUT_LIMIT
  pub read_count : IsErrOf given fault.ReadFault ⊎ (w.source.reads_after ≡ w.source.reads_before)

module _ (w : World) (file : Word) (way : RecordingWay) where
  abbrev pub saving : Meaning
  saving = book file way

  -- the line that refuses the program was handed to the sink
  pub saving_line : (line : List ℕ) (status : Status) → Unread w → Fetches w → Fetched w.shelf.texts file (λ text. IsRefusalLine text line)
      → IsWritten line ProgramRefused w.sink.taken_before w.sink.taken_after w.sink.writes_before w.sink.writes_after status → EndsAs w saving status
  saving_line line status unread fetches f =
      written_ends w saving line ProgramRefused status (record {
        fetches = fetches;
        reads = unread.reads;
        takes = takes_same w.source.rest_before w.source.rest_after (SESSION_INPUT_LIMIT + 1) unread.rest;
        crews = record { rounds = inr unread.rounds; turns = inl tt };
      })
      (λ app. record { line = (f.0, f.1, record { written = line; is_text = f.2; appended = app }); rest = unread.rest })
      (λ cut. (f.0, f.1, inr (record { written = line; is_text = f.2; appended = cut })))
      (refusal_due w file (λ p. DueOfLines w) line f)

  -- there was no memory
  pub saving_starved : Fetches w → w.source.reads_after ≡ w.source.reads_before → Unwritten w → TakesAtMost w.source.rest_before w.source.rest_after (SESSION_INPUT_LIMIT + 1)
      → OfCrews w saving → EndsAs w saving OutOfMemory
  saving_starved fetches reads unwritten takes crews =
      ends_as w saving OutOfMemory unwritten.taken (none_failed w OutOfMemory fetches reads unwritten.writes) takes crews
      (λ n. starved_due w file (λ p. DueOfLines w) (λ p. lines_starved w))

  module _ (p : NumberedProgram) (f : Program w file p) (fetches : Fetches w) (takes : TakesAtMost w.source.rest_before w.source.rest_after (SESSION_INPUT_LIMIT + 1))
      (crews : OfCrews w saving) where
    -- the book was handed to the sink
    pub saved : (text : List ℕ) (status : Status) → w.source.reads_after ≡ w.source.reads_before
        → HasBytes w.source.rest_before (λ input. SavesMaking (CrewsMake (MakesRounds way w.crew) w.workers) p (way_of way) input text)
        → IsWritten text Done w.sink.taken_before w.sink.taken_after w.sink.writes_before w.sink.writes_after status → EndsAs w saving status
    saved text status reads s =
        written_ends w saving text Done status (record { fetches = fetches; reads = reads; takes = takes; crews = crews })
        (λ app. (f.0, f.1, record { written = text; is_text = record { program = p; accepted = f.2; serves = s }; appended = app }))
        (λ cut. (f.0, f.1, inl (record { written = text; is_text = record { program = p; accepted = f.2; serves = s }; appended = cut })))
        (program_due w file (λ q. DueOfLines w) p Done f
        (lines_due w Done _ s (λ input k. ((λ h. inl refl), (λ h. let t = k.keeps.all.within in absurd (omega (arith, h, t)))))))

    -- there is no book
    pub not_saved : (T : Type 0) (why : ServeFault) → Unwritten w → NoBook w T (Err why) → EndsAs w saving (session_status (Err why))
    not_saved T fault.ReadFault unwritten h =
        ends_as w saving ReadFault (h.read_cause refl, h.read_within refl, is_program w file p f, unwritten.taken)
        (record { fetches = λ name. inr (fetches name); reads = inl refl; writes = inr unwritten.writes }) takes crews (λ n. absurd (n.reads tt (h.read_cause refl)))
    not_saved T fault.WriteFault unwritten h = absurd (h.no_write refl)
    not_saved T fault.InputLimit unwritten h =
        let more = h.input_limit refl in
        ends_as w saving InputLimit (is_program w file p f, more, unwritten.taken)
        (none_failed w InputLimit fetches (stayed _ _ _ (λ e. cc) h.read_count) unwritten.writes) takes crews
        (λ n. program_due w file (λ q. DueOfLines w) p InputLimit f
        (lines_due w InputLimit _ more (λ input k. ((λ h. absurd (omega (arith, h, k))), (λ h. inl refl)))))
    not_saved T fault.OutOfMemory unwritten h = saving_starved fetches (stayed _ _ _ (λ e. cc) h.read_count) unwritten takes crews
