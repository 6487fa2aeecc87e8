-- How `serve` ends.
use Rattle.std.proofs.Common.{◌≡◌, ◌+◌, refl, sym, subst, ℕ, Bool, inl, inr, List, Option, arith}
use Rattle.std.specs.Prelude.{Err, Ok, Result}
use Rattle.pg_ir.specs.Program.{NumberedProgram}
use Rattle.pg_num.specs.declared.limits.TheConstants.{SESSION_INPUT_LIMIT}
use Rattle.pg_io.specs.Faults.{Rose}
use Rattle.pg_io.specs.Streams.{TakesAtMost}
use Rattle.pg_commands_words.specs.Pieces.{Word}
use Rattle.pg_commands_words.specs.Commands.{Meaning, serve}
use Rattle.pg_commands_words.specs.declared.commands.RecordingWay.{RecordingWay}
use Rattle.pg_cache.specs.Kept.{Kept}
use Rattle.pg_session_book.specs.pg_session.Texts.{HasBytes, ServesLimit, ServesTaken}
use Rattle.pg_session_book.specs.pg_session.declared.fault.ServeFault.{ServeFault}
use Rattle.pg_session_book.specs.pg_session.declared.fault.ServeFault.TheVariants as fault
use Rattle.pg_session_book.specs.Entries.{EntryParts}
use Rattle.pg_session_book.specs.Runs.{entry_admits, runs_by}
use Rattle.pg_commands.specs.declared.status.Status.{Status}
use Rattle.pg_commands.specs.declared.status.Status.TheVariants.{BookRefused, Done, ProgramRefused, ReadFault, WriteFault, InputLimit, OutOfMemory}
use Rattle.pg_commands.specs.Commands.{Begins, CrewsMake, DueOfBook, DueOfInput, DueOfLines, EndsAs, Fetched, IsBookLine, IsDue, IsProgram, ServesFrom, ServesMaking, SessionMakes, World, reply_form, session_way}
use Rattle.pg_commands.specs.Replies.{IsWritten}
use Rattle.pg_commands.specs.Sessions.{ServesAFront, SessionEnds}
use Rattle.pg_commands.specs.Statuses.{session_status}
use Rattle.pg_commands.specs.Texts.{IsRefusalLine}
use Rattle.pg_commands.proofs.CommandEnds.{OfCrews, ends_as, none_failed, stayed, takes_same}
use Rattle.pg_commands.proofs.DueStatuses.{NotBoth, Program, book_due, book_refusal_due, book_starved, lines_due, program_due, refusal_due, starved_due}
use Rattle.pg_commands.proofs.ShowEnds.{Fetches}
use Rattle.pg_commands.proofs.WrittenEnds.{Quiet, written_ends}

-- the source isn't read, and the crew that records makes no round
pub record Unread (w : World) : Type 0 where
  pub rest : w.source.rest_after ≡ w.source.rest_before
  pub reads : w.source.reads_after ≡ w.source.reads_before
  pub rounds : w.crew.rounds_after ≡ w.crew.rounds_before

pub is_program : (w : World) (file : Word) (p : NumberedProgram) → Program w file p → IsProgram w file
is_program w file p f = (f.0, f.1, (p, f.2))

module _ (w : World) (file : Word) (way : RecordingWay) (named : Option Word) (only json : Bool) where
  abbrev pub session : Meaning
  session = serve file way named only json

  -- ---- without a session

  no_crews : Unread w → OfCrews w session
  no_crews unread = record { rounds = inr unread.rounds; turns = inl tt }

  quiet : Unread w → Fetches w → Quiet w session
  quiet unread fetches = record {
    fetches = fetches;
    reads = unread.reads;
    takes = takes_same w.source.rest_before w.source.rest_after (SESSION_INPUT_LIMIT + 1) unread.rest;
    crews = no_crews unread;
  }

  -- the line that refuses the program was handed to the sink
  pub program_line : (line : List ℕ) (status : Status) → Unread w → Fetches w → Fetched w.shelf.texts file (λ text. IsRefusalLine text line)
      → IsWritten line ProgramRefused w.sink.taken_before w.sink.taken_after w.sink.writes_before w.sink.writes_after status → EndsAs w session status
  program_line line status unread fetches f =
      written_ends w session line ProgramRefused status (quiet unread fetches)
      (λ app. record { line = (f.0, f.1, record { written = line; is_text = f.2; appended = app }); rest = unread.rest })
      (λ cut. (f.0, f.1, inr (inl (record { written = line; is_text = f.2; appended = cut }))))
      (refusal_due w file (DueOfBook w named (DueOfLines w)) line f)

  -- the line that refuses the book was
  pub book_line : NotBoth → (p : NumberedProgram) (line : List ℕ) (status : Status) → Unread w → Fetches w → Program w file p → IsBookLine w.shelf.texts named p line
      → IsWritten line BookRefused w.sink.taken_before w.sink.taken_after w.sink.writes_before w.sink.writes_after status → EndsAs w session status
  book_line apart p line status unread fetches f l =
      written_ends w session line BookRefused status (quiet unread fetches)
      (λ app. record { line = (f.0, f.1, record { written = line; is_text = record { program = p; accepted = f.2; serves = l }; appended = app }); rest = unread.rest })
      (λ cut. (f.0, f.1, inr (inr (record { written = line; is_text = record { program = p; accepted = f.2; serves = l }; appended = cut }))))
      (program_due w file (DueOfBook w named (DueOfLines w)) p BookRefused f (book_refusal_due apart w named p line l))

  -- there was no memory before the first line was read
  pub unstarted : Unread w → Fetches w → w.sink.taken_after ≡ w.sink.taken_before → w.sink.writes_after ≡ w.sink.writes_before → EndsAs w session OutOfMemory
  unstarted unread fetches taken writes =
      ends_as w session OutOfMemory (inl taken) (none_failed w OutOfMemory fetches unread.reads writes)
      (takes_same w.source.rest_before w.source.rest_after (SESSION_INPUT_LIMIT + 1) unread.rest) (no_crews unread)
      (λ n. starved_due w file (DueOfBook w named (DueOfLines w)) (book_starved w named))

  -- ---- with a session of the program p that begins with these entries

  module _ (apart : NotBoth) (p : NumberedProgram) (first : Kept EntryParts) (f : Program w file p) (begun : Begins w.shelf.texts named p first) (fetches : Fetches w)
      (takes : TakesAtMost w.source.rest_before w.source.rest_after (SESSION_INPUT_LIMIT + 1)) (crews : OfCrews w session) where
    from : (Serves : NumberedProgram → Kept EntryParts → Type 0) → Serves p first → Fetched w.shelf.texts file (λ text. ServesFrom text named w Serves)
    from Serves s = (f.0, f.1, record { program = p; accepted = f.2; serves = (first, begun, s) })

    due : (status : Status) (P : List ℕ → Type 0) → HasBytes w.source.rest_before P → ((input : List ℕ) → P input → DueOfInput input status) → IsDue w status session
    due status P s each =
        program_due w file (DueOfBook w named (DueOfLines w)) p status f (book_due apart w named p first status begun (lines_due w status P s each))

    serve_done : w.source.reads_after ≡ w.source.reads_before → w.sink.writes_after ≡ w.sink.writes_before
        → HasBytes w.source.rest_before (ServesMaking (reply_form json) (CrewsMake (SessionMakes way only w.crew) w.workers) p (session_way way only) first w.sink.taken_before w.sink.taken_after) → EndsAs w session Done
    serve_done reads writes served =
        ends_as w session Done (from _ served) (none_failed w Done fetches reads writes) takes crews
        (λ n. due Done _ served (λ input s. ((λ h. inl refl), (λ h. let t = s.all.within in absurd (omega (arith, h, t))))))

    serve_limit : w.source.reads_after ≡ w.source.reads_before → w.sink.writes_after ≡ w.sink.writes_before
        → HasBytes w.source.rest_before (ServesLimit (reply_form json) entry_admits (runs_by p (session_way way only)) first w.sink.taken_before w.sink.taken_after) → EndsAs w session InputLimit
    serve_limit reads writes served =
        ends_as w session InputLimit (from _ served) (none_failed w InputLimit fetches reads writes) takes crews
        (λ n. due InputLimit _ served (λ input s. ((λ h. let t = s.beyond in absurd (omega (arith, h, t))), (λ h. inl refl))))

    serve_unread : Rose w.source.reads_before w.source.reads_after → w.sink.writes_after ≡ w.sink.writes_before
        → TakesAtMost w.source.rest_before w.source.rest_after SESSION_INPUT_LIMIT
        → ServesTaken (reply_form json) entry_admits (runs_by p (session_way way only)) first w.source.rest_before w.source.rest_after w.sink.taken_before w.sink.taken_after → EndsAs w session ReadFault
    serve_unread rose writes within served =
        ends_as w session ReadFault (rose, within, from _ served)
        (record { fetches = λ name. inr (fetches name); reads = inl refl; writes = inr writes }) takes crews (λ n. absurd (n.reads tt rose))

    -- a front of the replies
    abbrev Front : Type 0
    Front = ServesAFront (reply_form json) p (session_way way only) first w.source w.sink

    serve_cut : w.source.reads_after ≡ w.source.reads_before → Rose w.sink.writes_before w.sink.writes_after → Front → EndsAs w session WriteFault
    serve_cut reads rose served =
        ends_as w session WriteFault (rose, (f.0, f.1, inl (record { program = p; accepted = f.2; serves = (first, begun, served) })))
        (record { fetches = λ name. inr (fetches name); reads = inr reads; writes = inl refl }) takes crews (λ n. absurd (n.writes rose))

    serve_starved : w.source.reads_after ≡ w.source.reads_before → w.sink.writes_after ≡ w.sink.writes_before → Front → EndsAs w session OutOfMemory
    serve_starved reads writes served =
        ends_as w session OutOfMemory (inr (from _ served)) (none_failed w OutOfMemory fetches reads writes) takes crews
        (λ n. starved_due w file (DueOfBook w named (DueOfLines w)) (book_starved w named))

    -- ---- which ended so

    pub serve_ended : (r : Result (Unit {0}) ServeFault) → SessionEnds (reply_form json) (CrewsMake (SessionMakes way only w.crew) w.workers) p (session_way way only) first w.source w.sink r
        → EndsAs w session (session_status r)
    serve_ended (Ok done) h = serve_done (stayed _ _ _ (λ e. cc) h.read_count) (stayed _ _ _ (λ e. cc) h.write_count) h.done
    serve_ended (Err fault.ReadFault) h = serve_unread (h.read_cause refl) (stayed _ _ _ (λ e. cc) h.write_count) (h.read_within refl) (h.read_fault refl)
    serve_ended (Err fault.WriteFault) h = serve_cut (stayed _ _ _ (λ e. cc) h.read_count) (h.write_cause refl) (h.write_fault refl)
    serve_ended (Err fault.InputLimit) h = serve_limit (stayed _ _ _ (λ e. cc) h.read_count) (stayed _ _ _ (λ e. cc) h.write_count) (h.input_limit refl)
    serve_ended (Err fault.OutOfMemory) h = serve_starved (stayed _ _ _ (λ e. cc) h.read_count) (stayed _ _ _ (λ e. cc) h.write_count) (h.out_of_memory refl)
