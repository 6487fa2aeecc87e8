-- What each command writes, and with which status it ends.
use Rattle.std.specs.Prelude.{◌≡◌, ℕ, ℤ, ◌<◌, ◌≤◌, ◌+◌, ◌⊎◌, Bool, true, false, List, count_by, length, Option, None, Some, IfSome}
use Rattle.std.specs.Io.KnownBytes.{Appends}
use Rattle.std.specs.List.{sum_by}
use Rattle.pg_num.specs.declared.limits.TheConstants.{PROGRAM_TEXT_LIMIT, SESSION_INPUT_LIMIT}
use Rattle.pg_ir.specs.Program.{NumberedProgram}
use Rattle.pg_cache.specs.Kept.{Kept}
use Rattle.pg_io.specs.Faults.{Rose}
use Rattle.pg_io.specs.Streams.{AppendsFront, TakesAtMost}
use Rattle.pg_commands_words.specs.Pieces.{Word}
use Rattle.pg_commands_words.specs.Commands.{Meaning, Means, NoCommand, book, conditions, once, serve, show, trial}
use Rattle.pg_commands_words.specs.declared.commands.RecordingWay.{RecordingWay}
use Rattle.pg_commands_words.specs.declared.commands.RecordingWay.TheVariants.{Free, Rotating, Seeded}
use Rattle.pg_commands_words.specs.declared.values.TheConstants.{DEFAULT_QUANTUM}
use Rattle.pg_session_trial.specs.Program.{trial_program}
use Rattle.pg_session_book.specs.pg_session.Lines.{lines_of}
use Rattle.pg_session_book.specs.pg_session.Counts.{RoseBy, is_of_recording, reused_turns}
use Rattle.pg_session_book.specs.pg_session.Sessions.{Answer, begin}
use Rattle.pg_session_book.specs.pg_session.Shows.{IsShowText}
use Rattle.pg_session_book.specs.pg_session.Texts.{HasBytes, KeepsAll, ServesAll, ServesFront, ServesLimit, ServesTaken}
use Rattle.pg_session_book.specs.pg_session.Trials.{IsTrialText}
use Rattle.pg_session_book.specs.pg_session.pg_session_texts.declared.forms.ReplyForm.{ReplyForm}
use Rattle.pg_session_book.specs.pg_session.pg_session_texts.declared.forms.ReplyForm.TheVariants.{Json, Lines}
use Rattle.pg_session_book.specs.OpenedBooks.{BeginsWith}
use Rattle.pg_session_book.specs.Refusals.{IsBookRefusalLine, IsBookRefused}
use Rattle.pg_session_book.specs.Entries.{EntryParts}
use Rattle.pg_session_book.specs.Runs.{Way, conditions_of, entry_admits, freely, rotating, runs_by, runs_of, shown, tested}
use Rattle.pg_session_book.specs.SavedBooks.{IsSaved}
use Rattle.pg_commands.specs.declared.status.Status.{Status}
use Rattle.pg_commands.specs.declared.status.Status.TheVariants.{Done, Usage, ProgramRefused, ShelfFault, ReadFault, WriteFault, InputLimit, OutOfMemory, BookRefused}
use Rattle.pg_commands.specs.Refusals.{IsRefused}
use Rattle.pg_commands.specs.Texts.{IsAccepted, IsOnceText, IsRefusalLine}

-- ---- the world of a command: what is told of the outside before and after it

-- what is told of a shelf: the text of each name, where that is told, and how many fetches of each name failed
pub record ShelfChange : Type 0 where
  pub texts : List ℕ → Option (List ℕ)
  pub fetches_before : List ℕ → ℕ
  pub fetches_after : List ℕ → ℕ

-- what is told of a source: the bytes that it has, where they are told, and how many reads failed
pub record SourceChange : Type 0 where
  pub rest_before : Option (List ℕ)
  pub rest_after : Option (List ℕ)
  pub reads_before : ℕ
  pub reads_after : ℕ

-- what is told of a sink: the bytes that it took, where they are told, and how many writes failed
pub record SinkChange : Type 0 where
  pub taken_before : Option (List ℕ)
  pub taken_after : Option (List ℕ)
  pub writes_before : ℕ
  pub writes_after : ℕ

-- what is told of the crew that records freely: how many rounds it made
pub record CrewChange : Type 0 where
  pub rounds_before : ℕ
  pub rounds_after : ℕ

-- what is told of the crew that runs workers: how many turns it counted
pub record WorkersChange : Type 0 where
  pub turns_before : ℕ
  pub turns_after : ℕ

pub record World : Type 0 where
  pub shelf : ShelfChange
  pub source : SourceChange
  pub sink : SinkChange
  pub crew : CrewChange
  pub workers : WorkersChange

-- the same by their parts, in this order
abbrev pub shelf_change : (List ℕ → Option (List ℕ)) → (List ℕ → ℕ) → (List ℕ → ℕ) → ShelfChange
shelf_change texts fetches_before fetches_after = record { texts = texts; fetches_before = fetches_before; fetches_after = fetches_after }

abbrev pub source_change : Option (List ℕ) → Option (List ℕ) → ℕ → ℕ → SourceChange
source_change rest_before rest_after reads_before reads_after =
    record { rest_before = rest_before; rest_after = rest_after; reads_before = reads_before; reads_after = reads_after }

abbrev pub sink_change : Option (List ℕ) → Option (List ℕ) → ℕ → ℕ → SinkChange
sink_change taken_before taken_after writes_before writes_after =
    record { taken_before = taken_before; taken_after = taken_after; writes_before = writes_before; writes_after = writes_after }

abbrev pub crew_change : ℕ → ℕ → CrewChange
crew_change rounds_before rounds_after = record { rounds_before = rounds_before; rounds_after = rounds_after }

abbrev pub workers_change : ℕ → ℕ → WorkersChange
workers_change turns_before turns_after = record { turns_before = turns_before; turns_after = turns_after }

abbrev pub world : ShelfChange → SourceChange → SinkChange → CrewChange → WorkersChange → World
world shelf source sink crew workers = record { shelf = shelf; source = source; sink = sink; crew = crew; workers = workers }

-- ---- how inputs are recorded

-- the way of recording that the words choose: a crew and a seed let threads take steps in any order in which they are ready
abbrev pub way_of : RecordingWay → Way
way_of (Rotating quantum) = rotating quantum
way_of Free = freely
way_of (Seeded seed) = freely

-- the words choose the crew
abbrev pub ByCrew : RecordingWay → Type 0
ByCrew (Rotating quantum) = ⊥
ByCrew Free = Unit {0}
ByCrew (Seeded seed) = ⊥

-- for so many recordings the crew, where the words choose it, made as many rounds at least, as far as they are counted
abbrev pub MakesRounds : RecordingWay → CrewChange → ℕ → Type 0
MakesRounds (Rotating quantum) crew recordings = Unit {0}
MakesRounds Free crew recordings = RoseBy recordings crew.rounds_before crew.rounds_after
MakesRounds (Seeded seed) crew recordings = Unit {0}

-- the way of a session: with `--only` nothing is recorded
abbrev pub session_way : RecordingWay → Bool → Way
session_way way true = tested
session_way way false = way_of way

-- for so many recordings of a session the crew made as many rounds
abbrev pub SessionMakes : RecordingWay → Bool → CrewChange → ℕ → Type 0
SessionMakes way true crew recordings = Unit {0}
SessionMakes way false crew recordings = MakesRounds way crew recordings

-- the words let the crew record lines of a session
abbrev pub SessionByCrew : RecordingWay → Bool → Type 0
SessionByCrew way true = ⊥
SessionByCrew way false = ByCrew way

-- the form of the replies of a session: with `--json` each is a line of JSON
abbrev pub reply_form : Bool → ReplyForm
reply_form true = Json
reply_form false = Lines

-- ---- what crews did for the answers of a session

-- the lines of a session that were recorded
abbrev pub recordings_of : List Answer → ℕ
recordings_of answers = count_by (λ (a : Answer). is_of_recording a.kind) answers

-- the crew that runs workers counted the turns of the lines that were answered by reuse at least, as far as they are counted
abbrev pub MakesTurns : WorkersChange → List Answer → Type 0
MakesTurns workers answers = RoseBy (sum_by reused_turns answers) workers.turns_before workers.turns_after

-- for as many lines as were recorded this holds; and that of those that were answered by reuse
pub record CrewsMake (Rounds : ℕ → Type 0) (workers : WorkersChange) (answers : List Answer) : Type 0 where
  pub rounds : Rounds (recordings_of answers)
  pub turns : MakesTurns workers answers

-- ---- whole texts

-- a text of which this holds was written
pub record WritesText (IsText : List ℕ → Type 0) (old new : Option (List ℕ)) : Type 0 where
  pub written : List ℕ
  pub is_text : IsText written
  pub appended : Appends old new written

-- a front of such a text was written
pub record WritesTextFront (IsText : List ℕ → Type 0) (old new : Option (List ℕ)) : Type 0 where
  pub written : List ℕ
  pub is_text : IsText written
  pub appended : AppendsFront old new written

-- what is shown of the recording of an input, for a program text
pub record IsShown (text : List ℕ) (way : RecordingWay) (input : List ℤ) (written : List ℕ) : Type 0 where
  pub program : NumberedProgram
  pub accepted : IsAccepted text program
  pub shows : IsShowText (runs_by program (way_of way)) shown input written

-- the precondition of what is recorded of an input, for a program text; or the reply where the recording gives no entry
pub record IsConditions (text : List ℕ) (way : RecordingWay) (input : List ℤ) (written : List ℕ) : Type 0 where
  pub program : NumberedProgram
  pub accepted : IsAccepted text program
  pub shows : IsShowText (runs_by program (way_of way)) conditions_of input written

-- the text of a trial, for a program text, and what the crew that runs workers counted for it; its quantum is that without an option
pub record IsTrial (text : List ℕ) (number : ℕ) (workers : WorkersChange) (written : List ℕ) : Type 0 where
  pub program : NumberedProgram
  pub accepted : IsAccepted text program
  pub tells : IsTrialText entry_admits (runs_of program DEFAULT_QUANTUM) number written
  pub makes : MakesTurns workers tells.answers

-- ---- sessions: the replies to the lines of an input, of which this holds, for a program text

pub record ServesProgram (text : List ℕ) (Serves : NumberedProgram → Type 0) : Type 0 where
  pub program : NumberedProgram
  pub accepted : IsAccepted text program
  pub serves : Serves program

-- all lines of an input are answered in this form, and of the answers this holds
pub record ServesMaking (form : ReplyForm) (Makes : List Answer → Type 0) (p : NumberedProgram) (way : Way) (first : Kept EntryParts) (old new : Option (List ℕ)) (input : List ℕ) : Type 0 where
  pub all : ServesAll form entry_admits (runs_by p way) first old new input
  pub makes : Makes all.serves.session.answers

-- what a session of the program begins with: nothing, or the entries of the book of this name, where the shelf tells its bytes
abbrev pub Begins : (List ℕ → Option (List ℕ)) → Option Word → NumberedProgram → Kept EntryParts → Type 0
Begins texts None p first = first ≡ begin
Begins texts (Some name) p first = HasBytes (texts name) (λ bytes. BeginsWith p bytes first)

-- a session of an accepted program text that begins so, of which this holds
abbrev pub ServesFrom : List ℕ → Option Word → World → (NumberedProgram → Kept EntryParts → Type 0) → Type 0
ServesFrom text named w Serves = ServesProgram text (λ p. (first : Kept EntryParts) × Begins w.shelf.texts named p first × Serves p first)

-- the replies to all lines of what the source had
abbrev pub WritesSession : List ℕ → RecordingWay → Option Word → Bool → Bool → World → Type 0
WritesSession text way named only json w = ServesFrom text named w (λ p first.
    HasBytes w.source.rest_before (ServesMaking (reply_form json) (CrewsMake (SessionMakes way only w.crew) w.workers) p (session_way way only) first w.sink.taken_before w.sink.taken_after))

-- the replies to the lines that end within the limit
abbrev pub WritesLimit : List ℕ → RecordingWay → Option Word → Bool → Bool → World → Type 0
WritesLimit text way named only json w = ServesFrom text named w (λ p first.
    HasBytes w.source.rest_before (ServesLimit (reply_form json) entry_admits (runs_by p (session_way way only)) first w.sink.taken_before w.sink.taken_after))

-- the replies to the lines that end in the bytes which were taken before a read failed
abbrev pub WritesTaken : List ℕ → RecordingWay → Option Word → Bool → Bool → World → Type 0
WritesTaken text way named only json w = ServesFrom text named w (λ p first.
    ServesTaken (reply_form json) entry_admits (runs_by p (session_way way only)) first w.source.rest_before w.source.rest_after w.sink.taken_before w.sink.taken_after)

-- a front of the replies
abbrev pub WritesReplies : List ℕ → RecordingWay → Option Word → Bool → Bool → World → Type 0
WritesReplies text way named only json w = ServesFrom text named w (λ p first.
    HasBytes w.source.rest_before (λ input. ServesFront (reply_form json) entry_admits (runs_by p (session_way way only)) first (lines_of input) w.sink.taken_before w.sink.taken_after))

-- ---- saving

-- this is kept at the end of a session that began with no entries, once all lines of an input are answered; and of the answers this holds
pub record KeepsMaking (Makes : List Answer → Type 0) (p : NumberedProgram) (way : Way) (last : Kept EntryParts) (input : List ℕ) : Type 0 where
  pub all : KeepsAll entry_admits (runs_by p way) begin last input
  pub makes : Makes all.answers

-- the book of what is kept so
pub record SavesMaking (Makes : List Answer → Type 0) (p : NumberedProgram) (way : Way) (input written : List ℕ) : Type 0 where
  pub last : Kept EntryParts
  pub keeps : KeepsMaking Makes p way last input
  pub whole : IsSaved last.values written

-- the book of what is kept of the lines of what the source had, for a program text
abbrev pub SavesText : List ℕ → RecordingWay → World → List ℕ → Type 0
SavesText text way w written = ServesProgram text (λ p.
    HasBytes w.source.rest_before (λ input. SavesMaking (CrewsMake (MakesRounds way w.crew) w.workers) p (way_of way) input written))

-- what was shown of the recording of an input, for a program text
pub record WritesShown (text : List ℕ) (way : RecordingWay) (input : List ℤ) (w : World) : Type 0 where
  pub writes : WritesText (IsShown text way input) w.sink.taken_before w.sink.taken_after
  pub makes : MakesRounds way w.crew 1

-- the precondition of what is recorded of an input was written, for a program text
pub record WritesConditions (text : List ℕ) (way : RecordingWay) (input : List ℤ) (w : World) : Type 0 where
  pub writes : WritesText (IsConditions text way input) w.sink.taken_before w.sink.taken_after
  pub makes : MakesRounds way w.crew 1

-- ---- by command. The program text of `once` is that which the source had, where it tells it, and that of `serve`, `book`, `show` and
-- `conditions` is that of their file, where the shelf tells it; a book of `serve` is that of its name

-- a text which is that of the name, where the shelf tells it
abbrev pub Fetched : (List ℕ → Option (List ℕ)) → Word → (List ℕ → Type 0) → Type 0
Fetched texts file Says = HasBytes (texts file) Says

-- the text of the file is accepted
abbrev pub IsProgram : World → Word → Type 0
IsProgram w file = Fetched w.shelf.texts file (λ text. (p : NumberedProgram) × IsAccepted text p)

-- the command comes to fetch this name: that of its file; and that of its book, once its program is accepted
abbrev pub MayFetch : World → Meaning → Word → Type 0
MayFetch w (once quantum numbers) name = ⊥
MayFetch w (serve file way named only json) name = (name ≡ file) ⊎ ((named ≡ Some name) × IsProgram w file)
MayFetch w (book file way) name = name ≡ file
MayFetch w (show file way numbers) name = name ≡ file
MayFetch w (conditions file way numbers) name = name ≡ file
MayFetch w (trial number) name = ⊥

-- Done: the whole text was written
abbrev pub WritesWhole : World → Meaning → Type 0
WritesWhole w (once quantum numbers) = HasBytes w.source.rest_before (λ text. WritesText (IsOnceText text quantum numbers) w.sink.taken_before w.sink.taken_after)
WritesWhole w (serve file way named only json) = Fetched w.shelf.texts file (λ text. WritesSession text way named only json w)
WritesWhole w (book file way) = Fetched w.shelf.texts file (λ text. WritesText (SavesText text way w) w.sink.taken_before w.sink.taken_after)
WritesWhole w (show file way numbers) = Fetched w.shelf.texts file (λ text. WritesShown text way numbers w)
WritesWhole w (conditions file way numbers) = Fetched w.shelf.texts file (λ text. WritesConditions text way numbers w)
WritesWhole w (trial number) = WritesText (IsTrial trial_program number w.workers) w.sink.taken_before w.sink.taken_after

-- the line that says why the text of the file is refused was written, and nothing was read
pub record RefusesFile (w : World) (file : Word) : Type 0 where
  pub line : Fetched w.shelf.texts file (λ text. WritesText (IsRefusalLine text) w.sink.taken_before w.sink.taken_after)
  pub rest : w.source.rest_after ≡ w.source.rest_before

-- ProgramRefused: the line that says why was written, and of `serve` and `book` nothing was read
abbrev pub WritesRefusal : World → Meaning → Type 0
WritesRefusal w (once quantum numbers) = HasBytes w.source.rest_before (λ text. WritesText (IsRefusalLine text) w.sink.taken_before w.sink.taken_after)
WritesRefusal w (serve file way named only json) = RefusesFile w file
WritesRefusal w (book file way) = RefusesFile w file
WritesRefusal w (show file way numbers) = Fetched w.shelf.texts file (λ text. WritesText (IsRefusalLine text) w.sink.taken_before w.sink.taken_after)
WritesRefusal w (conditions file way numbers) = Fetched w.shelf.texts file (λ text. WritesText (IsRefusalLine text) w.sink.taken_before w.sink.taken_after)
WritesRefusal w (trial number) = WritesText (IsRefusalLine trial_program) w.sink.taken_before w.sink.taken_after

-- the line refuses the book of this name for the program
abbrev pub IsBookLine : (List ℕ → Option (List ℕ)) → Option Word → NumberedProgram → List ℕ → Type 0
IsBookLine texts None p line = ⊥
IsBookLine texts (Some name) p line = HasBytes (texts name) (λ bytes. IsBookRefusalLine p bytes line)

-- the line refuses the book that a session of the program text asks for
abbrev pub RefusesBook : List ℕ → Option Word → World → List ℕ → Type 0
RefusesBook text named w line = ServesProgram text (λ p. IsBookLine w.shelf.texts named p line)

-- the line that says why the book is refused was written, and nothing was read
pub record RefusesNamed (w : World) (file : Word) (named : Option Word) : Type 0 where
  pub line : Fetched w.shelf.texts file (λ text. WritesText (RefusesBook text named w) w.sink.taken_before w.sink.taken_after)
  pub rest : w.source.rest_after ≡ w.source.rest_before

-- BookRefused: the line that says why was written
abbrev pub WritesBookRefusal : World → Meaning → Type 0
WritesBookRefusal w (serve file way named only json) = RefusesNamed w file named
WritesBookRefusal w meaning = ⊥

-- ShelfFault: a fetch of a name to which the command came failed, and nothing was read or written
pub record FailsToFetch (w : World) (meaning : Meaning) : Type 0 where
  pub name : Word
  pub fetched : MayFetch w meaning name
  pub rose : Rose (w.shelf.fetches_before name) (w.shelf.fetches_after name)
  pub rest : w.source.rest_after ≡ w.source.rest_before
  pub taken : w.sink.taken_after ≡ w.sink.taken_before

-- ReadFault: a read failed within the limit of what is read. Nothing of `once` and of `book` was written, and of `serve` the replies
-- to the lines that end in the bytes which were taken
abbrev pub FailsToRead : World → Meaning → Type 0
FailsToRead w (once quantum numbers) = Rose w.source.reads_before w.source.reads_after × TakesAtMost w.source.rest_before w.source.rest_after PROGRAM_TEXT_LIMIT × (w.sink.taken_after ≡ w.sink.taken_before)
FailsToRead w (serve file way named only json) = Rose w.source.reads_before w.source.reads_after × TakesAtMost w.source.rest_before w.source.rest_after SESSION_INPUT_LIMIT
    × Fetched w.shelf.texts file (λ text. WritesTaken text way named only json w)
FailsToRead w (book file way) = Rose w.source.reads_before w.source.reads_after × TakesAtMost w.source.rest_before w.source.rest_after SESSION_INPUT_LIMIT
    × IsProgram w file × (w.sink.taken_after ≡ w.sink.taken_before)
FailsToRead w (show file way numbers) = ⊥
FailsToRead w (conditions file way numbers) = ⊥
FailsToRead w (trial number) = ⊥

-- a front of the text, or of the line that refuses the program or its book
abbrev pub WritesFront : World → Meaning → Type 0
WritesFront w (once quantum numbers) = HasBytes w.source.rest_before (λ text.
    WritesTextFront (IsOnceText text quantum numbers) w.sink.taken_before w.sink.taken_after ⊎ WritesTextFront (IsRefusalLine text) w.sink.taken_before w.sink.taken_after)
WritesFront w (serve file way named only json) = Fetched w.shelf.texts file (λ text.
    WritesReplies text way named only json w ⊎ WritesTextFront (IsRefusalLine text) w.sink.taken_before w.sink.taken_after ⊎ WritesTextFront (RefusesBook text named w) w.sink.taken_before w.sink.taken_after)
WritesFront w (book file way) = Fetched w.shelf.texts file (λ text.
    WritesTextFront (SavesText text way w) w.sink.taken_before w.sink.taken_after ⊎ WritesTextFront (IsRefusalLine text) w.sink.taken_before w.sink.taken_after)
WritesFront w (show file way numbers) = Fetched w.shelf.texts file (λ text.
    WritesTextFront (IsShown text way numbers) w.sink.taken_before w.sink.taken_after ⊎ WritesTextFront (IsRefusalLine text) w.sink.taken_before w.sink.taken_after)
WritesFront w (conditions file way numbers) = Fetched w.shelf.texts file (λ text.
    WritesTextFront (IsConditions text way numbers) w.sink.taken_before w.sink.taken_after ⊎ WritesTextFront (IsRefusalLine text) w.sink.taken_before w.sink.taken_after)
WritesFront w (trial number) = WritesTextFront (IsTrial trial_program number w.workers) w.sink.taken_before w.sink.taken_after ⊎ WritesTextFront (IsRefusalLine trial_program) w.sink.taken_before w.sink.taken_after

-- WriteFault: a write failed, and a front was written
abbrev pub FailsToWrite : World → Meaning → Type 0
FailsToWrite w meaning = Rose w.sink.writes_before w.sink.writes_after × WritesFront w meaning

-- InputLimit: the source has more bytes than a session takes. The lines of `serve` within the limit were answered, and of `book`
-- nothing was written
abbrev pub ExceedsLimit : World → Meaning → Type 0
ExceedsLimit w (once quantum numbers) = ⊥
ExceedsLimit w (serve file way named only json) = Fetched w.shelf.texts file (λ text. WritesLimit text way named only json w)
ExceedsLimit w (book file way) = IsProgram w file × HasBytes w.source.rest_before (λ input. SESSION_INPUT_LIMIT < length input) × (w.sink.taken_after ≡ w.sink.taken_before)
ExceedsLimit w (show file way numbers) = ⊥
ExceedsLimit w (conditions file way numbers) = ⊥
ExceedsLimit w (trial number) = ⊥

-- OutOfMemory: nothing was written, or of `serve` a front of the replies
abbrev pub LacksMemory : World → Meaning → Type 0
LacksMemory w (serve file way named only json) = (w.sink.taken_after ≡ w.sink.taken_before) ⊎ Fetched w.shelf.texts file (λ text. WritesReplies text way named only json w)
LacksMemory w meaning = w.sink.taken_after ≡ w.sink.taken_before

-- the most bytes that are taken from the source: of a program text or of lines, and one more to see that there is one
abbrev pub most_taken : Meaning → ℕ
most_taken (once quantum numbers) = PROGRAM_TEXT_LIMIT + 1
most_taken (serve file way named only json) = SESSION_INPUT_LIMIT + 1
most_taken (book file way) = SESSION_INPUT_LIMIT + 1
most_taken (show file way numbers) = 0
most_taken (conditions file way numbers) = 0
most_taken (trial number) = 0

-- ---- which status is due where nothing failed. At want of memory it is OutOfMemory

abbrev pub IsOr : Status → Status → Type 0
IsOr due status = (status ≡ due) ⊎ (status ≡ OutOfMemory)

-- for a program text: where it is accepted this is due, else ProgramRefused
abbrev pub DueOfText : (NumberedProgram → Status → Type 0) → List ℕ → Status → Type 0
DueOfText Due text status = ((p : NumberedProgram) → IsAccepted text p → Due p status) × (IsRefused text → IsOr ProgramRefused status)

-- for a program and the book of this name, if there is one: where it isn't refused this is due, else BookRefused
abbrev pub DueOfBook : World → Option Word → (Status → Type 0) → NumberedProgram → Status → Type 0
DueOfBook w None Due p status = Due status
DueOfBook w (Some name) Due p status = IfSome (w.shelf.texts name) (λ bytes.
    ((first : Kept EntryParts) → BeginsWith p bytes first → Due status) × (IsBookRefused p bytes → IsOr BookRefused status))

abbrev pub DueOfInput : List ℕ → Status → Type 0
DueOfInput input status = (length input ≤ SESSION_INPUT_LIMIT → IsOr Done status) × (SESSION_INPUT_LIMIT < length input → IsOr InputLimit status)

-- for what the source had, where it tells it
abbrev pub DueOfLines : World → Status → Type 0
DueOfLines w status = IfSome w.source.rest_before (λ input. DueOfInput input status)

abbrev pub IsDue : World → Status → Meaning → Type 0
IsDue w status (once quantum numbers) = IfSome w.source.rest_before (λ text. DueOfText (λ p. IsOr Done) text status)
IsDue w status (serve file way named only json) = IfSome (w.shelf.texts file) (λ text. DueOfText (DueOfBook w named (DueOfLines w)) text status)
IsDue w status (book file way) = IfSome (w.shelf.texts file) (λ text. DueOfText (λ p. DueOfLines w) text status)
IsDue w status (show file way numbers) = IfSome (w.shelf.texts file) (λ text. DueOfText (λ p. IsOr Done) text status)
IsDue w status (conditions file way numbers) = IfSome (w.shelf.texts file) (λ text. DueOfText (λ p. IsOr Done) text status)
IsDue w status (trial number) = DueOfText (λ p. IsOr Done) trial_program status

-- the command reads the source
abbrev pub Reads : Meaning → Type 0
Reads (once quantum numbers) = Unit {0}
Reads (serve file way named only json) = Unit {0}
Reads (book file way) = Unit {0}
Reads (show file way numbers) = ⊥
Reads (conditions file way numbers) = ⊥
Reads (trial number) = ⊥

-- the command records by the crew
abbrev pub UsesCrew : Meaning → Type 0
UsesCrew (once quantum numbers) = ⊥
UsesCrew (serve file way named only json) = SessionByCrew way only
UsesCrew (book file way) = ByCrew way
UsesCrew (show file way numbers) = ByCrew way
UsesCrew (conditions file way numbers) = ByCrew way
UsesCrew (trial number) = ⊥

-- the command answers lines, and those that it answers by reuse are run by workers
abbrev pub UsesWorkers : Meaning → Type 0
UsesWorkers (once quantum numbers) = ⊥
UsesWorkers (serve file way named only json) = Unit {0}
UsesWorkers (book file way) = Unit {0}
UsesWorkers (show file way numbers) = ⊥
UsesWorkers (conditions file way numbers) = ⊥
UsesWorkers (trial number) = Unit {0}

-- no fetch, no read and no write of the command failed
pub record NoFault (w : World) (meaning : Meaning) : Type 0 where
  pub fetches : (name : Word) → MayFetch w meaning name → Rose (w.shelf.fetches_before name) (w.shelf.fetches_after name) → ⊥
  pub reads : Reads meaning → Rose w.source.reads_before w.source.reads_after → ⊥
  pub writes : Rose w.sink.writes_before w.sink.writes_after → ⊥

-- ---- how a command ends

pub record EndsAs (w : World) (meaning : Meaning) (status : Status) : Type 0 where
  -- the words are this command
  pub no_usage : status ≡ Usage → ⊥
  pub done : status ≡ Done → WritesWhole w meaning
  pub program_refused : status ≡ ProgramRefused → WritesRefusal w meaning
  pub book_refused : status ≡ BookRefused → WritesBookRefusal w meaning
  pub shelf_fault : status ≡ ShelfFault → FailsToFetch w meaning
  pub read_fault : status ≡ ReadFault → FailsToRead w meaning
  pub write_fault : status ≡ WriteFault → FailsToWrite w meaning
  pub input_limit : status ≡ InputLimit → ExceedsLimit w meaning
  pub out_of_memory : status ≡ OutOfMemory → LacksMemory w meaning
  -- what failed is told
  pub fetches : (name : List ℕ) → (status ≡ ShelfFault) ⊎ (w.shelf.fetches_after name ≡ w.shelf.fetches_before name)
  pub reads : (status ≡ ReadFault) ⊎ (w.source.reads_after ≡ w.source.reads_before)
  pub writes : (status ≡ WriteFault) ⊎ (w.sink.writes_after ≡ w.sink.writes_before)
  pub takes : TakesAtMost w.source.rest_before w.source.rest_after (most_taken meaning)
  -- the crew makes no round for a command that doesn't record by it
  pub rounds : UsesCrew meaning ⊎ (w.crew.rounds_after ≡ w.crew.rounds_before)
  -- the crew that runs workers counts no turn for a command that answers no lines
  pub turns : UsesWorkers meaning ⊎ (w.workers.turns_after ≡ w.workers.turns_before)
  -- no other status comes where nothing failed
  pub due : NoFault w meaning → IsDue w status meaning

-- nothing was fetched, read or written, the crew that records made no round, and that which runs workers counted no turn
pub record IsUntouched (w : World) : Type 0 where
  pub fetches : (name : List ℕ) → w.shelf.fetches_after name ≡ w.shelf.fetches_before name
  pub rest : w.source.rest_after ≡ w.source.rest_before
  pub reads : w.source.reads_after ≡ w.source.reads_before
  pub taken : w.sink.taken_after ≡ w.sink.taken_before
  pub writes : w.sink.writes_after ≡ w.sink.writes_before
  pub rounds : w.crew.rounds_after ≡ w.crew.rounds_before
  pub turns : w.workers.turns_after ≡ w.workers.turns_before

-- these words end with this status: they are no command, or find no memory, or a command ends so
pub data Ends (w : World) (words : List Word) (status : Status) : Type 0 where
  no_command : NoCommand words → status ≡ Usage → IsUntouched w → Ends w words status
  no_memory : status ≡ OutOfMemory → IsUntouched w → Ends w words status
  by_command : (meaning : Meaning) → Means words meaning → EndsAs w meaning status → Ends w words status

-- the words are a session
abbrev pub IsSession : List Word → Type 0
IsSession words = (file : Word) × (way : RecordingWay) × (named : Option Word) × (only : Bool) × (json : Bool) × Means words (serve file way named only json)
