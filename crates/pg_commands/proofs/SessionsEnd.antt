-- How a session of a program ends, by what its runner tells.
use Rattle.std.proofs.Common.{◌≡◌, sym, subst, ℕ, Bool, List, Option}
use Rattle.std.specs.Prelude.{Err, Ok, OnOk, Result}
use Rattle.pg_cache.specs.Kept.{Kept}
use Rattle.pg_ir.specs.Program.{NumberedProgram}
use Rattle.pg_session_book.specs.pg_session.Counts.{Counts, ServesCounted, told}
use Rattle.pg_session_book.specs.pg_session.Sessions.{Answer}
use Rattle.pg_session_book.specs.pg_session.Texts.{HasBytes}
use Rattle.pg_session_book.specs.pg_session.declared.fault.ServeFault.{ServeFault}
use Rattle.pg_session_book.specs.pg_session.pg_session_texts.declared.forms.ReplyForm.{ReplyForm}
use Rattle.pg_session_book.specs.Entries.{EntryParts}
use Rattle.pg_session_book.specs.Runs.{Subject, Way, entry_admits, runs_by}
use Rattle.pg_commands_words.specs.declared.commands.RecordingWay.{RecordingWay}
use Rattle.pg_commands.specs.Commands.{CrewChange, CrewsMake, ServesMaking, SessionMakes, SinkChange, SourceChange, WorkersChange, session_way}
use Rattle.pg_commands.specs.Sessions.{SessionEnds, nothing_told, rounds_told}
use Rattle.pg_commands.proofs.CrewCounts.{OfRecorders, OfWorkers, made_plain, made_rounds, made_telling}

-- what a session that is done tells
abbrev Done : ReplyForm → (List Answer → Type 0) → NumberedProgram → Way → Kept EntryParts → Option (List ℕ) → Option (List ℕ) → Option (List ℕ) → Result (Unit {0}) ServeFault → Type 0
Done form Makes p way first rest old new ended = OnOk ended (HasBytes rest (ServesMaking form Makes p way first old new))

done_telling : (form : ReplyForm) (A B : ℕ → Type 0) (workers : WorkersChange) (p : NumberedProgram) (way : Way) (first : Kept EntryParts) (rest old new : Option (List ℕ)) (ended : Result (Unit {0}) ServeFault)
    → ((n : ℕ) → A n → B n) → Done form (CrewsMake A workers) p way first rest old new ended → Done form (CrewsMake B workers) p way first rest old new ended
done_telling form A B workers p way first rest old new (Ok done) f d =
    (d.0, d.1, record { all = d.2.all; makes = made_telling A B workers d.2.all.serves.session.answers f d.2.makes })
done_telling form A B workers p way first rest old new (Err fault) f d = tt

-- the session tells less of its recordings
pub ends_telling : {form : ReplyForm} (A B : ℕ → Type 0) (workers : WorkersChange) (p : NumberedProgram) (way : Way) (first : Kept EntryParts) (source : SourceChange) (sink : SinkChange) (ended : Result (Unit {0}) ServeFault)
    → ((n : ℕ) → A n → B n) → SessionEnds form (CrewsMake A workers) p way first source sink ended → SessionEnds form (CrewsMake B workers) p way first source sink ended
ends_telling {form} A B workers p way first source sink ended f h = record {
  done = done_telling form A B workers p way first source.rest_before sink.taken_before sink.taken_after ended f h.done;
  input_limit = h.input_limit;
  read_fault = h.read_fault;
  write_fault = h.write_fault;
  out_of_memory = h.out_of_memory;
  read_cause = h.read_cause;
  read_within = h.read_within;
  read_count = h.read_count;
  write_cause = h.write_cause;
  write_count = h.write_count;
  takes = h.takes;
}

-- the runner runs this program, and records so
pub ends_of : {form : ReplyForm} (Makes : List Answer → Type 0) (s : Subject) (p : NumberedProgram) (way : Way) (first : Kept EntryParts) (source : SourceChange) (sink : SinkChange) (ended : Result (Unit {0}) ServeFault)
    → s.program ≡ p → s.way ≡ way → SessionEnds form Makes s.program s.way first source sink ended → SessionEnds form Makes p way first source sink ended
ends_of {form} Makes s p way first source sink ended program same h =
    subst (λ (v : Way). SessionEnds form Makes p v first source sink ended) same
    (subst (λ (q : NumberedProgram). SessionEnds form Makes q s.way first source sink ended) program h)

abbrev Counted : ReplyForm → Subject → Kept EntryParts → Option (List ℕ) → Option (List ℕ) → Option (List ℕ) → Counts → Counts → Type 0
Counted form s first rest old new before after = HasBytes rest (ServesCounted form entry_admits (runs_by s.program s.way) first (told old before) (told new after))

-- what a session that is done tells: nothing of its recordings, and the turns that the crew counted
pub done_plain : (form : ReplyForm) (s : Subject) (first : Kept EntryParts) (rest old new : Option (List ℕ)) (before after : Counts) (workers : WorkersChange) (ended : Result (Unit {0}) ServeFault)
    → OfWorkers workers before after → OnOk ended (Counted form s first rest old new before after)
    → Done form (CrewsMake nothing_told workers) s.program s.way first rest old new ended
done_plain form s first rest old new before after workers (Ok done) ran d =
    (d.0, d.1, record { all = d.2.all; makes = made_plain workers d.2.all.serves.session.answers before after ran d.2.counted })
done_plain form s first rest old new before after workers (Err fault) ran d = tt

-- and that the rounds of the crew that records rose by as many
pub done_rounds : (form : ReplyForm) (s : Subject) (first : Kept EntryParts) (rest old new : Option (List ℕ)) (before after : Counts) (crew : CrewChange) (workers : WorkersChange) (ended : Result (Unit {0}) ServeFault)
    → OfRecorders crew before after → OfWorkers workers before after → OnOk ended (Counted form s first rest old new before after)
    → Done form (CrewsMake (rounds_told crew) workers) s.program s.way first rest old new ended
done_rounds form s first rest old new before after crew workers (Ok done) own ran d =
    (d.0, d.1, record { all = d.2.all; makes = made_rounds crew workers d.2.all.serves.session.answers before after own ran d.2.counted })
done_rounds form s first rest old new before after crew workers (Err fault) own ran d = tt

-- ---- by the words

abbrev By : ReplyForm → RecordingWay → Bool → CrewChange → WorkersChange → NumberedProgram → Kept EntryParts → SourceChange → SinkChange → Result (Unit {0}) ServeFault → Type 0
By form way only crew workers p first source sink ended = SessionEnds form (CrewsMake (SessionMakes way only crew) workers) p (session_way way only) first source sink ended

-- the words choose this way, and whether lines are recorded
pub session_by : {form : ReplyForm} (way own : RecordingWay) (only mine : Bool) (crew : CrewChange) (workers : WorkersChange) (p : NumberedProgram) (first : Kept EntryParts) (source : SourceChange) (sink : SinkChange) (ended : Result (Unit {0}) ServeFault)
    → way ≡ own → only ≡ mine → By form own mine crew workers p first source sink ended → By form way only crew workers p first source sink ended
session_by {form} way own only mine crew workers p first source sink ended same so h =
    subst (λ (o : Bool). By form way o crew workers p first source sink ended) (sym so)
    (subst (λ (v : RecordingWay). By form v mine crew workers p first source sink ended) (sym same) h)
