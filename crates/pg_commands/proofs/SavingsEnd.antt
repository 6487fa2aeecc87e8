-- How a session of which only its book is asked ends, by what its runner tells.
use Rattle.std.proofs.Common.{◌≡◌, sym, subst, ℕ, List, Option}
use Rattle.std.specs.Prelude.{Err, IfOk, Ok, Result}
use Rattle.pg_cache.specs.Kept.{Kept}
use Rattle.pg_ir.specs.Program.{NumberedProgram}
use Rattle.pg_session_book.specs.pg_session.Counts.{Counts, KeepsCounted}
use Rattle.pg_session_book.specs.pg_session.Sessions.{Answer, begin}
use Rattle.pg_session_book.specs.pg_session.Texts.{HasBytes}
use Rattle.pg_session_book.specs.pg_session.declared.fault.ServeFault.{ServeFault}
use Rattle.pg_session_book.specs.Entries.{EntryParts}
use Rattle.pg_session_book.specs.Runs.{Subject, Way, entry_admits, runs_by}
use Rattle.pg_commands_words.specs.declared.commands.RecordingWay.{RecordingWay}
use Rattle.pg_commands.specs.Commands.{CrewChange, CrewsMake, KeepsMaking, MakesRounds, SourceChange, WorkersChange, way_of}
use Rattle.pg_commands.specs.Savings.{SavingEnds}
use Rattle.pg_commands.specs.Sessions.{nothing_told, rounds_told}
use Rattle.pg_commands.proofs.CrewCounts.{OfRecorders, OfWorkers, made_plain, made_rounds, made_telling}

-- what is kept in the end tells
abbrev Done : (List Answer → Type 0) → NumberedProgram → Way → Option (List ℕ) → Result (Kept EntryParts) ServeFault → Type 0
Done Makes p way rest ended = IfOk ended (λ last. HasBytes rest (KeepsMaking Makes p way last))

done_telling : (A B : ℕ → Type 0) (workers : WorkersChange) (p : NumberedProgram) (way : Way) (rest : Option (List ℕ)) (ended : Result (Kept EntryParts) ServeFault)
    → ((n : ℕ) → A n → B n) → Done (CrewsMake A workers) p way rest ended → Done (CrewsMake B workers) p way rest ended
done_telling A B workers p way rest (Ok last) f d = (d.0, d.1, record { all = d.2.all; makes = made_telling A B workers d.2.all.answers f d.2.makes })
done_telling A B workers p way rest (Err fault) f d = tt

-- the session tells less of its recordings
pub saving_telling : (A B : ℕ → Type 0) (workers : WorkersChange) (p : NumberedProgram) (way : Way) (source : SourceChange) (ended : Result (Kept EntryParts) ServeFault)
    → ((n : ℕ) → A n → B n) → SavingEnds (CrewsMake A workers) p way source ended → SavingEnds (CrewsMake B workers) p way source ended
saving_telling A B workers p way source ended f h = record {
  done = done_telling A B workers p way source.rest_before ended f h.done;
  no_write = h.no_write;
  input_limit = h.input_limit;
  read_cause = h.read_cause;
  read_within = h.read_within;
  read_count = h.read_count;
  takes = h.takes;
}

-- the runner runs this program, and records so
pub saving_of : (Makes : List Answer → Type 0) (s : Subject) (p : NumberedProgram) (way : Way) (source : SourceChange) (ended : Result (Kept EntryParts) ServeFault)
    → s.program ≡ p → s.way ≡ way → SavingEnds Makes s.program s.way source ended → SavingEnds Makes p way source ended
saving_of Makes s p way source ended program same h =
    subst (λ (v : Way). SavingEnds Makes p v source ended) same
    (subst (λ (q : NumberedProgram). SavingEnds Makes q s.way source ended) program h)

abbrev Counted : Subject → Kept EntryParts → Option (List ℕ) → Counts → Counts → Result (Kept EntryParts) ServeFault → Type 0
Counted s first rest before after ended = IfOk ended (λ last. HasBytes rest (KeepsCounted entry_admits (runs_by s.program s.way) first last before after))

kept_plain : (s : Subject) (rest : Option (List ℕ)) (before after : Counts) (workers : WorkersChange) (ended : Result (Kept EntryParts) ServeFault) → OfWorkers workers before after
    → Counted s begin rest before after ended → Done (CrewsMake nothing_told workers) s.program s.way rest ended
kept_plain s rest before after workers (Ok last) ran d = (d.0, d.1, record { all = d.2.all; makes = made_plain workers d.2.all.answers before after ran d.2.counted })
kept_plain s rest before after workers (Err fault) ran d = tt

-- a session that began with no entries tells what it keeps: nothing of its recordings, and the turns that the crew counted
pub done_plain : (s : Subject) (first : Kept EntryParts) (rest : Option (List ℕ)) (before after : Counts) (workers : WorkersChange) (ended : Result (Kept EntryParts) ServeFault)
    → first ≡ begin → OfWorkers workers before after → Counted s first rest before after ended → Done (CrewsMake nothing_told workers) s.program s.way rest ended
done_plain s first rest before after workers ended none ran d =
    kept_plain s rest before after workers ended ran (subst (λ (k : Kept EntryParts). Counted s k rest before after ended) none d)

kept_rounds : (s : Subject) (rest : Option (List ℕ)) (before after : Counts) (crew : CrewChange) (workers : WorkersChange) (ended : Result (Kept EntryParts) ServeFault)
    → OfRecorders crew before after → OfWorkers workers before after → Counted s begin rest before after ended
    → Done (CrewsMake (rounds_told crew) workers) s.program s.way rest ended
kept_rounds s rest before after crew workers (Ok last) own ran d =
    (d.0, d.1, record { all = d.2.all; makes = made_rounds crew workers d.2.all.answers before after own ran d.2.counted })
kept_rounds s rest before after crew workers (Err fault) own ran d = tt

-- and that the rounds of the crew that records rose by as many
pub done_rounds : (s : Subject) (first : Kept EntryParts) (rest : Option (List ℕ)) (before after : Counts) (crew : CrewChange) (workers : WorkersChange) (ended : Result (Kept EntryParts) ServeFault)
    → first ≡ begin → OfRecorders crew before after → OfWorkers workers before after → Counted s first rest before after ended
    → Done (CrewsMake (rounds_told crew) workers) s.program s.way rest ended
done_rounds s first rest before after crew workers ended none own ran d =
    kept_rounds s rest before after crew workers ended own ran (subst (λ (k : Kept EntryParts). Counted s k rest before after ended) none d)

-- the words choose this way
pub saving_by : (way own : RecordingWay) (crew : CrewChange) (workers : WorkersChange) (p : NumberedProgram) (source : SourceChange) (ended : Result (Kept EntryParts) ServeFault)
    → way ≡ own → SavingEnds (CrewsMake (MakesRounds own crew) workers) p (way_of own) source ended → SavingEnds (CrewsMake (MakesRounds way crew) workers) p (way_of way) source ended
saving_by way own crew workers p source ended same h =
    subst (λ (v : RecordingWay). SavingEnds (CrewsMake (MakesRounds v crew) workers) p (way_of v) source ended) (sym same) h
