-- What crews did for the answers of a session, by what a runner counted.
use Rattle.std.proofs.Common.{◌≡◌, sym, subst, ℕ, List}
use Rattle.pg_session_book.specs.pg_session.Counts.{AreCounted, Counts, RoseBy}
use Rattle.pg_session_book.specs.pg_session.Sessions.{Answer}
use Rattle.pg_commands.specs.Commands.{CrewChange, CrewsMake, MakesTurns, WorkersChange, recordings_of}
use Rattle.pg_commands.specs.Sessions.{nothing_told, rounds_told}

-- the same of other names of the counts
rose_as : (n a b before after : ℕ) → a ≡ before → after ≡ b → RoseBy n a b → RoseBy n before after
rose_as n a b before after first last h = subst (λ (m : ℕ). RoseBy n m after) first (subst (λ (m : ℕ). RoseBy n a m) (sym last) h)

-- what a runner counted before and after: the turns are those of the crew that runs workers
pub record OfWorkers (workers : WorkersChange) (before after : Counts) : Type 0 where
  pub first : before.turns ≡ workers.turns_before
  pub last : workers.turns_after ≡ after.turns

-- and the recordings are the rounds of the crew that records
pub record OfRecorders (crew : CrewChange) (before after : Counts) : Type 0 where
  pub first : before.recordings ≡ crew.rounds_before
  pub last : crew.rounds_after ≡ after.recordings

pub turns_made : (workers : WorkersChange) (answers : List Answer) (before after : Counts) → OfWorkers workers before after → AreCounted answers before after
    → MakesTurns workers answers
turns_made workers answers before after same counted =
    rose_as _ before.turns after.turns workers.turns_before workers.turns_after same.first same.last counted.turns_rose

-- nothing is told of the recordings
pub made_plain : (workers : WorkersChange) (answers : List Answer) (before after : Counts) → OfWorkers workers before after → AreCounted answers before after
    → CrewsMake nothing_told workers answers
made_plain workers answers before after same counted = record { rounds = tt; turns = turns_made workers answers before after same counted }

-- the rounds of the crew that records rose by as many
pub made_rounds : (crew : CrewChange) (workers : WorkersChange) (answers : List Answer) (before after : Counts) → OfRecorders crew before after → OfWorkers workers before after
    → AreCounted answers before after → CrewsMake (rounds_told crew) workers answers
made_rounds crew workers answers before after own same counted = record {
  rounds = rose_as (recordings_of answers) before.recordings after.recordings crew.rounds_before crew.rounds_after own.first own.last counted.recordings_rose;
  turns = turns_made workers answers before after same counted;
}

-- less is told of the recordings
pub made_telling : (A B : ℕ → Type 0) (workers : WorkersChange) (answers : List Answer) → ((n : ℕ) → A n → B n) → CrewsMake A workers answers → CrewsMake B workers answers
made_telling A B workers answers f made = record { rounds = f (recordings_of answers) made.rounds; turns = made.turns }
