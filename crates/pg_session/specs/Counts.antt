-- Counts that a runner tells. Each is a number of 64 bits that never falls, and stands still at its greatest value.
use Rattle.std.specs.Prelude.{ℕ, ℤ, ◌+◌, ◌-◌, ◌^◌, ◌≤◌, ◌⊎◌, Bool, true, false, if◌then◌else◌, List, Option, count_by}
use Rattle.std.specs.List.{sum_by}
use Rattle.pg_session_texts.specs.declared.reply.ReplyKind.{ReplyKind}
use Rattle.pg_session_texts.specs.declared.reply.ReplyKind.TheVariants.{Reused, RefusedLine, RefusedUntested}
use Rattle.pg_cache.specs.Kept.{Kept}
use Rattle.pg_session_texts.specs.declared.forms.ReplyForm.{ReplyForm}
use Rattle.pg_session.specs.Sessions.{Answer, Runs}
use Rattle.pg_session.specs.Texts.{KeepsAll, ServesAll}
use Rattle.pg_session.specs.Trials.{IsTrialText, is_reused, turns_of}

pub record Counts : Type 0 where
  -- turns that were done along the schedules of entries
  pub turns : ℕ
  -- inputs that were recorded, whether an entry came of it or not
  pub recordings : ℕ

-- a count didn't fall, and it rose by so much at least, or stands at the greatest value of a `u64`
pub record RoseBy (n before now : ℕ) : Type 0 where
  pub stays : before ≤ now
  pub rose : (before + n ≤ now) ⊎ (2 ^ 64 - 1 ≤ now)

-- the counts rose by so many turns and recordings
pub record Counted (turns recordings : ℕ) (before now : Counts) : Type 0 where
  pub turns_rose : RoseBy turns before.turns now.turns
  pub recordings_rose : RoseBy recordings before.recordings now.recordings

-- the turns of an answer by reuse
abbrev pub reused_turns : Answer → ℕ
reused_turns a = if is_reused a.kind then turns_of a.end else 0

-- the input of the line was recorded: it is one, and no entry admitted it
abbrev pub is_of_recording : ReplyKind → Bool
is_of_recording (Reused entry) = false
is_of_recording RefusedLine = false
is_of_recording RefusedUntested = false
is_of_recording _ = true

-- the counts rose by what these answers took
abbrev pub AreCounted : List Answer → Counts → Counts → Type 0
AreCounted answers before now = Counted (sum_by reused_turns answers) (count_by (λ (a : Answer). is_of_recording a.kind) answers) before now

-- what is told of a session: what the sink took, where that is told, and the counts of the runner
pub record Told : Type 0 where
  pub taken : Option (List ℕ)
  pub counts : Counts

abbrev pub told : Option (List ℕ) → Counts → Told
told taken counts = record { taken = taken; counts = counts }

-- all lines of an input that is no longer than the limit are answered, and what the answers took was counted
pub record ServesCounted {M : Type 0} (form : ReplyForm) (admits : M → List ℤ → Bool) (runs : Runs M) (first : Kept M) (old new : Told) (input : List ℕ) : Type 0 where
  pub all : ServesAll form admits runs first old.taken new.taken input
  pub counted : AreCounted all.serves.session.answers old.counts new.counts

-- this is kept once all lines of an input that is no longer than the limit were answered, and what the answers took was counted
pub record KeepsCounted {M : Type 0} (admits : M → List ℤ → Bool) (runs : Runs M) (first last : Kept M) (before after : Counts) (input : List ℕ) : Type 0 where
  pub all : KeepsAll admits runs first last input
  pub counted : AreCounted all.answers before after

-- the text of a trial of this number, over a session of its lines, and what its answers took was counted
pub record TrialCounted {M : Type 0} (admits : M → List ℤ → Bool) (runs : Runs M) (number : ℕ) (before after : Counts) (text : List ℕ) : Type 0 where
  pub tells : IsTrialText admits runs number text
  pub counted : AreCounted tells.answers before after
