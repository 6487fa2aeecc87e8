-- How `trial` ends.
use Rattle.std.proofs.Common.{◌≡◌, refl, subst, sym, ℕ, inl, inr, List, Vec, Global}
use Rattle.std.specs.Io.KnownBytes.{Appends}
use Rattle.std.specs.Prelude.{Err, IfOk, Ok, Result}
use Rattle.pg_io.specs.Faults.{Rose}
use Rattle.pg_io.specs.Streams.{AppendsFront}
use Rattle.pg_commands_words.specs.Commands.{trial}
use Rattle.pg_session_trial.specs.Program.{trial_program}
use Rattle.pg_ir.specs.Program.{NumberedProgram}
use Rattle.pg_session_book.specs.Runs.{Subject, Way, entry_admits, runs_by}
use Rattle.pg_session_book.specs.pg_session.Counts.{Counts, TrialCounted}
use Rattle.pg_session_book.specs.pg_session.Trials.{IsTrialText}
use Rattle.pg_commands.specs.declared.status.Status.{Status}
use Rattle.pg_commands.specs.declared.status.Status.TheVariants.{WriteFault}
use Rattle.pg_commands.specs.Commands.{World, WorkersChange, EndsAs, IsTrial, MakesTurns}
use Rattle.pg_commands.specs.Replies.{IsReply, IsReplyStatus, IsWritten}
use Rattle.pg_commands.proofs.CommandEnds.{Says, ends_as, by_reply, due_reply, front_of, none_failed}
use Rattle.pg_commands.proofs.CrewCounts.{OfWorkers, turns_made}
use Rattle.pg_commands.proofs.ShowEnds.{Unread, Fetches}

said : (w : World) (number : ℕ) (status : Status) (written : List ℕ) → IsReplyStatus status → IsReply (IsTrial trial_program number w.workers) trial_program status written
    → Appends w.sink.taken_before w.sink.taken_after written → Says w (trial number) status
said w number status written is r app =
    by_reply (Says w (trial number)) (IsTrial trial_program number w.workers) trial_program written status is r
    (λ t. record { written = written; is_text = t; appended = app })
    (λ l. record { written = written; is_text = l; appended = app })

trial_replied : (w : World) (number : ℕ) (status : Status) (written : List ℕ) → Unread w (trial number) → Fetches w → w.sink.writes_after ≡ w.sink.writes_before
    → IsReplyStatus status → IsReply (IsTrial trial_program number w.workers) trial_program status written → Appends w.sink.taken_before w.sink.taken_after written
    → EndsAs w (trial number) status
trial_replied w number status written unread fetches writes is r app =
    ends_as w (trial number) status (said w number status written is r app) (none_failed w status fetches unread.reads writes) unread.takes unread.crews
    (λ n. due_reply (IsTrial trial_program number w.workers) trial_program written status (λ o. (o.program, o.accepted)) is r)

trial_cut : (w : World) (number : ℕ) (status : Status) (written : List ℕ) → Unread w (trial number) → Fetches w → Rose w.sink.writes_before w.sink.writes_after
    → IsReplyStatus status → IsReply (IsTrial trial_program number w.workers) trial_program status written → AppendsFront w.sink.taken_before w.sink.taken_after written
    → EndsAs w (trial number) WriteFault
trial_cut w number status written unread fetches rose is r cut =
    ends_as w (trial number) WriteFault
    (rose, front_of (IsTrial trial_program number w.workers) trial_program written w.sink.taken_before w.sink.taken_after status is r cut)
    (record { fetches = λ name. inr (fetches name); reads = inr unread.reads; writes = inl refl }) unread.takes unread.crews (λ n. absurd (n.writes rose))

-- the reply was handed to the sink
pub trial_written : (w : World) (number : ℕ) (due : Status) (written : List ℕ) (status : Status) → Unread w (trial number) → Fetches w → IsReplyStatus due
    → IsReply (IsTrial trial_program number w.workers) trial_program due written → IsWritten written due w.sink.taken_before w.sink.taken_after w.sink.writes_before w.sink.writes_after status
    → EndsAs w (trial number) status
trial_written w number due written status unread fetches is r (inl h) =
    subst (EndsAs w (trial number)) (sym h.0) (trial_replied w number due written unread fetches h.2 is r h.1)
trial_written w number due written status unread fetches is r (inr h) =
    subst (EndsAs w (trial number)) (sym h.0) (trial_cut w number due written unread fetches h.2 is r h.1)

-- ---- the runner

-- the text of a trial of a program, and what the crew counted for it
abbrev pub Told : NumberedProgram → Way → ℕ → WorkersChange → List ℕ → Type 0
Told p way number workers text = (told : IsTrialText entry_admits (runs_by p way) number text) × MakesTurns workers told.answers

-- the runner runs this program, and records so
trial_of : (p : NumberedProgram) (s : Subject) (way : Way) (number : ℕ) (workers : WorkersChange) (text : List ℕ) → s.program ≡ p → s.way ≡ way
    → Told s.program s.way number workers text → Told p way number workers text
trial_of p s way number workers text program same told =
    subst (λ (v : Way). Told p v number workers text) same (subst (λ (q : NumberedProgram). Told q s.way number workers text) program told)

-- and counts the turns of the crew
pub trial_told : {E : Type 0} (p : NumberedProgram) (s : Subject) (way : Way) (number : ℕ) (workers : WorkersChange) (before after : Counts) (r : Result (Vec ℕ Global) E)
    → s.program ≡ p → s.way ≡ way → OfWorkers workers before after
    → IfOk r (λ (t : Vec ℕ Global). TrialCounted entry_admits (runs_by s.program s.way) number before after t.items)
    → IfOk r (λ (t : Vec ℕ Global). Told p way number workers t.items)
trial_told p s way number workers before after (Ok t) program same ran h =
    trial_of p s way number workers t.items program same (h.tells, turns_made workers h.tells.answers before after ran h.counted)
trial_told p s way number workers before after (Err e) program same ran h = tt
