-- How `conditions` ends.
use Rattle.std.proofs.Common.{◌≡◌, refl, sym, subst, ℕ, ℤ, inl, inr, List}
use Rattle.std.specs.Io.KnownBytes.{Appends}
use Rattle.pg_io.specs.Faults.{Rose}
use Rattle.pg_io.specs.Streams.{AppendsFront}
use Rattle.pg_commands_words.specs.Pieces.{Word}
use Rattle.pg_commands_words.specs.Commands.{conditions}
use Rattle.pg_commands_words.specs.declared.commands.RecordingWay.{RecordingWay}
use Rattle.pg_commands.specs.declared.status.Status.{Status}
use Rattle.pg_commands.specs.declared.status.Status.TheVariants.{WriteFault}
use Rattle.pg_commands.specs.Commands.{World, EndsAs, Fetched, IsConditions}
use Rattle.pg_commands.specs.Replies.{IsReply, IsReplyStatus, IsWritten}
use Rattle.pg_commands.proofs.CommandEnds.{Says, ends_as, some_same, due_reply, front_of, none_failed}
use Rattle.pg_commands.proofs.ShowEnds.{Fetches, Makes, Unread}

-- the reply to the text of the file
abbrev Replied : World → Word → RecordingWay → List ℤ → Status → List ℕ → Type 0
Replied w file way numbers status written = Fetched w.shelf.texts file (λ text. IsReply (IsConditions text way numbers) text status written)

said : (w : World) (file : Word) (way : RecordingWay) (numbers : List ℤ) (status : Status) (written : List ℕ) → IsReplyStatus status → Makes w way status → Replied w file way numbers status written
    → Appends w.sink.taken_before w.sink.taken_after written → Says w (conditions file way numbers) status
said w file way numbers status written (inl e) makes r app = subst (Says w (conditions file way numbers)) (sym e)
    (let t = subst (λ s. Replied w file way numbers s written) e r in (t.0, t.1, record { writes = record { written = written; is_text = t.2; appended = app }; makes = makes e }))
said w file way numbers status written (inr e) makes r app = subst (Says w (conditions file way numbers)) (sym e)
    (let t = subst (λ s. Replied w file way numbers s written) e r in (t.0, t.1, record { written = written; is_text = t.2; appended = app }))

conditions_replied : (w : World) (file : Word) (way : RecordingWay) (numbers : List ℤ) (status : Status) (written : List ℕ) → Unread w (conditions file way numbers) → Fetches w
    → w.sink.writes_after ≡ w.sink.writes_before → IsReplyStatus status → Makes w way status → Replied w file way numbers status written
    → Appends w.sink.taken_before w.sink.taken_after written → EndsAs w (conditions file way numbers) status
conditions_replied w file way numbers status written unread fetches writes is makes r app =
    ends_as w (conditions file way numbers) status (said w file way numbers status written is makes r app) (none_failed w status fetches unread.reads writes) unread.takes unread.crews
    (λ n. some_same (w.shelf.texts file) _ r.0 r.1 (due_reply (IsConditions r.0 way numbers) r.0 written status (λ o. (o.program, o.accepted)) is r.2))

conditions_cut : (w : World) (file : Word) (way : RecordingWay) (numbers : List ℤ) (status : Status) (written : List ℕ) → Unread w (conditions file way numbers) → Fetches w
    → Rose w.sink.writes_before w.sink.writes_after → IsReplyStatus status → Replied w file way numbers status written
    → AppendsFront w.sink.taken_before w.sink.taken_after written → EndsAs w (conditions file way numbers) WriteFault
conditions_cut w file way numbers status written unread fetches rose is r cut =
    ends_as w (conditions file way numbers) WriteFault
    (rose, (r.0, r.1, front_of (IsConditions r.0 way numbers) r.0 written w.sink.taken_before w.sink.taken_after status is r.2 cut))
    (record { fetches = λ name. inr (fetches name); reads = inr unread.reads; writes = inl refl }) unread.takes unread.crews (λ n. absurd (n.writes rose))

-- the reply was handed to the sink
pub conditions_written : (w : World) (file : Word) (way : RecordingWay) (numbers : List ℤ) (due : Status) (written : List ℕ) (status : Status) → Unread w (conditions file way numbers) → Fetches w
    → IsReplyStatus due → Makes w way due → Replied w file way numbers due written → IsWritten written due w.sink.taken_before w.sink.taken_after w.sink.writes_before w.sink.writes_after status
    → EndsAs w (conditions file way numbers) status
conditions_written w file way numbers due written status unread fetches is makes r (inl h) =
    subst (EndsAs w (conditions file way numbers)) (sym h.0) (conditions_replied w file way numbers due written unread fetches h.2 is makes r h.1)
conditions_written w file way numbers due written status unread fetches is makes r (inr h) =
    subst (EndsAs w (conditions file way numbers)) (sym h.0) (conditions_cut w file way numbers due written unread fetches h.2 is r h.1)
