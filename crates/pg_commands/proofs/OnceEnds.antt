-- How `once` ends.
use Rattle.std.proofs.Common.{◌≡◌, refl, sym, subst, ℕ, ℤ, ◌+◌, inl, inr, List}
use Rattle.std.specs.Io.KnownBytes.{Appends}
use Rattle.pg_num.specs.declared.limits.TheConstants.{PROGRAM_TEXT_LIMIT}
use Rattle.pg_io.specs.Faults.{Rose}
use Rattle.pg_io.specs.Streams.{AppendsFront, TakesAtMost}
use Rattle.pg_commands_words.specs.Commands.{once}
use Rattle.pg_commands.specs.declared.status.Status.{Status}
use Rattle.pg_commands.specs.declared.status.Status.TheVariants.{WriteFault}
use Rattle.pg_session_book.specs.pg_session.Texts.{HasBytes}
use Rattle.pg_commands.specs.Commands.{World, EndsAs}
use Rattle.pg_commands.specs.Replies.{IsReply, IsReplyStatus, IsWritten}
use Rattle.pg_commands.specs.Texts.{IsOnceText}
use Rattle.pg_commands.proofs.CommandEnds.{OfCrews, Says, ends_as, some_same, due_reply, front_of, none_failed}

-- the shelf isn't used
abbrev pub Fetches : World → Type 0
Fetches w = (name : List ℕ) → w.shelf.fetches_after name ≡ w.shelf.fetches_before name

-- the reply to the text of the source
abbrev pub Replied : World → ℕ → List ℤ → Status → List ℕ → Type 0
Replied w quantum numbers status written = HasBytes w.source.rest_before (λ text. IsReply (IsOnceText text quantum numbers) text status written)

said : (w : World) (quantum : ℕ) (numbers : List ℤ) (status : Status) (written : List ℕ) → IsReplyStatus status → Replied w quantum numbers status written
    → Appends w.sink.taken_before w.sink.taken_after written → Says w (once quantum numbers) status
said w quantum numbers status written (inl e) r app = subst (Says w (once quantum numbers)) (sym e)
    (let t = subst (λ s. Replied w quantum numbers s written) e r in (t.0, t.1, record { written = written; is_text = t.2; appended = app }))
said w quantum numbers status written (inr e) r app = subst (Says w (once quantum numbers)) (sym e)
    (let t = subst (λ s. Replied w quantum numbers s written) e r in (t.0, t.1, record { written = written; is_text = t.2; appended = app }))

once_replied : (w : World) (quantum : ℕ) (numbers : List ℤ) (status : Status) (written : List ℕ) → Fetches w → w.source.reads_after ≡ w.source.reads_before
    → w.sink.writes_after ≡ w.sink.writes_before → TakesAtMost w.source.rest_before w.source.rest_after (PROGRAM_TEXT_LIMIT + 1) → OfCrews w (once quantum numbers) → IsReplyStatus status
    → Replied w quantum numbers status written → Appends w.sink.taken_before w.sink.taken_after written → EndsAs w (once quantum numbers) status
once_replied w quantum numbers status written fetches reads writes takes crews is r app =
    ends_as w (once quantum numbers) status (said w quantum numbers status written is r app) (none_failed w status fetches reads writes) takes crews
    (λ n. some_same w.source.rest_before _ r.0 r.1 (due_reply (IsOnceText r.0 quantum numbers) r.0 written status (λ o. (o.program, o.accepted)) is r.2))

once_cut : (w : World) (quantum : ℕ) (numbers : List ℤ) (status : Status) (written : List ℕ) → Fetches w → w.source.reads_after ≡ w.source.reads_before
    → Rose w.sink.writes_before w.sink.writes_after → TakesAtMost w.source.rest_before w.source.rest_after (PROGRAM_TEXT_LIMIT + 1) → OfCrews w (once quantum numbers) → IsReplyStatus status
    → Replied w quantum numbers status written → AppendsFront w.sink.taken_before w.sink.taken_after written → EndsAs w (once quantum numbers) WriteFault
once_cut w quantum numbers status written fetches reads rose takes crews is r cut =
    ends_as w (once quantum numbers) WriteFault
    (rose, (r.0, r.1, front_of (IsOnceText r.0 quantum numbers) r.0 written w.sink.taken_before w.sink.taken_after status is r.2 cut))
    (record { fetches = λ name. inr (fetches name); reads = inr reads; writes = inl refl }) takes crews (λ n. absurd (n.writes rose))

-- the reply was handed to the sink
pub once_written : (w : World) (quantum : ℕ) (numbers : List ℤ) (due : Status) (written : List ℕ) (status : Status) → Fetches w → w.source.reads_after ≡ w.source.reads_before
    → TakesAtMost w.source.rest_before w.source.rest_after (PROGRAM_TEXT_LIMIT + 1) → OfCrews w (once quantum numbers) → IsReplyStatus due → Replied w quantum numbers due written
    → IsWritten written due w.sink.taken_before w.sink.taken_after w.sink.writes_before w.sink.writes_after status → EndsAs w (once quantum numbers) status
once_written w quantum numbers due written status fetches reads takes crews is r (inl h) =
    subst (EndsAs w (once quantum numbers)) (sym h.0) (once_replied w quantum numbers due written fetches reads h.2 takes crews is r h.1)
once_written w quantum numbers due written status fetches reads takes crews is r (inr h) =
    subst (EndsAs w (once quantum numbers)) (sym h.0) (once_cut w quantum numbers due written fetches reads h.2 takes crews is r h.1)
