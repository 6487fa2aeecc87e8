use Rattle.std.proofs.Common.{◌∙◌, inl, inr, refl, string_bytes, subst, ℕ}
use Rattle.std.specs.Option.{option_map}
use Rattle.pg_io.specs.Faults.{Rose}
use Rattle.pg_commands.proofs.CommandEnds.{stayed}
use Rattle.pg_commands.proofs.FirstEntries.{begins_before, first_few, first_stands, line_before}
use Rattle.pg_commands.proofs.ServeEnds.{book_line, program_line, serve_ended}
use Rattle.pg_commands.proofs.WrittenEnds.{fetch_fails}
use Rattle.pg_commands.proofs.serve.serve.Goals as goal

-- the program is refused

pub returns-in-Ok-Refused-clause-ends : goal.returns-in-Ok-Refused-clause-ends
returns-in-Ok-Refused-clause-ends g c =
    program_line _ _ _ _ _ _ c.in-Ok-Refused.line.items c.write_text.result (record { rest = refl; reads = refl; rounds = refl })
    (λ name. stayed _ _ _ (λ e. cc) (c.in-Ok-Refused.ensures.counts name))
    (rw c.as_str.ensures.value at (rw c.in-Ok-Refused.field-0-is at c.in-Ok-Refused.ensures.loaded)) (rw c.deref.ensures.value at c.write_text.ensures)

-- its book is

pub returns-in-Ok-Refused-opening-clause-ends : goal.returns-in-Ok-Refused-opening-clause-ends
returns-in-Ok-Refused-opening-clause-ends g c =
    let loaded = rw c.as_str.ensures.value at (rw c.in-Ok-Accepted.field-0-is at c.in-Ok-Accepted.ensures.loaded) in
    let line = rw c.in-Ok-Refused-opening.field-0-is at c.in-Ok-Refused-opening.ensures.opened in
    book_line _ _ _ _ _ _ c.a_book_is_opened_or_refused_for_one_reason.ensures.not_both c.in-Ok-Accepted.program c.in-Ok-Refused-opening.line.items _
    (record { rest = refl; reads = refl; rounds = refl })
    (λ name. stayed _ _ _ (λ e. cc) (c.in-Ok-Refused-opening.ensures.counts name) ∙ stayed _ _ _ (λ e. cc) (c.in-Ok-Accepted.ensures.counts name))
    (loaded.0, loaded.1, loaded.2.0) (line_before _ _ (option_map string_bytes c.args.command.now.book) c.in-Ok-Accepted.program c.in-Ok-Refused-opening.line.items c.in-Ok-Accepted.ensures.texts_stay line)
    (rw c.deref-in-Ok-Refused-opening.ensures.value at c.write_text-in-Ok-Refused-opening.ensures)

pub returns-in-Err-ShelfFault-opening-clause-ends : goal.returns-in-Err-ShelfFault-opening-clause-ends
returns-in-Err-ShelfFault-opening-clause-ends g c =
    let loaded = rw c.as_str.ensures.value at (rw c.in-Ok-Accepted.field-0-is at c.in-Ok-Accepted.ensures.loaded) in
    let failed = (rw c.in-Err-ShelfFault-opening.field-0-is at c.in-Err-ShelfFault-opening.ensures.cause) refl in
    fetch_fails _ _ failed.0 (inr (failed.1, (loaded.0, loaded.1, (c.in-Ok-Accepted.program, loaded.2.0))))
    (subst (λ (n : ℕ). Rose n (g.F.Shelf.faults c.opening.new.shelf failed.0)) (stayed _ _ _ (λ e. cc) (c.in-Ok-Accepted.ensures.counts failed.0)) failed.2)
    (record { rest = refl; reads = refl; taken = refl; writes = refl; rounds = refl; turns = refl })

-- the session

pub session-requires-clause-stands : goal.session-requires-clause-stands
session-requires-clause-stands g c = λ _ _ v. first_stands _ _ _ v _ (rw c.in-Ok-Entries.field-0-is at c.in-Ok-Entries.ensures.opened)

pub session-requires-clause-few : goal.session-requires-clause-few
session-requires-clause-few g c = λ _ _.
    first_few c.what_is_read_is_within_limits.ensures _ _ _ _ (rw c.in-Ok-Entries.field-0-is at c.in-Ok-Entries.ensures.opened)

pub returns-clause-ends : goal.returns-clause-ends
returns-clause-ends g c =
    let loaded = rw c.as_str.ensures.value at (rw c.in-Ok-Accepted.field-0-is at c.in-Ok-Accepted.ensures.loaded) in
    let begun = rw c.in-Ok-Entries.field-0-is at c.in-Ok-Entries.ensures.opened in
    rw c.status_of.ensures (serve_ended _ _ _ _ _ _ c.a_book_is_opened_or_refused_for_one_reason.ensures.not_both c.in-Ok-Accepted.program c.in-Ok-Entries.first
    (loaded.0, loaded.1, loaded.2.0) (begins_before _ _ (option_map string_bytes c.args.command.now.book) c.in-Ok-Accepted.program c.in-Ok-Entries.first c.in-Ok-Accepted.ensures.texts_stay begun)
    (λ name. stayed _ _ _ (λ e. cc) (c.in-Ok-Entries.ensures.counts name) ∙ stayed _ _ _ (λ e. cc) (c.in-Ok-Accepted.ensures.counts name))
    c.session.ensures.ends.takes (record { rounds = c.session.ensures.others; turns = inl tt }) _ (rw c.reply_form.ensures at c.session.ensures.ends))
