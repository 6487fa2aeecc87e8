use Rattle.std.proofs.Common.{subst}
use Rattle.pg_book.specs.Parts.{parts_in}
use Rattle.pg_session_book.specs.LoadedBooks.{IsLoadRefusal}
use Rattle.pg_session_book.proofs.opening.unloaded.Goals as goal

pub returns-in_ok-opened-in-Entry : goal.returns-in_ok-opened-in-Entry
returns-in_ok-opened-in-Entry c =
    let r = subst (IsLoadRefusal c.args.program.now (parts_in c.args.book.now)) c.in-Entry.is c.requires.refusal in
    c.in_ok-opened-in-Entry.ensures c.args.program.now c.args.bytes.now
    (record { within = c.requires.within; entries = parts_in c.args.book.now; is_book = c.requires.book; first = r.0; no_want = r.1 })
