use Rattle.pg_session_book.proofs.LoadedEntries.{AreKept}
use Rattle.pg_session_book.proofs.book.load.Given as goal

abbrev pub invariant-entries : goal.invariant-entries
invariant-entries l = AreKept l.p l.book.entries.items l.place l.cache
