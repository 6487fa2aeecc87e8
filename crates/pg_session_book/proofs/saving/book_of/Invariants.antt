use Rattle.std.specs.Prelude.{◌≡◌, map, take}
use Rattle.pg_book.specs.Parts.{parts_of}
use Rattle.pg_session_book.specs.SavedBooks.{kept_parts}
use Rattle.pg_session_book.proofs.saving.book_of.Given as goal

abbrev pub invariant-held : goal.invariant-held
invariant-held l = map parts_of l.entries.items ≡ map kept_parts (take l.place l.kept.values)
