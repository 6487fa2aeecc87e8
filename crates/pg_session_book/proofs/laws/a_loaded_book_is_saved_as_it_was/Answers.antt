use Rattle.std.proofs.Common.{subst, sym}
use Rattle.pg_book.specs.Books.{IsBook}
use Rattle.pg_session_book.proofs.SavedEntries.{loaded_parts}
use Rattle.pg_session_book.proofs.laws.a_loaded_book_is_saved_as_it_was.Goals as goal

pub returns : goal.returns
returns c p bytes first h = subst (IsBook bytes) (sym (loaded_parts p h.entries first.values h.loaded)) h.is_book
