-- What a book gives a session of a program.
use Rattle.std.specs.Prelude.{◌≡◌, ◌≤◌, ℕ, List, length}
use Rattle.pg_session_runner.specs.pg_ir.Program.{NumberedProgram}
use Rattle.pg_session_runner.specs.pg_cache.Kept.{Kept}
use Rattle.pg_session_runner.specs.pg_num.declared.limits.TheConstants.{BOOK_LIMIT}
use Rattle.pg_book.specs.Books.{IsBook}
use Rattle.pg_book.specs.Parts.{BookEntryParts}
use Rattle.pg_session_runner.specs.pg_session.Sessions.{opened}
use Rattle.pg_session_runner.specs.Entries.{EntryParts}
use Rattle.pg_session_book.specs.LoadedBooks.{AreLoaded}
use Rattle.pg_session_book.specs.Refusals.{IsBookRefusalLine}
use Rattle.pg_session_book.specs.declared.opening.OpenedBook.{OpenedBook}
use Rattle.pg_session_book.specs.declared.opening.OpenedBook.TheVariants.{Entries, Refused}

-- a session begins with the entries of this book
pub record BeginsWith (p : NumberedProgram) (bytes : List ℕ) (first : Kept EntryParts) : Type 0 where
  pub within : length bytes ≤ BOOK_LIMIT
  pub entries : List BookEntryParts
  pub is_book : IsBook bytes entries
  pub loaded : AreLoaded p entries first.values
  pub is_opened : first ≡ opened first.values

-- the book gives this
abbrev pub IsOpenedBook : NumberedProgram → List ℕ → OpenedBook → Type 0
IsOpenedBook p bytes (Entries first) = BeginsWith p bytes first
IsOpenedBook p bytes (Refused line) = IsBookRefusalLine p bytes line.items
