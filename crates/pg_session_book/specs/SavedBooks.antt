-- What a book keeps of the entries of a session.
use Rattle.std.specs.Prelude.{◌≡◌, ℕ, List, map}
use Rattle.pg_book.specs.Books.{IsBook}
use Rattle.pg_book.specs.Parts.{BookEntryParts}
use Rattle.pg_book.specs.Texts.{book_text}
use Rattle.pg_session_runner.specs.Entries.{EntryParts}

abbrev pub kept_parts : EntryParts → BookEntryParts
kept_parts e = record { input = e.input; turns = e.schedule.turns; gated = e.schedule.gated }

-- the bytes are the text of the book of these entries, and they are read as that book
pub record IsSaved (entries : List EntryParts) (bytes : List ℕ) : Type 0 where
  pub text : bytes ≡ book_text (map kept_parts entries)
  pub again : IsBook bytes (map kept_parts entries)
