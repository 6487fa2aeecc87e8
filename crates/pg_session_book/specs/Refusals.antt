-- Why a book is refused for a program, and the line that says so.
use Rattle.std.specs.Prelude.{◌≡◌, ◌<◌, ◌≤◌, ℕ, List, [], ◌∷◌, ◌++◌, length, codes}
use Rattle.std.specs.Fmt.{decimal}
use Rattle.pg_session_runner.specs.pg_ir.Program.{NumberedProgram}
use Rattle.pg_session_runner.specs.pg_num.declared.limits.TheConstants.{BOOK_LIMIT}
use Rattle.pg_book.specs.Books.{IsBook, IsFault}
use Rattle.pg_book.specs.Parts.{BookEntryParts}
use Rattle.pg_book.specs.declared.read.BookFault.{BookFault}
use Rattle.pg_book.specs.declared.read.BookFault.TheVariants as read
use Rattle.pg_session_runner.specs.FromFault.TheVariants as turns
use Rattle.pg_session_runner.specs.declared.loading.LoadFault.{LoadFault}
use Rattle.pg_session_runner.specs.declared.loading.LoadFault.TheVariants as load
use Rattle.pg_session_book.specs.LoadedBooks.{IsFirstRefused, IsNoWant}
use Rattle.pg_session_book.specs.declared.refusals.BookRefusal.{BookRefusal}
use Rattle.pg_session_book.specs.declared.refusals.BookRefusal.TheVariants.{TooLong, Read, Entry}

-- ---- which books are refused

-- the bytes are no book, for this reason
pub record IsUnreadBook (bytes : List ℕ) (fault : BookFault) : Type 0 where
  pub within : length bytes ≤ BOOK_LIMIT
  pub fault_holds : IsFault fault bytes
  pub no_want : fault ≡ read.OutOfMemory → ⊥

-- the bytes are a book, whose entry of this number is the first that is none of the program, for this reason
pub record IsUnloadedBook (p : NumberedProgram) (bytes : List ℕ) (number : ℕ) (fault : LoadFault) : Type 0 where
  pub within : length bytes ≤ BOOK_LIMIT
  pub entries : List BookEntryParts
  pub is_book : IsBook bytes entries
  pub first : IsFirstRefused p entries number fault
  pub no_want : IsNoWant fault

abbrev pub IsBookRefusedFor : NumberedProgram → List ℕ → BookRefusal → Type 0
IsBookRefusedFor p bytes TooLong = BOOK_LIMIT < length bytes
IsBookRefusedFor p bytes (Read fault) = IsUnreadBook bytes fault
IsBookRefusedFor p bytes (Entry number fault) = IsUnloadedBook p bytes number fault

abbrev pub IsBookRefused : NumberedProgram → List ℕ → Type 0
IsBookRefused p bytes = (refusal : BookRefusal) × IsBookRefusedFor p bytes refusal

-- ---- its line

abbrev pub fault_text : BookFault → List ℕ
fault_text read.NotJson = codes "NotJson"
fault_text read.Outer = codes "Outer"
fault_text read.TooMany = codes "TooMany"
fault_text (read.Shape number) = codes "Shape " ++ decimal number
fault_text read.OutOfMemory = codes "OutOfMemory"

abbrev pub entry_text : ℕ → LoadFault → List ℕ
entry_text number load.Gate = codes "Gate " ++ decimal number
entry_text number (load.Turns (turns.Strayed turn)) = codes "Strayed " ++ (decimal number ++ (codes " at " ++ decimal turn))
entry_text number (load.Turns turns.Unfinished) = codes "Unfinished " ++ decimal number
entry_text number (load.Turns (turns.Unordered first second)) = codes "Unordered " ++ (decimal number ++ (codes " steps " ++ (decimal first ++ (codes " " ++ decimal second))))
entry_text number (load.Turns turns.OutOfMemory) = codes "OutOfMemory"

abbrev pub refusal_text : BookRefusal → List ℕ
refusal_text TooLong = codes "TooLong"
refusal_text (Read fault) = fault_text fault
refusal_text (Entry number fault) = entry_text number fault

abbrev pub book_refusal_line : BookRefusal → List ℕ
book_refusal_line refusal = codes "book refused " ++ (refusal_text refusal ++ 10 ∷ [])

-- the line refuses this book
pub record IsBookRefusalLine (p : NumberedProgram) (bytes line : List ℕ) : Type 0 where
  pub refusal : BookRefusal
  pub is_refused : IsBookRefusedFor p bytes refusal
  pub is_line : line ≡ book_refusal_line refusal
