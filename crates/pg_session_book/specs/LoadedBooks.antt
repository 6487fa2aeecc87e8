-- What is loaded of a book: each entry is of its turns, and the first that isn't is told.
use Rattle.std.specs.Prelude.{◌≡◌, ℕ, true, List, [], ◌∷◌, take, Some, slice_get}
use Rattle.pg_session_runner.specs.pg_ir.Program.{NumberedProgram}
use Rattle.pg_book.specs.Parts.{BookEntryParts}
use Rattle.pg_session_runner.specs.Entries.{EntryParts, IsEntryOfTurns}
use Rattle.pg_session_runner.specs.Loading.{IsLoadFault, are_accesses}
use Rattle.pg_session_runner.specs.FromFault.TheVariants as turns
use Rattle.pg_session_runner.specs.declared.loading.LoadFault.{LoadFault}
use Rattle.pg_session_runner.specs.declared.loading.LoadFault.TheVariants as load
use Rattle.pg_session_book.specs.declared.book.LoadRefusal.{LoadRefusal}
use Rattle.pg_session_book.specs.declared.book.LoadRefusal.TheVariants as refusals

-- this is the entry of what a book keeps: of its turns on its input, where its loads and stores are turns
pub record IsLoaded (p : NumberedProgram) (b : BookEntryParts) (e : EntryParts) : Type 0 where
  pub gated : are_accesses p b.gated ≡ true
  pub is_entry : IsEntryOfTurns p b.input b.turns b.gated e

-- why what a book keeps has no entry
abbrev pub IsWhyNot : NumberedProgram → BookEntryParts → LoadFault → Type 0
IsWhyNot p b fault = IsLoadFault p b.input b.turns b.gated fault

-- this isn't want of memory
abbrev pub IsNoWant : LoadFault → Type 0
IsNoWant fault = fault ≡ load.Turns turns.OutOfMemory → ⊥

-- these are the entries of what a book keeps, in order
abbrev pub AreLoaded : NumberedProgram → List BookEntryParts → List EntryParts → Type 0
AreLoaded p [] [] = Unit {0}
AreLoaded p (b ∷ bs) (e ∷ es) = IsLoaded p b e × AreLoaded p bs es
AreLoaded p bs es = ⊥

-- the entries before this one are there, and why this one isn't
pub record IsFirstRefused (p : NumberedProgram) (bs : List BookEntryParts) (number : ℕ) (fault : LoadFault) : Type 0 where
  pub before : List EntryParts
  pub loaded : AreLoaded p (take number bs) before
  pub kept : BookEntryParts
  pub is_kept : slice_get bs number ≡ Some kept
  pub why : IsWhyNot p kept fault

abbrev pub IsLoadRefusal : NumberedProgram → List BookEntryParts → LoadRefusal → Type 0
IsLoadRefusal p bs (refusals.Entry number fault) = IsFirstRefused p bs number fault × IsNoWant fault
IsLoadRefusal p bs refusals.OutOfMemory = Unit {0}
