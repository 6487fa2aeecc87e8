-- Which status is due of a program text, of a book and of lines.
use Rattle.std.proofs.Common.{◌≡◌, refl, subst, ℕ, inl, inr, List, Option, Some, None, IfSome}
use Rattle.pg_ir.specs.Program.{NumberedProgram}
use Rattle.pg_cache.specs.Kept.{Kept}
use Rattle.pg_commands_words.specs.Pieces.{Word}
use Rattle.pg_session_book.specs.pg_session.Texts.{HasBytes}
use Rattle.pg_session_book.specs.Entries.{EntryParts}
use Rattle.pg_session_book.specs.OpenedBooks.{BeginsWith}
use Rattle.pg_session_book.specs.Refusals.{IsBookRefusedFor}
use Rattle.pg_session_book.specs.declared.refusals.BookRefusal.{BookRefusal}
use Rattle.pg_commands.specs.declared.status.Status.{Status}
use Rattle.pg_commands.specs.declared.status.Status.TheVariants.{BookRefused, OutOfMemory, ProgramRefused}
use Rattle.pg_commands.specs.Commands.{Begins, DueOfBook, DueOfInput, DueOfLines, DueOfText, Fetched, IsBookLine, World}
use Rattle.pg_commands.specs.Texts.{IsAccepted, IsRefusalLine}
use Rattle.pg_commands.proofs.CommandEnds.{some_all, some_same}
use Rattle.pg_commands.proofs.TextVerdicts.{not_refused, one_program}

-- ---- of lines

-- at want of memory
pub lines_starved : (w : World) → DueOfLines w OutOfMemory
lines_starved w = some_all w.source.rest_before (λ input. DueOfInput input OutOfMemory) (λ input. ((λ h. inr refl), (λ h. inr refl)))

-- where this of the input is known
pub lines_due : (w : World) (status : Status) (P : List ℕ → Type 0) → HasBytes w.source.rest_before P → ((input : List ℕ) → P input → DueOfInput input status) → DueOfLines w status
lines_due w status P h due = some_same w.source.rest_before (λ input. DueOfInput input status) h.0 h.1 (due h.0 h.2)

-- ---- of a program text

-- the program of the text of the file
abbrev pub Program : World → Word → NumberedProgram → Type 0
Program w file p = Fetched w.shelf.texts file (λ text. IsAccepted text p)

abbrev DueOfFile : World → Word → (NumberedProgram → Status → Type 0) → Status → Type 0
DueOfFile w file Due status = IfSome (w.shelf.texts file) (λ text. DueOfText Due text status)

pub program_due : (w : World) (file : Word) (Due : NumberedProgram → Status → Type 0) (p : NumberedProgram) (status : Status) → Program w file p → Due p status → DueOfFile w file Due status
program_due w file Due p status f due =
    some_same (w.shelf.texts file) (λ text. DueOfText Due text status) f.0 f.1
    ((λ q a. subst (λ (r : NumberedProgram). Due r status) (one_program f.0 p q f.2 a) due), (λ refused. absurd (not_refused f.0 p f.2 refused)))

pub refusal_due : (w : World) (file : Word) (Due : NumberedProgram → Status → Type 0) (line : List ℕ) → Fetched w.shelf.texts file (λ text. IsRefusalLine text line)
    → DueOfFile w file Due ProgramRefused
refusal_due w file Due line f =
    some_same (w.shelf.texts file) (λ text. DueOfText Due text ProgramRefused) f.0 f.1
    ((λ p a. absurd (not_refused f.0 p a (f.2.refusal, f.2.cause))), (λ refused. inl refl))

pub starved_due : (w : World) (file : Word) (Due : NumberedProgram → Status → Type 0) → ((p : NumberedProgram) → Due p OutOfMemory) → DueOfFile w file Due OutOfMemory
starved_due w file Due due =
    some_all (w.shelf.texts file) (λ text. DueOfText Due text OutOfMemory) (λ text. ((λ p a. due p), (λ refused. inr refl)))

-- ---- of a book

-- a book with whose entries a session begins isn't refused
abbrev pub NotBoth : Type 0
NotBoth = (p : NumberedProgram) (bytes : List ℕ) (first : Kept EntryParts) (refusal : BookRefusal) → BeginsWith p bytes first → IsBookRefusedFor p bytes refusal → ⊥

pub book_starved : (w : World) (named : Option Word) (p : NumberedProgram) → DueOfBook w named (DueOfLines w) p OutOfMemory
book_starved w None p = lines_starved w
book_starved w (Some name) p = some_all (w.shelf.texts name) _ (λ bytes. ((λ first b. lines_starved w), (λ refused. inr refl)))

pub book_due : NotBoth → (w : World) (named : Option Word) (p : NumberedProgram) (first : Kept EntryParts) (status : Status) → Begins w.shelf.texts named p first → DueOfLines w status
    → DueOfBook w named (DueOfLines w) p status
book_due apart w None p first status b due = due
book_due apart w (Some name) p first status b due =
    some_same (w.shelf.texts name) _ b.0 b.1 ((λ other is. due), (λ refused. absurd (apart p b.0 first refused.0 b.2 refused.1)))

pub book_refusal_due : NotBoth → (w : World) (named : Option Word) (p : NumberedProgram) (line : List ℕ) → IsBookLine w.shelf.texts named p line → DueOfBook w named (DueOfLines w) p BookRefused
book_refusal_due apart w None p line l = absurd l
book_refusal_due apart w (Some name) p line l =
    some_same (w.shelf.texts name) _ l.0 l.1 ((λ first b. absurd (apart p l.0 first l.2.refusal b l.2.is_refused)), (λ refused. inl refl))
