-- With what a session may begin: no entries, or those of a book.
use Rattle.std.proofs.Common.{◌≡◌, ◌≤◌, ◌<◌, ℕ, zero, suc, List, [], ◌∷◌, length, get_or, Option, Some, None, refl, sym, ap, subst, arith}
use Rattle.std.specs.Prelude.{All}
use Rattle.pg_num.specs.declared.limits.TheConstants.{CACHE_LIMIT}
use Rattle.pg_ir.specs.Program.{NumberedProgram}
use Rattle.pg_session_book.specs.pg_book.Books.{AreLimited, IsBook}
use Rattle.pg_session_book.specs.pg_book.Parts.{BookEntryParts}
use Rattle.pg_cache.specs.Kept.{Kept}
use Rattle.pg_session_book.specs.pg_session.Progress.{Stands}
use Rattle.pg_session_book.specs.pg_session.Sessions.{IsEntryOf, begin, of_turns, opened}
use Rattle.pg_session_book.specs.Entries.{EntryParts}
use Rattle.pg_session_book.specs.LoadedBooks.{AreLoaded, IsLoaded}
use Rattle.pg_session_book.specs.OpenedBooks.{BeginsWith, IsOpenedBook}
use Rattle.pg_session_book.specs.Runs.{IsGiven, Way, runs_by}
use Rattle.pg_session_book.specs.declared.opening.OpenedBook.{OpenedBook}
use Rattle.pg_session_book.specs.declared.opening.OpenedBook.TheVariants.{Entries, Refused}
use Rattle.pg_commands_words.specs.Pieces.{Word}
use Rattle.pg_commands.specs.Commands.{Begins, Fetched, IsBookLine}
use Rattle.pg_commands.specs.Sessions.{IsOpening}

given : (p : NumberedProgram) (b : BookEntryParts) (e : EntryParts) → IsLoaded p b e → IsGiven p e
given p b e l = record {
  same_input = refl;
  same_turns = refl;
  same_gated = refl;
  steps = l.is_entry.steps;
  printed = l.is_entry.printed;
  value = l.is_entry.value;
  serves = l.is_entry.serves;
  replies = l.is_entry.replies;
  races = l.is_entry.races;
  ordered = l.is_entry.ordered;
}

given_at : (p : NumberedProgram) (way : Way) (bs : List BookEntryParts) (es : List EntryParts) → AreLoaded p bs es → (k : ℕ) (d : EntryParts) → k < length es
    → IsEntryOf (runs_by p way) (get_or es k d)
given_at p way bs [] l k d inside = absurd (omega (arith, inside))
given_at p way [] (e ∷ es) l k d inside = absurd l
given_at p way (b ∷ bs) (e ∷ es) l zero d inside = of_turns (given p b e l.0)
given_at p way (b ∷ bs) (e ∷ es) l (suc k) d inside = given_at p way bs es l.1 k d (omega (arith, inside))

all_given : (p : NumberedProgram) (way : Way) (bs : List BookEntryParts) (es : List EntryParts) → AreLoaded p bs es → All (IsEntryOf (runs_by p way)) es
all_given p way bs es l = λ k d inside. given_at p way bs es l k d inside

none_given : (p : NumberedProgram) (way : Way) → All (IsEntryOf (runs_by p way)) []
none_given p way = λ k d inside. absurd (omega (arith, inside))

same_length : (p : NumberedProgram) (bs : List BookEntryParts) (es : List EntryParts) → AreLoaded p bs es → length es ≡ length bs
same_length p [] [] l = refl
same_length p [] (e ∷ es) l = absurd l
same_length p (b ∷ bs) [] l = absurd l
same_length p (b ∷ bs) (e ∷ es) l = ap suc (same_length p bs es l.1)

-- what is read is within the limits of a book
abbrev pub Limits : Type 0
Limits = (bytes : List ℕ) (bs : List BookEntryParts) → IsBook bytes bs → AreLimited bs

begins_few : Limits → (p : NumberedProgram) (bytes : List ℕ) (first : Kept EntryParts) → BeginsWith p bytes first → first.inserted ≤ CACHE_LIMIT
begins_few limits p bytes first b =
    let few = (limits bytes b.entries b.is_book).0 in
    let kept = same_length p b.entries first.values b.loaded in
    let count : first.inserted ≡ length first.values = ap (λ (k : Kept EntryParts). k.inserted) b.is_opened in
    omega (arith, few, kept, count)

begins_stands : (p : NumberedProgram) (way : Way) (bytes : List ℕ) (first : Kept EntryParts) → BeginsWith p bytes first → Stands (runs_by p way) first
begins_stands p way bytes first b = record {
  size = ap (λ (k : Kept EntryParts). k.size) b.is_opened;
  entries = all_given p way b.entries first.values b.loaded;
}

pub first_stands : (texts : List ℕ → Option (List ℕ)) (named : Option Word) (p : NumberedProgram) (way : Way) (first : Kept EntryParts) → Begins texts named p first
    → Stands (runs_by p way) first
first_stands texts None p way first b = subst (λ (k : Kept EntryParts). Stands (runs_by p way) k) (sym b) (record { size = refl; entries = none_given p way })
first_stands texts (Some name) p way first b = begins_stands p way b.0 first b.2

pub first_few : Limits → (texts : List ℕ → Option (List ℕ)) (named : Option Word) (p : NumberedProgram) (first : Kept EntryParts) → Begins texts named p first → first.inserted ≤ CACHE_LIMIT
first_few limits texts None p first b = subst (λ (k : Kept EntryParts). k.inserted ≤ CACHE_LIMIT) (sym b) (omega arith)
first_few limits texts (Some name) p first b = begins_few limits p b.0 first b.2

pub begin_stands : (p : NumberedProgram) (way : Way) (first : Kept EntryParts) → first ≡ begin → Stands (runs_by p way) first
begin_stands p way first none = subst (λ (k : Kept EntryParts). Stands (runs_by p way) k) (sym none) (record { size = refl; entries = none_given p way })

pub begin_few : (first : Kept EntryParts) → first ≡ begin → first.inserted ≤ CACHE_LIMIT
begin_few first none = subst (λ (k : Kept EntryParts). k.inserted ≤ CACHE_LIMIT) (sym none) (omega arith)

-- the book of a name that was asked for
pub opened_named : (texts : List ℕ → Option (List ℕ)) (name : Word) (p : NumberedProgram) (o : OpenedBook) → Fetched texts name (λ bytes. IsOpenedBook p bytes o)
    → IsOpening texts (Some name) p o
opened_named texts name p (Entries first) h = h
opened_named texts name p (Refused line) h = h

-- texts that are told alike, name by name
pub same_texts : (new old : List ℕ → Option (List ℕ)) → ((name : List ℕ) → new name ≡ old name) → new ≡ old
same_texts new old same = λ k. λ name. same name k

pub begins_before : (new old : List ℕ → Option (List ℕ)) (named : Option Word) (p : NumberedProgram) (first : Kept EntryParts) → ((name : List ℕ) → new name ≡ old name)
    → Begins new named p first → Begins old named p first
begins_before new old named p first same h = subst (λ (texts : List ℕ → Option (List ℕ)). Begins texts named p first) (same_texts new old same) h

pub line_before : (new old : List ℕ → Option (List ℕ)) (named : Option Word) (p : NumberedProgram) (line : List ℕ) → ((name : List ℕ) → new name ≡ old name)
    → IsBookLine new named p line → IsBookLine old named p line
line_before new old named p line same h = subst (λ (texts : List ℕ → Option (List ℕ)). IsBookLine texts named p line) (same_texts new old same) h
