-- What a book keeps of entries, and what is loaded of it.
use Rattle.std.proofs.Common.{◌≡◌, ℕ, ℤ, ◌+◌, ◌<◌, ◌≤◌, Bool, true, false, List, [], ◌∷◌, ◌++◌, length, map, take, get_or, Option, Some, None, refl, sym, ap, subst, ◌∙◌, arith, take_all}
use Rattle.std.specs.Prelude.{◌&&◌, All, nat_le, if◌then◌else◌}
use Rattle.std.proofs.lemmas.Bool.{le-leb, leb-true}
use Rattle.std.proofs.lemmas.List.{length-map, map-append, take_more}
use Rattle.std.proofs.lemmas.List.Elements.{All-cons, All-head, All-map, All-nil, All-tail, All-weaker}
use Rattle.pg_session_runner.specs.pg_num.declared.limits.TheConstants.{CACHE_LIMIT, LINE_LIMIT, NUMBERS_LIMIT, THREAD_LIMIT}
use Rattle.pg_session_runner.specs.pg_ir.declared.ids.InstrId.{InstrId}
use Rattle.pg_session_runner.specs.pg_ir.Program.{NumberedProgram}
use Rattle.pg_book.specs.Books.{AreLimited, IsBook, IsLimited}
use Rattle.pg_book.specs.Parts.{BookEntryParts, parts_of}
use Rattle.pg_book.specs.Texts.{book_text}
use Rattle.pg_book.specs.Values.{ascend_from}
use Rattle.pg_book.specs.declared.book.BookEntry.{BookEntry}
use Rattle.pg_session_runner.specs.pg_session.Lines.{few, input_of, numbers_of, words_of}
use Rattle.pg_session_runner.specs.Entries.{EntryParts}
use Rattle.pg_session_runner.specs.Limits.{AreWithinLimits, Ascend, HasFewNumbers, IsWithinLimits}
use Rattle.pg_session_book.specs.LoadedBooks.{AreLoaded, IsLoaded}
use Rattle.pg_session_book.specs.SavedBooks.{IsSaved, kept_parts}

-- ---- what is kept of one entry more

pub saved_more : (items : List BookEntry) (values : List EntryParts) (i : ℕ) (d x : EntryParts) (b : BookEntry) → i < length values → x ≡ get_or values i d → parts_of b ≡ kept_parts x
    → map parts_of items ≡ map kept_parts (take i values) → map parts_of (items ++ b ∷ []) ≡ map kept_parts (take (i + 1) values)
saved_more items values i d x b l at e h =
    let one : parts_of b ≡ kept_parts (get_or values i d) = e ∙ ap kept_parts at in
    map-append parts_of items (b ∷ []) ∙ ap (λ (bs : List BookEntryParts). bs ++ parts_of b ∷ []) h
    ∙ ap (λ (y : BookEntryParts). map kept_parts (take i values) ++ y ∷ []) one
    ∙ sym (map-append kept_parts (take i values) (get_or values i d ∷ [])) ∙ ap (map kept_parts) (sym (take_more values i d l))

-- the same where the entry stands in a slice of the values
pub saved_step : (items next : List BookEntry) (slice values : List EntryParts) (i : ℕ) (d x : EntryParts) (b : BookEntry) → slice ≡ values → i < length slice → x ≡ get_or slice i d
    → parts_of b ≡ kept_parts x → next ≡ items ++ b ∷ [] → map parts_of items ≡ map kept_parts (take i values) → map parts_of next ≡ map kept_parts (take (i + 1) values)
saved_step items next slice values i d x b same l at e n h =
    ap (map parts_of) n
    ∙ saved_more items values i d x b (subst (λ (l : List EntryParts). i < length l) same l) (at ∙ ap (λ (l : List EntryParts). get_or l i d) same) e h

pub saved_all : (items : List BookEntry) (slice values : List EntryParts) (i : ℕ) → slice ≡ values → length slice ≤ i → map parts_of items ≡ map kept_parts (take i values) → map parts_of items ≡ map kept_parts values
saved_all items slice values i same l h = h ∙ ap (map kept_parts) (take_all i values (subst (λ (k : List EntryParts). length k ≤ i) same l))

-- ---- limits

ascend_true : (least : ℕ) (ids : List InstrId) → Ascend least ids → ascend_from least ids ≡ true
ascend_true least [] h = refl
ascend_true least (id ∷ ids) h = let a = le-leb least id.0 h.0 in let b = ascend_true (id.0 + 1) ids h.1 in rw (a, b) refl

ascend_of : (least : ℕ) (ids : List InstrId) → ascend_from least ids ≡ true → Ascend least ids
ascend_of least [] h = tt
ascend_of least (id ∷ ids) h = go (nat_le least id.0) refl h (ascend_of (id.0 + 1) ids)
  where
    go : (b : Bool) → nat_le least id.0 ≡ b → (b && ascend_from (id.0 + 1) ids) ≡ true → (ascend_from (id.0 + 1) ids ≡ true → Ascend (id.0 + 1) ids) → (least ≤ id.0) × Ascend (id.0 + 1) ids
    go true e q rest = (leb-true least id.0 e, rest q)
    go false e q rest = absurd cc

limited : (e : EntryParts) → IsWithinLimits e → IsLimited (kept_parts e)
limited e h = record { input = h.input; turns = h.turns; threads = h.threads; gated = ascend_true 0 e.schedule.gated h.gated }

unlimited : (e : EntryParts) → IsLimited (kept_parts e) → IsWithinLimits e
unlimited e h = record { input = h.input; turns = h.turns; threads = h.threads; gated = ascend_of 0 e.schedule.gated h.gated }

pub are_limited : (es : List EntryParts) → AreWithinLimits es → AreLimited (map kept_parts es)
are_limited es h =
    let n = length-map es kept_parts in
    let f = h.few in
    (omega (arith, n, f), All-map IsLimited kept_parts es (All-weaker IsWithinLimits (λ (e : EntryParts). IsLimited (kept_parts e)) limited es h.each))

each_within : (es : List EntryParts) → All IsLimited (map kept_parts es) → All IsWithinLimits es
each_within [] h = All-nil IsWithinLimits
each_within (e ∷ es) h =
    All-cons IsWithinLimits e es (unlimited e (All-head IsLimited (kept_parts e) (map kept_parts es) h)) (each_within es (All-tail IsLimited (kept_parts e) (map kept_parts es) h))

pub are_within : (es : List EntryParts) → AreLimited (map kept_parts es) → AreWithinLimits es
are_within es h =
    let n = length-map es kept_parts in
    let f = h.0 in
    record { few = omega (arith, n, f); each = each_within es h.1 }

pub none_within : AreWithinLimits []
none_within = record { few = omega arith; each = All-nil IsWithinLimits }

-- ---- the text that is saved

pub is_saved : (es : List EntryParts) (bs : List BookEntryParts) (bytes : List ℕ) → bs ≡ map kept_parts es → bytes ≡ book_text bs → (AreLimited bs → IsBook bytes bs) → AreWithinLimits es → IsSaved es bytes
is_saved es bs bytes e t again h = record {
  text = t ∙ ap book_text e;
  again = subst (IsBook bytes) e (again (subst AreLimited (sym e) (are_limited es h)));
}

-- ---- what was loaded

same_parts : (a b : BookEntryParts) → a.input ≡ b.input → a.turns ≡ b.turns → a.gated ≡ b.gated → a ≡ b
same_parts a b i t g = (λ k. record { input = i k; turns = t k; gated = g k })

pub loaded_parts : (p : NumberedProgram) (bs : List BookEntryParts) (es : List EntryParts) → AreLoaded p bs es → map kept_parts es ≡ bs
loaded_parts p [] [] h = refl
loaded_parts p [] (e ∷ es) h = absurd h
loaded_parts p (b ∷ bs) [] h = absurd h
loaded_parts p (b ∷ bs) (e ∷ es) h =
    let i = h.0.is_entry in
    ap (λ (x : BookEntryParts). x ∷ map kept_parts es) (same_parts (kept_parts e) b i.same_input i.same_turns i.same_gated)
    ∙ ap (λ (xs : List BookEntryParts). b ∷ xs) (loaded_parts p bs es h.1)

-- ---- lines have few numbers

few_of : (o : Option (List ℤ)) → HasFewNumbers (few o)
few_of None = tt
few_of (Some numbers) = go (nat_le (length numbers) NUMBERS_LIMIT) refl
  where
    go : (b : Bool) → nat_le (length numbers) NUMBERS_LIMIT ≡ b → HasFewNumbers (if b then Some numbers else None)
    go true e = leb-true (length numbers) NUMBERS_LIMIT e
    go false e = tt

few_numbers : (line : List ℕ) → HasFewNumbers (input_of line)
few_numbers line = go (nat_le (length line) LINE_LIMIT)
  where
    go : (b : Bool) → HasFewNumbers (if b then few (numbers_of (words_of line)) else None)
    go true = few_of (numbers_of (words_of line))
    go false = tt

pub lines_have_few_numbers : (lines : List (List ℕ)) → All HasFewNumbers (map input_of lines)
lines_have_few_numbers [] = All-nil HasFewNumbers
lines_have_few_numbers (line ∷ lines) = All-cons HasFewNumbers (input_of line) (map input_of lines) (few_numbers line) (lines_have_few_numbers lines)
