-- A book is opened or refused, and for one reason.
use Rattle.std.proofs.Common.{◌≡◌, ◌⊎◌, ℕ, zero, suc, ◌<◌, ◌≤◌, List, [], ◌∷◌, take, Some, refl, sym, ap, subst, ◌∙◌, arith, inl, inr}
use Rattle.std.specs.Prelude.{slice_get}
use Rattle.std.proofs.lemmas.Bool.{cases_lt}
use Rattle.pg_session_runner.specs.pg_ir.Program.{NumberedProgram}
use Rattle.pg_session_runner.specs.pg_num.declared.limits.TheConstants.{BOOK_LIMIT}
use Rattle.pg_book.specs.Books.{IsBook, IsFault}
use Rattle.pg_book.specs.Parts.{BookEntryParts}
use Rattle.pg_book.specs.declared.read.BookFault.{BookFault}
use Rattle.pg_book.specs.declared.read.BookFault.TheVariants as read
use Rattle.pg_session_runner.specs.pg_cache.Kept.{Kept}
use Rattle.pg_session_runner.specs.Entries.{EntryParts}
use Rattle.pg_session_runner.specs.declared.loading.LoadFault.{LoadFault}
use Rattle.pg_session_runner.proofs.OneFault.{loaded_or_not, one_fault}
use Rattle.pg_session_book.specs.LoadedBooks.{AreLoaded, IsFirstRefused, IsLoaded, IsNoWant, IsWhyNot}
use Rattle.pg_session_book.specs.OpenedBooks.{BeginsWith}
use Rattle.pg_session_book.specs.Refusals.{IsBookRefusedFor}
use Rattle.pg_session_book.specs.declared.refusals.BookRefusal.{BookRefusal}
use Rattle.pg_session_book.specs.declared.refusals.BookRefusal.TheVariants.{TooLong, Read, Entry}

-- an entry that is loaded has no fault
not_both : (p : NumberedProgram) (b : BookEntryParts) (e : EntryParts) (fault : LoadFault) → IsLoaded p b e → IsWhyNot p b fault → IsNoWant fault → ⊥
not_both p b e fault l w n = loaded_or_not p b.input b.turns b.gated e fault l.gated l.is_entry w n

none_there : (n : ℕ) (b : BookEntryParts) → slice_get [] n ≡ Some b → ⊥
none_there zero b e = absurd cc
none_there (suc n) b e = absurd cc

same_value : {V : Type 0} (x y : V) → Some x ≡ Some y → x ≡ y
same_value x y e = cc

-- each entry of what is loaded is loaded
is_loaded : (p : NumberedProgram) (bs : List BookEntryParts) (es : List EntryParts) → AreLoaded p bs es → (n : ℕ) (b : BookEntryParts) → slice_get bs n ≡ Some b → (e : EntryParts) × IsLoaded p b e
is_loaded p [] es h n b e = absurd (none_there n b e)
is_loaded p (x ∷ bs) [] h n b e = absurd h
is_loaded p (x ∷ bs) (y ∷ es) h zero b e = (y, subst (λ z. IsLoaded p z y) (same_value x b e) h.0)
is_loaded p (x ∷ bs) (y ∷ es) h (suc n) b e = is_loaded p bs es h.1 n b e

in_front : (bs : List BookEntryParts) (n m : ℕ) (b : BookEntryParts) → n < m → slice_get bs n ≡ Some b → slice_get (take m bs) n ≡ Some b
in_front bs n zero b l e = absurd (omega (arith, l))
in_front [] n (suc m) b l e = e
in_front (x ∷ bs) zero (suc m) b l e = e
in_front (x ∷ bs) (suc n) (suc m) b l e = in_front bs n m b (omega (arith, l)) e

module _ (p : NumberedProgram) (bs : List BookEntryParts) where
  all_or_one : (es : List EntryParts) (n : ℕ) (fault : LoadFault) → AreLoaded p bs es → IsFirstRefused p bs n fault → IsNoWant fault → ⊥
  all_or_one es n fault h f none = let l = is_loaded p bs es h n f.kept f.is_kept in not_both p f.kept l.0 fault l.1 f.why none

  -- of two the lesser can't be refused, since it was loaded before the greater
  not_before : (n m : ℕ) (fault other : LoadFault) → n < m → IsFirstRefused p bs n fault → IsFirstRefused p bs m other → IsNoWant fault → ⊥
  not_before n m fault other l f g none =
      let k = is_loaded p (take m bs) g.before g.loaded n f.kept (in_front bs n m f.kept l f.is_kept) in
      not_both p f.kept k.0 fault k.1 f.why none

  one_number : (n m : ℕ) (fault other : LoadFault) → IsFirstRefused p bs n fault → IsFirstRefused p bs m other → IsNoWant fault → IsNoWant other → n ≡ m
  one_number n m fault other f g a b = go (cases_lt n m) (cases_lt m n)
    where
      go : (n < m) ⊎ (m ≤ n) → (m < n) ⊎ (n ≤ m) → n ≡ m
      go (inl l) k = absurd (not_before n m fault other l f g a)
      go (inr l) (inl k) = absurd (not_before m n other fault k g f b)
      go (inr l) (inr k) = omega (arith, l, k)

  one_entry : (n m : ℕ) (fault other : LoadFault) → IsFirstRefused p bs n fault → IsFirstRefused p bs m other → IsNoWant fault → IsNoWant other → Path BookRefusal (Entry n fault) (Entry m other)
  one_entry n m fault other f g a b =
      let numbers = one_number n m fault other f g a b in
      let kept : f.kept ≡ g.kept = same_value f.kept g.kept (sym f.is_kept ∙ ap (slice_get bs) numbers ∙ g.is_kept) in
      let faults : fault ≡ other = one_fault p g.kept.input g.kept.turns g.kept.gated fault other (subst (λ (k : BookEntryParts). IsWhyNot p k fault) kept f.why) g.why a b in
      ap (λ (k : ℕ). Entry k fault) numbers ∙ ap (λ (q : LoadFault). Entry m q) faults

-- what the laws on books say
abbrev pub OneBook : List ℕ → Type 0
OneBook bytes = (es fs : List BookEntryParts) → IsBook bytes es → IsBook bytes fs → es ≡ fs

abbrev pub NotBoth : List ℕ → Type 0
NotBoth bytes = (es : List BookEntryParts) (e : BookFault) → (e ≡ read.OutOfMemory → ⊥) → IsBook bytes es → IsFault e bytes → ⊥

abbrev pub OneFault : List ℕ → Type 0
OneFault bytes = (e f : BookFault) → (e ≡ read.OutOfMemory → ⊥) → (f ≡ read.OutOfMemory → ⊥) → IsFault e bytes → IsFault f bytes → e ≡ f

module _ (p : NumberedProgram) (bytes : List ℕ) (book : OneBook bytes) (none : NotBoth bytes) (one : OneFault bytes) where
  pub opened_or_refused : (first : Kept EntryParts) (refusal : BookRefusal) → BeginsWith p bytes first → IsBookRefusedFor p bytes refusal → ⊥
  opened_or_refused first TooLong h r = let w = h.within in absurd (omega (arith, w, r))
  opened_or_refused first (Read fault) h r = none h.entries fault r.no_want h.is_book r.fault_holds
  opened_or_refused first (Entry number fault) h r =
      let same = book h.entries r.entries h.is_book r.is_book in
      all_or_one p r.entries first.values number fault (subst (λ (bs : List BookEntryParts). AreLoaded p bs first.values) same h.loaded) r.first r.no_want

  pub one_reason : (refusal other : BookRefusal) → IsBookRefusedFor p bytes refusal → IsBookRefusedFor p bytes other → refusal ≡ other
  one_reason TooLong TooLong a b = refl
  one_reason TooLong (Read fault) a b = let w = b.within in absurd (omega (arith, w, a))
  one_reason TooLong (Entry number fault) a b = let w = b.within in absurd (omega (arith, w, a))
  one_reason (Read fault) TooLong a b = let w = a.within in absurd (omega (arith, w, b))
  one_reason (Read fault) (Read other) a b = ap (λ (f : BookFault). Read f) (one fault other a.no_want b.no_want a.fault_holds b.fault_holds)
  one_reason (Read fault) (Entry number other) a b = absurd (none b.entries fault a.no_want b.is_book a.fault_holds)
  one_reason (Entry number fault) TooLong a b = let w = a.within in absurd (omega (arith, w, b))
  one_reason (Entry number fault) (Read other) a b = absurd (none a.entries other b.no_want a.is_book b.fault_holds)
  one_reason (Entry number fault) (Entry place other) a b =
      one_entry p b.entries number place fault other (subst (λ (bs : List BookEntryParts). IsFirstRefused p bs number fault) (book a.entries b.entries a.is_book b.is_book) a.first) b.first a.no_want b.no_want
