-- One entry more of a book is loaded, and is kept.
use Rattle.std.proofs.Common.{◌≡◌, ◌≤◌, ◌<◌, ◌+◌, ◌-◌, ℕ, zero, suc, List, [], ◌∷◌, ◌++◌, length, map, take, drop, get_or, Some, refl, sym, ap, subst, ◌∙◌, arith}
use Rattle.std.specs.Prelude.{slice_get}
use Rattle.std.proofs.lemmas.List.{length-append, map-append, take_more}
use Rattle.pg_session_runner.specs.pg_num.declared.limits.TheConstants.{CACHE_LIMIT}
use Rattle.pg_session_runner.specs.pg_ir.Program.{NumberedProgram}
use Rattle.pg_book.specs.Parts.{BookEntryParts, parts_of}
use Rattle.pg_book.specs.declared.book.BookEntry.{BookEntry}
use Rattle.pg_session_runner.specs.pg_cache.Kept.{Kept, with_value}
use Rattle.pg_session_runner.specs.pg_session.Sessions.{opened}
use Rattle.pg_session_runner.specs.Entries.{EntryParts}
use Rattle.pg_session_runner.specs.declared.loading.LoadFault.{LoadFault}
use Rattle.pg_session_book.specs.LoadedBooks.{AreLoaded, IsFirstRefused, IsLoaded, IsWhyNot}

-- as many are loaded as are kept
same_length : (p : NumberedProgram) (bs : List BookEntryParts) (es : List EntryParts) → AreLoaded p bs es → length bs ≡ length es
same_length p [] [] h = refl
same_length p [] (e ∷ es) h = absurd h
same_length p (b ∷ bs) [] h = absurd h
same_length p (b ∷ bs) (e ∷ es) h = ap suc (same_length p bs es h.1)

one_more : (p : NumberedProgram) (bs : List BookEntryParts) (es : List EntryParts) (b : BookEntryParts) (e : EntryParts)
    → AreLoaded p bs es → IsLoaded p b e → AreLoaded p (bs ++ b ∷ []) (es ++ e ∷ [])
one_more p [] [] b e h l = (l, cc)
one_more p [] (x ∷ es) b e h l = absurd h
one_more p (y ∷ bs) [] b e h l = absurd h
one_more p (y ∷ bs) (x ∷ es) b e h l = (h.0, one_more p bs es b e h.1 l)

no_drop : (d : ℕ) (es : List EntryParts) → d ≡ 0 → drop d es ≡ es
no_drop zero es h = refl
no_drop (suc d) es h = absurd cc

-- what is kept at first, with one entry more
opened_more : (es : List EntryParts) (e : EntryParts) → length es < CACHE_LIMIT → with_value e (opened es) ≡ opened (es ++ e ∷ [])
opened_more es e h =
    let long : length (es ++ e ∷ []) ≡ length es + 1 = length-append es (e ∷ []) in
    let none : length (es ++ e ∷ []) - CACHE_LIMIT ≡ 0 = omega (arith, long, h) in
    (λ k. record { size = CACHE_LIMIT; inserted = sym long k; values = no_drop (length (es ++ e ∷ []) - CACHE_LIMIT) (es ++ e ∷ []) none k })

-- the parts of one entry more
parts_more : (items : List BookEntry) (i : ℕ) (d : BookEntry) → i < length items → map parts_of (take (i + 1) items) ≡ map parts_of (take i items) ++ parts_of (get_or items i d) ∷ []
parts_more items i d l = ap (map parts_of) (take_more items i d l) ∙ map-append parts_of (take i items) (get_or items i d ∷ [])

loaded_more : (p : NumberedProgram) (items : List BookEntry) (i : ℕ) (d : BookEntry) (es : List EntryParts) (e : EntryParts) → i < length items
    → AreLoaded p (map parts_of (take i items)) es → IsLoaded p (parts_of (get_or items i d)) e → AreLoaded p (map parts_of (take (i + 1) items)) (es ++ e ∷ [])
loaded_more p items i d es e l h x =
    subst (λ (bs : List BookEntryParts). AreLoaded p bs (es ++ e ∷ [])) (sym (parts_more items i d l)) (one_more p (map parts_of (take i items)) es (parts_of (get_or items i d)) e h x)

part_at : (items : List BookEntry) (i : ℕ) (d : BookEntry) → i < length items → slice_get (map parts_of items) i ≡ Some (parts_of (get_or items i d))
part_at [] i d l = absurd (omega (arith, l))
part_at (x ∷ xs) zero d l = refl
part_at (x ∷ xs) (suc i) d l = part_at xs i d (omega (arith, l))

taken : (items : List BookEntry) (i : ℕ) → map parts_of (take i items) ≡ take i (map parts_of items)
taken items zero = refl
taken [] (suc i) = refl
taken (x ∷ xs) (suc i) = ap (λ (bs : List BookEntryParts). parts_of x ∷ bs) (taken xs i)

few : (items : List BookEntry) (i : ℕ) → length (map parts_of (take i items)) ≤ i
few items zero = omega arith
few [] (suc i) = omega arith
few (x ∷ xs) (suc i) = let h = few xs i in omega (arith, h)

-- ---- the loop

-- the first so many are loaded, and nothing else is kept
abbrev pub AreKept : NumberedProgram → List BookEntry → ℕ → Kept EntryParts → Type 0
AreKept p items i k = (k ≡ opened k.values) × AreLoaded p (map parts_of (take i items)) k.values

module _ (p : NumberedProgram) (items slice : List BookEntry) (same : slice ≡ items) (i : ℕ) (k : Kept EntryParts) (inside_slice : i < length slice) (kept : AreKept p items i k) where
  inside : i < length items
  inside = subst (λ (l : List BookEntry). i < length l) same inside_slice

  short : length items ≤ CACHE_LIMIT → length k.values < CACHE_LIMIT
  short h =
      let s = same_length p (map parts_of (take i items)) k.values kept.1 in
      let f = few items i in
      omega (arith, s, f, h, inside)

  pub room : length items ≤ CACHE_LIMIT → k.inserted < CACHE_LIMIT
  room h =
      let s = short h in
      let n : k.inserted ≡ length k.values = ap (λ (c : Kept EntryParts). c.inserted) kept.0 in
      omega (arith, s, n)

  pub one_kept : (x d : BookEntry) (e : EntryParts) (next : Kept EntryParts) → length items ≤ CACHE_LIMIT → x ≡ get_or slice i d → IsLoaded p (parts_of x) e
      → next ≡ with_value e k → AreKept p items (i + 1) next
  one_kept x d e next h at l n =
      let is : x ≡ get_or items i d = at ∙ ap (λ (l : List BookEntry). get_or l i d) same in
      let grown : next ≡ opened (k.values ++ e ∷ []) = n ∙ ap (with_value e) kept.0 ∙ opened_more k.values e (short h) in
      let values : k.values ++ e ∷ [] ≡ next.values = ap (λ (c : Kept EntryParts). c.values) (sym grown) in
      (grown ∙ ap opened values, subst (AreLoaded p (map parts_of (take (i + 1) items))) values (loaded_more p items i d k.values e inside kept.1 (subst (λ y. IsLoaded p (parts_of y) e) is l)))

  pub first_refused : (x d : BookEntry) (fault : LoadFault) → x ≡ get_or slice i d → IsWhyNot p (parts_of x) fault → IsFirstRefused p (map parts_of items) i fault
  first_refused x d fault at w = record {
    before = k.values;
    loaded = subst (λ (bs : List BookEntryParts). AreLoaded p bs k.values) (taken items i) kept.1;
    kept = parts_of x;
    is_kept = part_at items i d inside ∙ ap (λ y. Some (parts_of y)) (sym (at ∙ ap (λ (l : List BookEntry). get_or l i d) same));
    why = w;
  }
