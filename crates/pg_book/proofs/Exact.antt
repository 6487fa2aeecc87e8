-- Bytes are one book, or have one fault.
use Rattle.std.proofs.Common.{◌≡◌, ◌≢◌, ℕ, ◌+◌, ◌<◌, ◌≤◌, ◌⊎◌, inl, inr, List, [], ◌∷◌, Bool, true, false, Option, Some, None, option_map, option_and_then, is_some, Result, Ok, Err, nat_lt, if◌then◌else◌, true≢false, refl, sym, ap, ◌∙◌}
use Rattle.std.specs.Result.{result_err, result_ok}
use Rattle.std.specs.Str.{is_utf8}
use Rattle.std.proofs.lemmas.Bool.{cases_lt, le-ltb, lt-ltb}
use Rattle.std.proofs.lemmas.Option.{same_Some}
use Rattle.std.proofs.lemmas.Str.{IsUtf8-from_is_utf8, is_utf8-from_IsUtf8}
use Rattle.serde_json.specs.Data.{Data, Items, item, no_items}
use Rattle.serde_json.specs.Events.{items_len}
use Rattle.serde_json.specs.Read.{read}
use Rattle.pg_num.specs.declared.limits.TheConstants.{CACHE_LIMIT}
use Rattle.pg_book.specs.declared.read.BookFault.{BookFault}
use Rattle.pg_book.specs.declared.read.BookFault.TheVariants as faults
use Rattle.pg_book.specs.Parts.{BookEntryParts}
use Rattle.pg_book.specs.Values.{all_as, as_entry, entries_in, first_other}
use Rattle.pg_book.specs.Books.{HasEntries, IsBook, IsFault, IsJson}

abbrev Told : Type 0
Told = Result (List BookEntryParts) BookFault

-- what is told of bytes, as one function
abbrev told_entries : Option ℕ → Option (List BookEntryParts) → Told
told_entries (Some n) es = Err (faults.Shape n)
told_entries None (Some es) = Ok es
told_entries None None = Err faults.OutOfMemory

abbrev told_items : Items → Told
told_items ds = if nat_lt CACHE_LIMIT (items_len ds) then Err faults.TooMany else told_entries (first_other 0 ds) (all_as as_entry ds)

abbrev told_list : Option Items → Told
told_list None = Err faults.Outer
told_list (Some ds) = told_items ds

abbrev told_value : Option Data → Told
told_value None = Err faults.NotJson
told_value (Some d) = told_list (entries_in d)

abbrev value_of : List ℕ → Option Data
value_of bytes = if is_utf8 bytes then read bytes else None

some_none : {A : Type 0} (x : A) → Some x ≡ None → ⊥
some_none x e = cc

-- where each item is an entry, none is another thing
entry_then : (o : Option BookEntryParts) (es : Option (List BookEntryParts)) (n : ℕ) (rest : Option ℕ) (all : List BookEntryParts)
    → ((ys : List BookEntryParts) → es ≡ Some ys → rest ≡ None) → option_and_then (λ x. option_map (λ xs. x ∷ xs) es) o ≡ Some all → (if is_some o then rest else Some n) ≡ None
entry_then None es n rest all h e = absurd cc
entry_then (Some x) None n rest all h e = absurd cc
entry_then (Some x) (Some ys) n rest all h e = h ys refl

none_other : (n : ℕ) (ds : Items) (es : List BookEntryParts) → all_as as_entry ds ≡ Some es → first_other n ds ≡ None
none_other n no_items es e = refl
none_other n (item d ds) es e = entry_then (as_entry d) (all_as as_entry ds) n (first_other (n + 1) ds) es (λ ys h. none_other (n + 1) ds ys h) e

-- where none is another thing, each item is an entry
entry_of : (o : Option BookEntryParts) (es : Option (List BookEntryParts)) (n : ℕ) (rest : Option ℕ)
    → (rest ≡ None → (ys : List BookEntryParts) × (es ≡ Some ys)) → (if is_some o then rest else Some n) ≡ None
    → (all : List BookEntryParts) × (option_and_then (λ x. option_map (λ xs. x ∷ xs) es) o ≡ Some all)
entry_of None es n rest h e = absurd cc
entry_of (Some x) es n rest h e = let more = h e in (x ∷ more.0, rw more.1 refl)

all_entries : (n : ℕ) (ds : Items) → first_other n ds ≡ None → (es : List BookEntryParts) × (all_as as_entry ds ≡ Some es)
all_entries n no_items e = ([], refl)
all_entries n (item d ds) e = entry_of (as_entry d) (all_as as_entry ds) n (first_other (n + 1) ds) (λ h. all_entries (n + 1) ds h) e

told_has : (bytes : List ℕ) (IsSo : Items → Type 0) (h : HasEntries bytes IsSo) → told_value (value_of bytes) ≡ told_items h.items
told_has bytes IsSo h =
    let json = h.json in
    let e : value_of bytes ≡ Some h.value = rw (is_utf8-from_IsUtf8 bytes json.0) json.1 in
    ap told_value e ∙ ap told_list h.outer

told_book : (bytes : List ℕ) (es : List BookEntryParts) → IsBook bytes es → told_value (value_of bytes) ≡ Ok es
told_book bytes es h =
    let few = le-ltb CACHE_LIMIT (items_len h.items) h.so.0 in
    let all = h.so.1 in
    told_has bytes _ h ∙ rw (few, none_other 0 h.items es all, all) refl

not_utf8 : (bytes : List ℕ) → ((d : Data) → IsJson bytes d → ⊥) → (b : Bool) → is_utf8 bytes ≡ b → (o : Option Data) → read bytes ≡ o → (if b then o else None) ≡ None
not_utf8 bytes h false u o r = refl
not_utf8 bytes h true u None r = refl
not_utf8 bytes h true u (Some d) r = absurd (h d (IsUtf8-from_is_utf8 bytes u, r))

told_fault : (bytes : List ℕ) (e : BookFault) → e ≢ faults.OutOfMemory → IsFault e bytes → told_value (value_of bytes) ≡ Err e
told_fault bytes faults.NotJson other h = ap told_value (not_utf8 bytes h (is_utf8 bytes) refl (read bytes) refl)
told_fault bytes faults.Outer other h =
    let e : value_of bytes ≡ Some h.0 = rw (is_utf8-from_IsUtf8 bytes h.1.0) h.1.1 in
    ap told_value e ∙ ap told_list h.2
told_fault bytes faults.TooMany other h = told_has bytes _ h ∙ rw (lt-ltb CACHE_LIMIT (items_len h.items) h.so) refl
told_fault bytes (faults.Shape n) other h = told_has bytes _ h ∙ rw (le-ltb CACHE_LIMIT (items_len h.items) h.so.0, h.so.1) refl
told_fault bytes faults.OutOfMemory other h = absurd (other refl)

pub one_book : (bytes : List ℕ) (es fs : List BookEntryParts) → IsBook bytes es → IsBook bytes fs → es ≡ fs
one_book bytes es fs a b = same_Some es fs (ap result_ok (sym (told_book bytes es a) ∙ told_book bytes fs b))

pub one_fault : (bytes : List ℕ) (e f : BookFault) → e ≢ faults.OutOfMemory → f ≢ faults.OutOfMemory → IsFault e bytes → IsFault f bytes → e ≡ f
one_fault bytes e f p q a b = same_Some e f (ap result_err (sym (told_fault bytes e p a) ∙ told_fault bytes f q b))

pub no_fault : (bytes : List ℕ) (es : List BookEntryParts) (e : BookFault) → e ≢ faults.OutOfMemory → IsBook bytes es → IsFault e bytes → ⊥
no_fault bytes es e p a b = some_none es (ap result_ok (sym (told_book bytes es a) ∙ told_fault bytes e p b))

-- ---- and there is one

abbrev IsTold : List ℕ → Type 0
IsTold bytes = ((es : List BookEntryParts) × IsBook bytes es) ⊎ ((e : BookFault) × (e ≢ faults.OutOfMemory) × IsFault e bytes)

entries_told : (bytes : List ℕ) (d : Data) (json : IsJson bytes d) (ds : Items) → entries_in d ≡ Some ds → items_len ds ≤ CACHE_LIMIT → (o : Option ℕ) → first_other 0 ds ≡ o → IsTold bytes
entries_told bytes d json ds e few (Some n) h = inr (faults.Shape n, (λ q. cc), record { value = d; json = json; items = ds; outer = e; so = (few, h) })
entries_told bytes d json ds e few None h =
    let all = all_entries 0 ds h in
    inl (all.0, record { value = d; json = json; items = ds; outer = e; so = (few, all.1) })

items_told : (bytes : List ℕ) (d : Data) (json : IsJson bytes d) (ds : Items) → entries_in d ≡ Some ds → (CACHE_LIMIT < items_len ds) ⊎ (items_len ds ≤ CACHE_LIMIT) → IsTold bytes
items_told bytes d json ds e (inl more) = inr (faults.TooMany, (λ q. cc), record { value = d; json = json; items = ds; outer = e; so = more })
items_told bytes d json ds e (inr few) = entries_told bytes d json ds e few (first_other 0 ds) refl

list_told : (bytes : List ℕ) (d : Data) (json : IsJson bytes d) (o : Option Items) → entries_in d ≡ o → IsTold bytes
list_told bytes d json None e = inr (faults.Outer, (λ q. cc), (d, json, e))
list_told bytes d json (Some ds) e = items_told bytes d json ds e (cases_lt CACHE_LIMIT (items_len ds))

value_told : (bytes : List ℕ) (b : Bool) → is_utf8 bytes ≡ b → (o : Option Data) → read bytes ≡ o → IsTold bytes
value_told bytes false u o r = inr (faults.NotJson, (λ q. cc), λ d json. true≢false (sym (is_utf8-from_IsUtf8 bytes json.0) ∙ u))
value_told bytes true u None r = inr (faults.NotJson, (λ q. cc), λ d json. some_none d (sym json.1 ∙ r))
value_told bytes true u (Some d) r = list_told bytes d (IsUtf8-from_is_utf8 bytes u, r) (entries_in d) refl

pub is_told : (bytes : List ℕ) → IsTold bytes
is_told bytes = value_told bytes (is_utf8 bytes) refl (read bytes) refl
