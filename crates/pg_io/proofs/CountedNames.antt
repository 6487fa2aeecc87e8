-- What a map of counts has under a name, before and after an insert.
use Rattle.std.proofs.Common.{◌≡◌, ◌∙◌, ℕ, Bool, cond, true, false, refl, sym, ap, List, [], ◌∷◌, Some, String, string_bytes}
use Rattle.std.specs.Prelude.{unwrap_or}
use Rattle.std.specs.BTreeMap.{BTreeMap, get_by_text, is_at}
use Rattle.std.specs.Cmp.Lexicographic.{slice_cmp}
use Rattle.std.specs.Map.{lookup, update}
use Rattle.std.specs.Ordering.{is_eq, nat_cmp}
use Rattle.std.specs.Str.{bytes_eq}
use Rattle.std.specs.declared.alloc.Global.{Global}
use Rattle.std.proofs.lemmas.Map.Text.{is_eq-slice_cmp}
use Rattle.std.proofs.lemmas.Slice.Eq.{bytes_eq-Decides}
use Rattle.pg_io.specs.Shelves.{count_of, counts_in}

pub count_is : (entries : List (String Global × ℕ)) (name : List ℕ)
    → count_of (counts_in entries) name ≡ unwrap_or (lookup (is_at (λ k. slice_cmp nat_cmp name (string_bytes k))) entries) 0
count_is [] name = refl
count_is (e ∷ es) name = by (bytes_eq name (string_bytes e.0)) (is_eq (slice_cmp nat_cmp name (string_bytes e.0))) (is_eq-slice_cmp name (string_bytes e.0)) (count_is es name)
  where
    by : (b c : Bool) → c ≡ b → count_of (counts_in es) name ≡ unwrap_or (lookup (is_at (λ k. slice_cmp nat_cmp name (string_bytes k))) es) 0
        → cond b e.1 (count_of (counts_in es) name) ≡ unwrap_or (cond c (Some e.1) (lookup (is_at (λ k. slice_cmp nat_cmp name (string_bytes k))) es)) 0
    by true true h more = refl
    by false false h more = more
    by true false h more = absurd cc
    by false true h more = absurd cc

-- the map has the count n under the name, and what it had under the others
abbrev pub Sets : BTreeMap (String Global) ℕ → BTreeMap (String Global) ℕ → List ℕ → ℕ → Type 0
Sets old new name n = (m : List ℕ) → get_by_text new m ≡ update bytes_eq (get_by_text old) name (Some n) m

pub set_here : (old new : BTreeMap (String Global) ℕ) (name : List ℕ) (n : ℕ) → Sets old new name n → count_of (counts_in new.entries) name ≡ n
set_here old new name n sets =
    count_is new.entries name ∙ ap (λ o. unwrap_or o 0) (sets name)
    ∙ ap (λ b. unwrap_or (cond b (Some n) (get_by_text old name)) 0) ((bytes_eq-Decides name name).1 refl)

pub set_elsewhere : (old new : BTreeMap (String Global) ℕ) (name : List ℕ) (n : ℕ) → Sets old new name n
    → (m : List ℕ) → (m ≡ name → ⊥) → count_of (counts_in new.entries) m ≡ count_of (counts_in old.entries) m
set_elsewhere old new name n sets m other =
    count_is new.entries m ∙ ap (λ o. unwrap_or o 0) (sets m) ∙ by (bytes_eq name m) refl ∙ sym (count_is old.entries m)
  where
    by : (b : Bool) → bytes_eq name m ≡ b → unwrap_or (cond b (Some n) (get_by_text old m)) 0 ≡ unwrap_or (get_by_text old m) 0
    by true h = absurd (other (sym ((bytes_eq-Decides name m).0 h)))
    by false h = refl
