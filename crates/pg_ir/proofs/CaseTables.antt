-- The rows of a switch's cases in the order of their values tell the same as the cases.
use Rattle.std.proofs.Common.{◌≡◌, ℕ, ◌+◌, ◌-◌, ◌<◌, ◌≤◌, List, [], ◌∷◌, length, Bool, true, false, not, ◌&&◌, zero, suc, arith, refl, sym, ap, ◌∙◌}
use Rattle.std.proofs.Common.{cond, get_or, inl, inr, ◌⊎◌}
use Rattle.std.specs.Prelude.{◌==◌, ◌≢◌, filter, map, slice_get, Some, if◌then◌else◌}
use Rattle.std.proofs.lemmas.Bool.{eqb-true, eqb-false}
use Rattle.std.specs.List.Sorted.{ties, IsStableBy, IsNonDecreasingBy}
use Rattle.std.specs.Ordering.{is_lt, nat_cmp}
use Rattle.std.proofs.lemmas.Bool.Decides.{nat_tests}
use Rattle.pg_ir.specs.declared.edge.Case.{Case}
use Rattle.pg_ir.specs.declared.tables.CaseRow.{CaseRow}
use Rattle.pg_ir.specs.Edges.{case_of}
use Rattle.pg_ir.specs.Tables.{IsCaseTable, case_rows, first_target, target_at}

-- ---- the first row of a value is the first of those that have it

abbrev first_in : List CaseRow → ℕ
first_in [] = 0
first_in (r ∷ rs) = r.target

first_filtered : (n : ℕ) (rs : List CaseRow) → first_target rs n ≡ first_in (filter (λ (r : CaseRow). r.value == n) rs)
first_filtered n [] = refl
first_filtered n (r ∷ rs) = go (r.value == n) (first_filtered n rs)
  where
    go : (t : Bool) → first_target rs n ≡ first_in (filter (λ (s : CaseRow). s.value == n) rs)
        → cond t r.target (first_target rs n) ≡ first_in (cond t (r ∷ filter (λ (s : CaseRow). s.value == n) rs) (filter (λ (s : CaseRow). s.value == n) rs))
    go true e = refl
    go false e = e

filter_alike : {A : Type 0} (f g : A → Bool) (xs : List A) → ((x : A) → f x ≡ g x) → filter f xs ≡ filter g xs
filter_alike f g [] h = refl
filter_alike f g (x ∷ xs) h = let more : filter f xs ≡ filter g xs = filter_alike f g xs h in let same : f x ≡ g x = h x in rw (same, more) refl

-- neither number is below the other where they are equal
tie : (m n : ℕ) → (not (is_lt (nat_cmp m n)) && not (is_lt (nat_cmp n m))) ≡ (n == m)
tie m n = grind (arith, nat_tests)

tied : (n : ℕ) (rs : List CaseRow) → filter (ties (λ (x y : CaseRow). is_lt (nat_cmp x.value y.value)) (record { value = n; target = 0 })) rs ≡ filter (λ (r : CaseRow). r.value == n) rs
tied n rs = filter_alike _ _ rs (λ r. tie n r.value)

pub stably_same : (xs ys : List CaseRow) → IsStableBy (λ (x y : CaseRow). is_lt (nat_cmp x.value y.value)) xs ys → (n : ℕ) → first_target ys n ≡ first_target xs n
stably_same xs ys h n =
    first_filtered n ys ∙ ap first_in (sym (tied n ys) ∙ h (record { value = n; target = 0 }) ∙ tied n xs) ∙ sym (first_filtered n xs)

-- ---- a search by halves finds it

differs : (m n a b : ℕ) → (n < m) ⊎ (m < n) → (if m == n then a else b) ≡ b
differs m n a b h = go (m == n) refl
  where
    go : (t : Bool) → (m == n) ≡ t → cond t a b ≡ b
    go true e = let same : m ≡ n = eqb-true m n e in absurd (apart h same)
      where
        apart : (n < m) ⊎ (m < n) → m ≡ n → ⊥
        apart (inl l) e = omega arith
        apart (inr l) e = omega arith
    go false e = refl

none_above : (rs : List CaseRow) (n : ℕ) → ((k : ℕ) (d : CaseRow) → k < length rs → n < (get_or rs k d).value) → first_target rs n ≡ 0
none_above [] n h = refl
none_above (r ∷ rs) n h = differs r.value n r.target (first_target rs n) (inl (h 0 r (omega arith))) ∙ none_above rs n (λ k d l. h (suc k) d (omega arith))

found_here : (r : CaseRow) (rs : List CaseRow) (n : ℕ) → IsNonDecreasingBy (λ (s : CaseRow). s.value) (r ∷ rs) → n ≤ r.value → (t : Bool) → (r.value == n) ≡ t
    → cond t r.target (first_target rs n) ≡ cond t r.target 0
found_here r rs n h l true e = refl
found_here r rs n h l false e =
    let apart : r.value ≢ n = eqb-false r.value n e in
    none_above rs n (λ k d m. let up : r.value ≤ (get_or rs k d).value = h 0 (suc k) d (omega arith) (omega arith) in omega arith)

pub found_first : (rs : List CaseRow) (n at : ℕ) → IsNonDecreasingBy (λ (r : CaseRow). r.value) rs → ((k : ℕ) (d : CaseRow) → k < at → (get_or rs k d).value < n)
    → ((k : ℕ) (d : CaseRow) → at ≤ k → k < length rs → n ≤ (get_or rs k d).value) → first_target rs n ≡ target_at n (slice_get rs at)
found_first [] n at h below from = refl
found_first (r ∷ rs) n zero h below from = found_here r rs n h (from 0 r (omega arith) (omega arith)) (r.value == n) refl
found_first (r ∷ rs) n (suc at) h below from =
    differs r.value n r.target (first_target rs n) (inr (below 0 r (omega arith)))
    ∙ found_first rs n at (λ i j d l m. h (suc i) (suc j) d (omega arith) (omega arith)) (λ k d l. below (suc k) d (omega arith)) (λ k d l m. from (suc k) d (omega arith) (omega arith))

-- ---- the case that a target names

abbrev pub IsTargetOf : List Case → ℕ → ℕ → ℕ → Type 0
IsTargetOf cases other n t = slice_get (other ∷ map (λ (c : Case). c.to.0) cases) t ≡ Some (case_of cases other n)

-- of rows that are numbered from k on: none is of the value, or the first is that of the case
abbrev Tells : ℕ → ℕ → ℕ → ℕ → List ℕ → Type 0
Tells k t to other ts = ((t ≡ 0) × (to ≡ other)) ⊎ ((k ≤ t) × (slice_get ts (t - k) ≡ Some to))

tells_here : (k to other : ℕ) (ts : List ℕ) → Tells k k to other (to ∷ ts)
tells_here k to other ts = let z : k - k ≡ 0 = omega arith in inr (omega arith, rw z refl)

tells_later : (k t to other first : ℕ) (ts : List ℕ) → Tells (k + 1) t to other ts → Tells k t to other (first ∷ ts)
tells_later k t to other first ts (inl h) = inl h
tells_later k t to other first ts (inr h) = let z : t - k ≡ suc (t - (k + 1)) = omega (arith, h.0) in inr (omega (arith, h.0), rw z h.1)

rows_tell : (k n other : ℕ) (cs : List Case) → Tells k (first_target (case_rows k cs) n) (case_of cs other n) other (map (λ (c : Case). c.to.0) cs)
rows_tell k n other [] = inl (refl, refl)
rows_tell k n other (c ∷ cs) = go (c.value == n) (rows_tell (k + 1) n other cs)
  where
    go : (t : Bool) → Tells (k + 1) (first_target (case_rows (k + 1) cs) n) (case_of cs other n) other (map (λ (d : Case). d.to.0) cs)
        → Tells k (cond t k (first_target (case_rows (k + 1) cs) n)) (cond t c.to.0 (case_of cs other n)) other (c.to.0 ∷ map (λ (d : Case). d.to.0) cs)
    go true h = tells_here k c.to.0 other (map (λ (d : Case). d.to.0) cs)
    go false h = tells_later k (first_target (case_rows (k + 1) cs) n) (case_of cs other n) other c.to.0 (map (λ (d : Case). d.to.0) cs) h

-- the default is target 0, and the cases are those from 1 on
named : (t to other : ℕ) (ts : List ℕ) → Tells 1 t to other ts → slice_get (other ∷ ts) t ≡ Some to
named t to other ts (inl h) = rw (h.0, h.1) refl
named t to other ts (inr h) = let z : t ≡ suc (t - 1) = omega (arith, h.0) in rw z h.1

pub target_named : (other n : ℕ) (cs : List Case) → slice_get (other ∷ map (λ (c : Case). c.to.0) cs) (first_target (case_rows 1 cs) n) ≡ Some (case_of cs other n)
target_named other n cs = named (first_target (case_rows 1 cs) n) (case_of cs other n) other (map (λ (c : Case). c.to.0) cs) (rows_tell 1 n other cs)

pub rows_count : (k : ℕ) (cs : List Case) → length (case_rows k cs) ≡ length cs
rows_count k [] = refl
rows_count k (c ∷ cs) = let more : length (case_rows (k + 1) cs) ≡ length cs = rows_count (k + 1) cs in omega arith

pub table_named : (other n : ℕ) (cs : List Case) (rows : List CaseRow) → IsCaseTable cs rows
    → slice_get (other ∷ map (λ (c : Case). c.to.0) cs) (first_target rows n) ≡ Some (case_of cs other n)
table_named other n cs rows h = ap (slice_get (other ∷ map (λ (c : Case). c.to.0) cs)) (h.same n) ∙ target_named other n cs
