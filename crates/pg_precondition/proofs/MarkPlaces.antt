-- Places of marks.
use Rattle.std.proofs.Common.{◌≡◌, ℕ, zero, suc, ◌+◌, ◌<◌, ◌≤◌, ◌⊎◌, inl, inr, Bool, true, false, List, [], ◌∷◌, ◌++◌, length, take, Some, refl, sym}
use Rattle.std.proofs.Common.{ap, ◌∙◌, arith}
use Rattle.std.specs.Prelude.{slice_get, slice_index, if◌then◌else◌}
use Rattle.std.proofs.lemmas.Bool.{cases_lt}
use Rattle.std.proofs.lemmas.List.{get_or_append_left, get_or_at}
use Rattle.pg_precondition.specs.declared.node.Node.{Node}
use Rattle.pg_precondition.specs.Kept.{kept, renamed}
use Rattle.pg_precondition.specs.Marks.{is_set, place}

pub place_zero : (marks : List Bool) → place marks 0 ≡ 0
place_zero [] = refl
place_zero (m ∷ marks) = refl

abbrev with_mark : Bool → ℕ → ℕ
with_mark m k = if m then suc k else k

mark_step : (m b : Bool) (k : ℕ) → with_mark m (with_mark b k) ≡ with_mark b (with_mark m k)
mark_step true true k = refl
mark_step true false k = refl
mark_step false b k = refl

pub place_more : (marks : List Bool) (i : ℕ) → place marks (i + 1) ≡ (if is_set marks i then suc (place marks i) else place marks i)
place_more [] i = refl
place_more (m ∷ marks) zero = ap (with_mark m) (place_zero marks)
place_more (m ∷ marks) (suc i) =
    let e : suc i + 1 ≡ suc (i + 1) = omega arith in
    ap (place (m ∷ marks)) e ∙ ap (with_mark m) (place_more marks i) ∙ mark_step m (is_set marks i) (place marks i)

pub place_le : (marks : List Bool) (i : ℕ) → place marks i ≤ i
place_le [] i = omega arith
place_le (m ∷ marks) zero = omega arith
place_le (true ∷ marks) (suc i) = let l = place_le marks i in omega (arith, l)
place_le (false ∷ marks) (suc i) = let l = place_le marks i in omega (arith, l)

place_up : (marks : List Bool) (a i : ℕ) → a ≤ i → place marks a ≤ place marks i
place_up [] a i l = omega arith
place_up (m ∷ marks) zero i l = omega arith
place_up (m ∷ marks) (suc a) zero l = absurd (omega (arith, l))
place_up (true ∷ marks) (suc a) (suc i) l = let h = place_up marks a i (omega (arith, l)) in omega (arith, h)
place_up (false ∷ marks) (suc a) (suc i) l = place_up marks a i (omega (arith, l))

pub place_lt : (marks : List Bool) (a i : ℕ) → a < i → is_set marks a ≡ true → place marks a < place marks i
place_lt marks a i l h =
    let p = place_more marks a ∙ ap (λ b. if b then suc (place marks a) else place marks a) h in
    let q = place_up marks (a + 1) i (omega (arith, l)) in
    omega (arith, p, q)

pub places_next : (marks : List Bool) (places : List ℕ) (i count : ℕ) → length places ≡ i → count ≡ place marks i → ((j : ℕ) → j < i → slice_index places j ≡ place marks j)
    → (j : ℕ) → j < i + 1 → slice_index (places ++ count ∷ []) j ≡ place marks j
places_next marks places i count l e h j lt = go (cases_lt j i)
  where
    go : (j < i) ⊎ (i ≤ j) → slice_index (places ++ count ∷ []) j ≡ place marks j
    go (inl a) = get_or_append_left places (count ∷ []) 0 j (omega (arith, a, l)) ∙ h j a
    go (inr a) = let q : i ≡ j = omega (arith, a, lt) in get_or_at places count [] 0 j (l ∙ q) ∙ e ∙ ap (place marks) q

pub count_next : (marks : List Bool) (i count next : ℕ) (mark : Bool) → count ≡ place marks i → mark ≡ is_set marks i → next ≡ (if mark then suc count else count)
    → next ≡ place marks (i + 1)
count_next marks i count next mark e m h = h ∙ ap (λ b. if b then suc count else count) m ∙ ap (λ k. if is_set marks i then suc k else k) e ∙ sym (place_more marks i)

module _ (f : ℕ → ℕ) where
  pub kept_more : (marks : List Bool) (nodes : List Node) (i : ℕ) (n : Node) → slice_get nodes i ≡ Some n → i < length marks →
      kept f (take (i + 1) marks) (take (i + 1) nodes) ≡ kept f (take i marks) (take i nodes) ++ (if is_set marks i then renamed f n ∷ [] else [])
  kept_more [] nodes i n h l = absurd (omega (arith, l))
  kept_more (m ∷ marks) [] i n h l = absurd (cc)
  kept_more (true ∷ marks) (x ∷ nodes) zero n h l = let q : x ≡ n = cc in ap (λ z. renamed f z ∷ []) q
  kept_more (false ∷ marks) (x ∷ nodes) zero n h l = refl
  kept_more (true ∷ marks) (x ∷ nodes) (suc i) n h l =
      let e : suc i + 1 ≡ suc (i + 1) = omega arith in
      let ih = kept_more marks nodes i n h (omega (arith, l)) in
      ap (λ k. kept f (take k (true ∷ marks)) (take k (x ∷ nodes))) e ∙ ap (λ l. renamed f x ∷ l) ih
  kept_more (false ∷ marks) (x ∷ nodes) (suc i) n h l =
      let e : suc i + 1 ≡ suc (i + 1) = omega arith in
      ap (λ k. kept f (take k (false ∷ marks)) (take k (x ∷ nodes))) e ∙ kept_more marks nodes i n h (omega (arith, l))

  pub kept_length : (marks : List Bool) (nodes : List Node) (i : ℕ) → i ≤ length marks → i ≤ length nodes → length (kept f (take i marks) (take i nodes)) ≡ place marks i
  kept_length [] nodes i l h = let e : i ≡ 0 = omega (arith, l) in rw e refl
  kept_length (m ∷ marks) [] i l h = let e : i ≡ 0 = omega (arith, h) in rw e refl
  kept_length (m ∷ marks) (x ∷ nodes) zero l h = refl
  kept_length (true ∷ marks) (x ∷ nodes) (suc i) l h = ap suc (kept_length marks nodes i (omega (arith, l)) (omega (arith, h)))
  kept_length (false ∷ marks) (x ∷ nodes) (suc i) l h = kept_length marks nodes i (omega (arith, l)) (omega (arith, h))
