-- The marks of one call, level by level: each place of the range is below a marked node, or below one that is still to be marked.
use Rattle.std.proofs.Common.{◌≡◌, ℕ, zero, suc, ◌+◌, ◌-◌, ◌*◌, ◌/◌, ◌^◌, ◌<◌, ◌≤◌, ◌⊎◌, Bool, true, false, refl, sym, ap, ◌∙◌, subst}
use Rattle.std.proofs.Common.{arith, inl, inr, max, if◌then◌else◌}
use Rattle.std.specs.Prelude.{◌&&◌, nat_le, nat_lt}
use Rattle.std.proofs.Math.Nat.{pow-succ'}
use Rattle.std.proofs.lemmas.Bool.{cases_lt}
use Rattle.std.proofs.lemmas.Bool.Decides.{nat_tests}
use Rattle.pg_stamps.specs.declared.stamps.TheConstants.{PLACE_COUNT}
use Rattle.pg_stamps.specs.Marks.{greatest_below, is_marked, node_at}

-- ---- the nodes of a level: from low to below high

unfoldable pub low : ℕ → ℕ
low h = 2 ^ (26 - h)

unfoldable pub high : ℕ → ℕ
high h = 2 ^ (27 - h)

half : (a b : ℕ) → a ≡ suc b → 2 ^ a ≡ 2 * 2 ^ b
half a b e = ap (λ (k : ℕ). 2 ^ k) e ∙ pow-succ' 2 b

low_first : low 0 ≡ PLACE_COUNT
unfolding low
low_first = refl

high_first : high 0 ≡ 2 * PLACE_COUNT
unfolding high
high_first = refl

low_end : low 27 ≡ 1
unfolding low
low_end = refl

high_end : high 27 ≡ 1
unfolding high
high_end = refl

low_last : low 26 ≡ 1
unfolding low
low_last = refl

low_next : (h : ℕ) → h < 26 → low h ≡ 2 * low (suc h)
unfolding low
low_next h lt = half (26 - h) (26 - suc h) (omega (arith, lt))

pub high_next : (h : ℕ) → h < 27 → high h ≡ 2 * high (suc h)
unfolding high
high_next h lt = half (27 - h) (27 - suc h) (omega (arith, lt))

pub high_low : (h : ℕ) → high (suc h) ≡ low h
unfolding low high
high_low h = let e : 27 - suc h ≡ 26 - h = omega arith in ap (λ (k : ℕ). 2 ^ k) e

low_half : (h l : ℕ) → h < 27 → low h ≤ l → low (suc h) ≤ (l + 1) / 2
low_half h l lt le = go (cases_lt h 26)
  where
    go : (h < 26) ⊎ (26 ≤ h) → low (suc h) ≤ (l + 1) / 2
    go (inl k) = let e = low_next h k in omega (arith, e, le)
    go (inr k) =
        let e : h ≡ 26 = omega (arith, lt, k) in
        let a : low (suc h) ≡ 1 = ap (λ (i : ℕ). low (suc i)) e ∙ low_end in
        let b : low h ≡ 1 = ap low e ∙ low_last in
        omega (arith, a, b, le)

high_half : (h r : ℕ) → h < 27 → r ≤ high h → r / 2 ≤ high (suc h)
high_half h r lt le = let e = high_next h lt in omega (arith, e, le)

pub node_next : (x h : ℕ) → node_at x (suc h) ≡ node_at x h / 2
unfolding node_at
node_next x h = refl

pub node_none : (x : ℕ) → node_at x 0 ≡ x + PLACE_COUNT
unfolding node_at
node_none x = refl

pub node_low : (x h : ℕ) → h ≤ 26 → low h ≤ node_at x h
node_low x zero le = let a = node_none x in let b = low_first in omega (arith, a, b)
node_low x (suc h) le =
    let a = node_next x h in
    let b = node_low x h (omega (arith, le)) in
    let c = low_next h (omega (arith, le)) in
    omega (arith, a, b, c)

pub node_high : (x h : ℕ) → x < PLACE_COUNT → h ≤ 27 → node_at x h < high h
node_high x zero lt le = let a = node_none x in let b = high_first in omega (arith, a, b, lt)
node_high x (suc h) lt le =
    let a = node_next x h in
    let b = node_high x h lt (omega (arith, le)) in
    let c = high_next h (omega (arith, le)) in
    omega (arith, a, b, c)

low_past : (i : ℕ) → 26 ≤ i → low i ≡ 1
unfolding low
low_past i le = let e : 26 - i ≡ 0 = omega (arith, le) in ap (λ (k : ℕ). 2 ^ k) e

low_step : (i : ℕ) → low (suc i) ≤ low i
low_step i = go (cases_lt i 26)
  where
    go : (i < 26) ⊎ (26 ≤ i) → low (suc i) ≤ low i
    go (inl k) = let a = low_next i k in omega (arith, a)
    go (inr k) = let a = low_past i k in let b = low_past (suc i) (omega (arith, k)) in omega (arith, a, b)

low_falls : (j h : ℕ) → low (j + h) ≤ low j
low_falls j zero = let e : j + 0 ≡ j = omega arith in rw e (omega arith)
low_falls j (suc h) =
    let e : j + suc h ≡ suc (j + h) = omega arith in
    let a = low_falls j h in
    let b = low_step (j + h) in
    rw e (omega (arith, a, b))

-- ---- the greatest number

pub greatest_none : (m : ℕ → ℕ) (x : ℕ) → greatest_below m x 0 ≡ 0
unfolding greatest_below
greatest_none m x = refl

pub greatest_next : (m : ℕ → ℕ) (x h : ℕ) → greatest_below m x (suc h) ≡ max (greatest_below m x h) (m (node_at x h))
unfolding greatest_below
greatest_next m x h = refl

same_below : (m n : ℕ → ℕ) (x h : ℕ) → ((j : ℕ) → j < h → n (node_at x j) ≡ m (node_at x j)) → greatest_below n x h ≡ greatest_below m x h
same_below m n x zero e = greatest_none n x ∙ sym (greatest_none m x)
same_below m n x (suc h) e =
    let a = same_below m n x h (λ j lt. e j (omega (arith, lt))) in
    let b = e h (omega arith) in
    greatest_next n x h ∙ ap (λ (k : ℕ). max k (n (node_at x h))) a ∙ ap (max (greatest_below m x h)) b ∙ sym (greatest_next m x h)

pub no_marks : (m : ℕ → ℕ) → ((n : ℕ) → m n ≡ 0) → (x h : ℕ) → greatest_below m x h ≡ 0
no_marks m z x zero = greatest_none m x
no_marks m z x (suc h) =
    let a = no_marks m z x h in
    let b = z (node_at x h) in
    let c = greatest_next m x h in
    omega (arith, a, b, c)

-- ---- the marks of a level

abbrev number_if : Bool → ℕ → ℕ
number_if b t = if b then t else 0

marked_in : (l r n : ℕ) → is_marked l r n ≡ true → (l ≤ n) × (n < r) × (((l + 1) / 2 ≤ n / 2) → (n / 2 < r / 2) → ⊥)
marked_in l r n h = grind (arith, nat_tests)

unmarked_in : (l r n : ℕ) → is_marked l r n ≡ false → l ≤ n → n < r → ((l + 1) / 2 ≤ n / 2) × (n / 2 < r / 2)
unmarked_in l r n h a b = grind (arith, nat_tests)

-- m are the numbers before a call that puts t on the places from a start to below an end, n those when the levels below h are done
-- and the nodes of level h from l to below r are left
pub record Raised (m n : ℕ → ℕ) (start fin t h l r : ℕ) : Type 0 where
  pub left : low h ≤ l
  pub right : r ≤ high h
  pub inside : (x : ℕ) → x < PLACE_COUNT → l ≤ node_at x h → node_at x h < r → (start ≤ x) × (x < fin)
  pub covered : (x : ℕ) → x < PLACE_COUNT → start ≤ x → x < fin → (node_at x h < l) ⊎ (r ≤ node_at x h) → greatest_below n x h ≡ max (greatest_below m x h) t
  pub within : (x : ℕ) → x < PLACE_COUNT → l ≤ node_at x h → node_at x h < r → greatest_below n x h ≡ greatest_below m x h
  pub outside : (x : ℕ) → x < PLACE_COUNT → (x < start) ⊎ (fin ≤ x) → greatest_below n x h ≡ greatest_below m x h
  pub untouched : (k : ℕ) → k < high h → n k ≡ m k

pub begun : (m : ℕ → ℕ) (start fin t : ℕ) → start ≤ fin → fin ≤ PLACE_COUNT → Raised m m start fin t 0 (start + PLACE_COUNT) (fin + PLACE_COUNT)
begun m start fin t le lt = record {
  left = let a = low_first in omega (arith, a);
  right = let a = high_first in omega (arith, a, lt);
  inside = λ x below a b. let e = node_none x in (omega (arith, e, a), omega (arith, e, b));
  covered = λ x below a b c. apart x a b c;
  within = λ x below a b. refl;
  outside = λ x below c. refl;
  untouched = λ k below. refl;
}
  where
    apart : (x : ℕ) → start ≤ x → x < fin → (node_at x 0 < start + PLACE_COUNT) ⊎ (fin + PLACE_COUNT ≤ node_at x 0) → greatest_below m x 0 ≡ max (greatest_below m x 0) t
    apart x a b (inl c) = let e = node_none x in absurd (omega (arith, e, a, c))
    apart x a b (inr c) = let e = node_none x in absurd (omega (arith, e, b, c))

module _ (m n o : ℕ → ℕ) (start fin t h l r : ℕ) (lt : h < 27) (w : Raised m n start fin t h l r) (marks : (k : ℕ) → o k ≡ max (n k) (number_if (is_marked l r k) t)) where
  -- what isn't marked keeps its number
  kept : (k : ℕ) → (k < l) ⊎ (r ≤ k) → o k ≡ n k
  kept k c = go (is_marked l r k) refl
    where
      go : (b : Bool) → is_marked l r k ≡ b → o k ≡ n k
      go true e = let p = marked_in l r k e in absurd (out c p.0 p.1)
        where
          out : (k < l) ⊎ (r ≤ k) → l ≤ k → k < r → ⊥
          out (inl a) b d = omega (arith, a, b)
          out (inr a) b d = omega (arith, a, d)
      go false e = let a = marks k ∙ ap (λ b. max (n k) (number_if b t)) e in omega (arith, a)

  -- the nodes of the levels below stay
  below : (x : ℕ) → x < PLACE_COUNT → greatest_below o x h ≡ greatest_below n x h
  below x lx = same_below n o x h (λ j less. kept (node_at x j) (inr (above j less)))
    where
      above : (j : ℕ) → j < h → r ≤ node_at x j
      above j less =
          let a = node_low x j (omega (arith, less, lt)) in
          let e : suc (j + (h - suc j)) ≡ h = omega (arith, less) in
          let f : high h ≡ low (j + (h - suc j)) = ap high (sym e) ∙ high_low (j + (h - suc j)) in
          let b = low_falls j (h - suc j) in
          let c = w.right in
          omega (arith, a, b, c, f)

  module _ (x : ℕ) (lx : x < PLACE_COUNT) where
    -- the number of the node of this level was there before
    here : n (node_at x h) ≡ m (node_at x h)
    here = w.untouched (node_at x h) (node_high x h lx (omega (arith, lt)))

    -- with one level more
    more : (a : ℕ) → greatest_below n x h ≡ a → greatest_below o x (suc h) ≡ max a (o (node_at x h))
    more a e = greatest_next o x h ∙ ap (λ (k : ℕ). max k (o (node_at x h))) (below x lx ∙ e)

    before : greatest_below m x (suc h) ≡ max (greatest_below m x h) (m (node_at x h))
    before = greatest_next m x h

    -- a place outside of what was left
    left_out : (a : ℕ) → greatest_below n x h ≡ a → (node_at x h < l) ⊎ (r ≤ node_at x h) → greatest_below o x (suc h) ≡ max a (m (node_at x h))
    left_out a e c = more a e ∙ ap (max a) (kept (node_at x h) c ∙ here)

    was_inside : (l + 1) / 2 ≤ node_at x (suc h) → node_at x (suc h) < r / 2 → (l ≤ node_at x h) × (node_at x h < r)
    was_inside a b = let e = node_next x h in (omega (arith, e, a), omega (arith, e, b))

  next_inside : (x : ℕ) → x < PLACE_COUNT → (l + 1) / 2 ≤ node_at x (suc h) → node_at x (suc h) < r / 2 → (start ≤ x) × (x < fin)
  next_inside x lx a b = let p = was_inside x lx a b in w.inside x lx p.0 p.1

  next_within : (x : ℕ) → x < PLACE_COUNT → (l + 1) / 2 ≤ node_at x (suc h) → node_at x (suc h) < r / 2 → greatest_below o x (suc h) ≡ greatest_below m x (suc h)
  next_within x lx a b = go (is_marked l r (node_at x h)) refl
    where
      go : (b : Bool) → is_marked l r (node_at x h) ≡ b → greatest_below o x (suc h) ≡ greatest_below m x (suc h)
      go true e =
          let q = marked_in l r (node_at x h) e in
          let f = node_next x h in
          absurd (q.2 (omega (arith, f, a)) (omega (arith, f, b)))
      go false e =
          let p = was_inside x lx a b in
          let f = marks (node_at x h) ∙ ap (λ (v : Bool). max (n (node_at x h)) (number_if v t)) e in
          let i = here x lx in
          let j : o (node_at x h) ≡ m (node_at x h) = omega (arith, f, i) in
          more x lx (greatest_below m x h) (w.within x lx p.0 p.1) ∙ ap (max (greatest_below m x h)) j ∙ sym (before x lx)

  -- a node that was left, and whose parent isn't, is marked
  just_marked : (x : ℕ) → x < PLACE_COUNT → l ≤ node_at x h → node_at x h < r → (node_at x (suc h) < (l + 1) / 2) ⊎ (r / 2 ≤ node_at x (suc h))
      → greatest_below o x (suc h) ≡ max (greatest_below m x (suc h)) t
  just_marked x lx a b c = go (is_marked l r (node_at x h)) refl
    where
      apart : (node_at x (suc h) < (l + 1) / 2) ⊎ (r / 2 ≤ node_at x (suc h)) → (l + 1) / 2 ≤ node_at x h / 2 → node_at x h / 2 < r / 2 → ⊥
      apart (inl d) i j = let f = node_next x h in omega (arith, f, d, i)
      apart (inr d) i j = let f = node_next x h in omega (arith, f, d, j)

      go : (v : Bool) → is_marked l r (node_at x h) ≡ v → greatest_below o x (suc h) ≡ max (greatest_below m x (suc h)) t
      go true e =
          let f = marks (node_at x h) ∙ ap (λ (v : Bool). max (n (node_at x h)) (number_if v t)) e in
          let i = here x lx in
          let g = more x lx (greatest_below m x h) (w.within x lx a b) in
          let k = before x lx in
          omega (arith, f, i, g, k)
      go false e = let q = unmarked_in l r (node_at x h) e a b in absurd (apart c q.0 q.1)

  next_covered : (x : ℕ) → x < PLACE_COUNT → start ≤ x → x < fin → (node_at x (suc h) < (l + 1) / 2) ⊎ (r / 2 ≤ node_at x (suc h))
      → greatest_below o x (suc h) ≡ max (greatest_below m x (suc h)) t
  next_covered x lx a b c = go (cases_lt (node_at x h) l) (cases_lt (node_at x h) r)
    where
      done : (node_at x h < l) ⊎ (r ≤ node_at x h) → greatest_below o x (suc h) ≡ max (greatest_below m x (suc h)) t
      done d =
          let g = left_out x lx (max (greatest_below m x h) t) (w.covered x lx a b d) d in
          let k = before x lx in
          omega (arith, g, k)

      go : (node_at x h < l) ⊎ (l ≤ node_at x h) → (node_at x h < r) ⊎ (r ≤ node_at x h) → greatest_below o x (suc h) ≡ max (greatest_below m x (suc h)) t
      go (inl d) e = done (inl d)
      go (inr d) (inl e) = just_marked x lx d e c
      go (inr d) (inr e) = done (inr e)

  next_outside : (x : ℕ) → x < PLACE_COUNT → (x < start) ⊎ (fin ≤ x) → greatest_below o x (suc h) ≡ greatest_below m x (suc h)
  next_outside x lx c = go (cases_lt (node_at x h) l) (cases_lt (node_at x h) r)
    where
      done : (node_at x h < l) ⊎ (r ≤ node_at x h) → greatest_below o x (suc h) ≡ greatest_below m x (suc h)
      done d = left_out x lx (greatest_below m x h) (w.outside x lx c) d ∙ sym (before x lx)

      never : (x < start) ⊎ (fin ≤ x) → (start ≤ x) × (x < fin) → ⊥
      never (inl d) p = let q = p.0 in omega (arith, d, q)
      never (inr d) p = let q = p.1 in omega (arith, d, q)

      go : (node_at x h < l) ⊎ (l ≤ node_at x h) → (node_at x h < r) ⊎ (r ≤ node_at x h) → greatest_below o x (suc h) ≡ greatest_below m x (suc h)
      go (inl d) e = done (inl d)
      go (inr d) (inl e) = absurd (never c (w.inside x lx d e))
      go (inr d) (inr e) = done (inr e)

  next_untouched : (k : ℕ) → k < high (suc h) → o k ≡ m k
  next_untouched k lk =
      let a = high_low h in
      let b = w.left in
      let c = high_next h lt in
      kept k (inl (omega (arith, a, b, lk))) ∙ w.untouched k (omega (arith, c, lk))

  pub next : Raised m o start fin t (suc h) ((l + 1) / 2) (r / 2)
  next = record {
    left = low_half h l lt w.left;
    right = high_half h r lt w.right;
    inside = next_inside;
    covered = next_covered;
    within = next_within;
    outside = next_outside;
    untouched = next_untouched;
  }

-- when no level is left, no node is
pub ended : (m n : ℕ → ℕ) (start fin t l r : ℕ) → Raised m n start fin t 27 l r → (x : ℕ) → x < PLACE_COUNT
    → greatest_below n x 27 ≡ max (greatest_below m x 27) (if nat_le start x && nat_lt x fin then t else 0)
ended m n start fin t l r w x lx = go (cases_lt x start) (cases_lt x fin)
  where
    none_left : (node_at x 27 < l) ⊎ (r ≤ node_at x 27)
    none_left = by (cases_lt (node_at x 27) l)
      where
        by : (node_at x 27 < l) ⊎ (l ≤ node_at x 27) → (node_at x 27 < l) ⊎ (r ≤ node_at x 27)
        by (inl d) = inl d
        by (inr d) = let a = w.left in let b = w.right in let e = low_end in let f = high_end in inr (omega (arith, a, b, d, e, f))

    go : (x < start) ⊎ (start ≤ x) → (x < fin) ⊎ (fin ≤ x) → greatest_below n x 27 ≡ max (greatest_below m x 27) (if nat_le start x && nat_lt x fin then t else 0)
    go (inl a) b = let e = w.outside x lx (inl a) in let f : (nat_le start x && nat_lt x fin) ≡ false = grind (arith, nat_tests) in rw f (omega (arith, e))
    go (inr a) (inl b) = let e = w.covered x lx a b none_left in let f : (nat_le start x && nat_lt x fin) ≡ true = grind (arith, nat_tests) in rw f e
    go (inr a) (inr b) = let e = w.outside x lx (inr b) in let f : (nat_le start x && nat_lt x fin) ≡ false = grind (arith, nat_tests) in rw f (omega (arith, e))

-- when no node is left at a level, none is at the levels above, and no more marks are made
pub finished : (m n : ℕ → ℕ) (start fin t d h l r : ℕ) → h + d ≡ 27 → r ≤ l → Raised m n start fin t h l r → (x : ℕ) → x < PLACE_COUNT
    → greatest_below n x 27 ≡ max (greatest_below m x 27) (if nat_le start x && nat_lt x fin then t else 0)
finished m n start fin t zero h l r e le w =
    let s : h ≡ 27 = omega (arith, e) in
    ended m n start fin t l r (subst (λ (k : ℕ). Raised m n start fin t k l r) s w)
finished m n start fin t (suc d) h l r e le w =
    let none : (k : ℕ) → n k ≡ max (n k) (number_if (is_marked l r k) t) = λ k. unmarked k in
    finished m n start fin t d (suc h) ((l + 1) / 2) (r / 2) (omega (arith, e)) (omega (arith, le)) (next m n n start fin t h l r (omega (arith, e)) w none)
  where
    unmarked : (k : ℕ) → n k ≡ max (n k) (number_if (is_marked l r k) t)
    unmarked k = let f : is_marked l r k ≡ false = grind (arith, nat_tests) in rw f (omega arith)
