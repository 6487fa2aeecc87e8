-- The path of a leaf meets the nodes that span a range just where the leaf lies in the range.
use Rattle.std.proofs.Common.{◌≡◌, ℕ, zero, suc, ◌+◌, ◌-◌, ◌*◌, ◌/◌, ◌%◌, ◌^◌, ◌==◌, ◌<◌, ◌≤◌, ◌⊎◌, inl, inr, Bool, true, false, refl}
use Rattle.std.proofs.Common.{sym, ap, ◌∙◌, arith}
use Rattle.std.specs.Prelude.{◌&&◌, ◌||◌, nat_le, nat_lt}
use Rattle.std.specs.List.{list_any}
use Rattle.std.proofs.lemmas.Bool.{cases_lt, eq-eqb, lt-ltb, le-ltb, le-leb, ltb-true, leb-true, eqb-true, and_parts, and_from, or_cases, or_left, or_right, true≢false}
use Rattle.std.proofs.lemmas.List.Folds.{list_any-append}
use Rattle.pg_slice_conflicts.specs.Nodes.{ends, only_if, path, span}
use Rattle.pg_slice_conflicts.specs.Ranks.{is_among}
use Rattle.pg_slice_conflicts.proofs.ListTests.{any_or, any_same, same_tests}
use Rattle.std.proofs.Math.Nat.{pow-succ'}

-- ---- which nodes a span has

among_only : (b : Bool) (v w : ℕ) → is_among v (only_if b w) ≡ true → (b ≡ true) × (w ≡ v)
among_only true v w h = (refl, only (or_cases (w == v) false h))
  where
    only : ((w == v) ≡ true) ⊎ (false ≡ true) → w ≡ v
    only (inl e) = eqb-true w v e
    only (inr e) = absurd (true≢false (sym e))
among_only false v w h = absurd (true≢false (sym h))

only_among : (b : Bool) (v : ℕ) → b ≡ true → is_among v (only_if b v) ≡ true
only_among true v e = or_left (v == v) false (eq-eqb v v refl)
only_among false v e = absurd (true≢false (sym e))

-- a node at an end of the nodes from low to before high
pub record AtEnd (low high v : ℕ) : Type 0 where
  pub some : low < high
  pub which : ((low % 2 ≡ 1) × (v ≡ low)) ⊎ ((high % 2 ≡ 1) × (v ≡ high - 1))

at_end : (low high v : ℕ) → is_among v (ends low high) ≡ true → AtEnd low high v
at_end low high v h = go (cases_lt low high)
  where
    pick : (is_among v (only_if (low % 2 == 1) low) ≡ true) ⊎ (is_among v (only_if (high % 2 == 1) (high - 1)) ≡ true)
        → ((low % 2 ≡ 1) × (v ≡ low)) ⊎ ((high % 2 ≡ 1) × (v ≡ high - 1))
    pick (inl e) = let p = among_only (low % 2 == 1) v low e in inl (eqb-true (low % 2) 1 p.0, sym p.1)
    pick (inr e) = let p = among_only (high % 2 == 1) v (high - 1) e in inr (eqb-true (high % 2) 1 p.0, sym p.1)

    go : (low < high) ⊎ (high ≤ low) → AtEnd low high v
    go (inl lt) =
        let q = rw (lt-ltb low high lt) at h in
        let r = sym (list_any-append (λ w. w == v) (only_if (low % 2 == 1) low) (only_if (high % 2 == 1) (high - 1))) ∙ q in
        record { some = lt; which = pick (or_cases (is_among v (only_if (low % 2 == 1) low)) (is_among v (only_if (high % 2 == 1) (high - 1))) r) }
    go (inr ge) = let q = rw (le-ltb low high ge) at h in absurd (true≢false (sym q))

pub low_end : (low high : ℕ) → low < high → low % 2 ≡ 1 → is_among low (ends low high) ≡ true
low_end low high lt odd =
    rw (lt-ltb low high lt) (list_any-append (λ w. w == low) (only_if (low % 2 == 1) low) (only_if (high % 2 == 1) (high - 1))
    ∙ or_left (is_among low (only_if (low % 2 == 1) low)) (is_among low (only_if (high % 2 == 1) (high - 1))) (only_among (low % 2 == 1) low (eq-eqb (low % 2) 1 odd)))

pub high_end : (low high : ℕ) → low < high → high % 2 ≡ 1 → is_among (high - 1) (ends low high) ≡ true
high_end low high lt odd =
    rw (lt-ltb low high lt) (list_any-append (λ w. w == high - 1) (only_if (low % 2 == 1) low) (only_if (high % 2 == 1) (high - 1))
    ∙ or_right (is_among (high - 1) (only_if (low % 2 == 1) low)) (is_among (high - 1) (only_if (high % 2 == 1) (high - 1))) (only_among (high % 2 == 1) (high - 1) (eq-eqb (high % 2) 1 odd)))

-- all nodes of a span lie before its end
pub span_below : (n low high v : ℕ) → is_among v (span n low high) ≡ true → v < high
span_below zero low high v h = absurd (true≢false (sym h))
span_below (suc n) low high v h = go (or_cases (is_among v (ends low high)) (is_among v (span n (low / 2 + low % 2) (high / 2)))
    (sym (list_any-append (λ w. w == v) (ends low high) (span n (low / 2 + low % 2) (high / 2))) ∙ h)) (span_below n (low / 2 + low % 2) (high / 2) v)
  where
    by : ((low % 2 ≡ 1) × (v ≡ low)) ⊎ ((high % 2 ≡ 1) × (v ≡ high - 1)) → low < high → v < high
    by (inl p) lt = let e = p.1 in omega (arith, e, lt)
    by (inr p) lt = let e = p.1 in omega (arith, e, lt)

    go : (is_among v (ends low high) ≡ true) ⊎ (is_among v (span n (low / 2 + low % 2) (high / 2)) ≡ true) → (is_among v (span n (low / 2 + low % 2) (high / 2)) ≡ true → v < high / 2)
        → v < high
    go (inl e) ih = let a = at_end low high v e in by a.which a.some
    go (inr e) ih = let l = ih e in omega (arith, l)

-- a node of a path passes a test
pub record OnPath (test : ℕ → Bool) (n v : ℕ) : Type 0 where
  pub node : ℕ
  pub above : node ≤ v
  pub passes : test node ≡ true

pub on_path : (test : ℕ → Bool) (n v : ℕ) → list_any test (path n v) ≡ true → OnPath test n v
on_path test zero v h = absurd (true≢false (sym h))
on_path test (suc n) v h = go (or_cases (test v) (list_any test (path n (v / 2))) h) (on_path test n (v / 2))
  where
    go : (test v ≡ true) ⊎ (list_any test (path n (v / 2)) ≡ true) → (list_any test (path n (v / 2)) ≡ true → OnPath test n (v / 2)) → OnPath test (suc n) v
    go (inl e) ih = record { node = v; above = omega arith; passes = e }
    go (inr e) ih = let o = ih e in let l = o.above in record { node = o.node; above = omega (arith, l); passes = o.passes }

-- ---- one level

-- a leaf in a range is an end, or lies below a node between the ends
pub inner : (low high p : ℕ) → low ≤ p → p < high → AtEnd low high p ⊎ ((low / 2 + low % 2 ≤ p / 2) × (p / 2 < high / 2))
inner low high p h k = go (cases_lt (p / 2) (low / 2 + low % 2)) (cases_lt (p / 2) (high / 2))
  where
    go : (p / 2 < low / 2 + low % 2) ⊎ (low / 2 + low % 2 ≤ p / 2) → (p / 2 < high / 2) ⊎ (high / 2 ≤ p / 2) → AtEnd low high p ⊎ ((low / 2 + low % 2 ≤ p / 2) × (p / 2 < high / 2))
    go (inl a) d = inl (record { some = omega (arith, h, k); which = inl (omega (arith, h, a), omega (arith, h, a)) })
    go (inr a) (inr b) = inl (record { some = omega (arith, h, k); which = inr (omega (arith, k, b), omega (arith, k, b)) })
    go (inr a) (inl b) = inr (a, b)

-- ---- all levels

-- the path of p meets the span
abbrev pub meets : ℕ → ℕ → ℕ → ℕ → Bool
meets n low high p = list_any (λ v. is_among v (span n low high)) (path n p)

-- the nodes below a node of the last level
record Level (n leaves : ℕ) : Type 0 where
  half : ℕ
  twice : leaves ≡ 2 * half
  next : 2 * half ≡ 2 ^ n

level : (n leaves : ℕ) → 2 * leaves ≡ 2 ^ suc (suc n) → Level (suc n) leaves
level n leaves h =
    let e = pow-succ' 2 (suc n) in
    let f = pow-succ' 2 n in
    record { half = 2 ^ n; twice = omega (arith, e, f, h); next = sym f }

one_leaf : (leaves : ℕ) → 2 * leaves ≡ 2 ^ 1 → leaves ≡ 1
one_leaf leaves h = omega (arith, h)

pub record Lies (leaves low high p : ℕ) : Type 0 where
  pub low_from : leaves ≤ low
  pub low_to : low ≤ 2 * leaves
  pub high_to : high ≤ 2 * leaves
  pub leaf_from : leaves ≤ p
  pub leaf_to : p < 2 * leaves

half_lies : (half leaves low high p : ℕ) → leaves ≡ 2 * half → Lies leaves low high p → Lies half (low / 2 + low % 2) (high / 2) (p / 2)
half_lies half leaves low high p e l =
    let a = l.low_from in
    let b = l.low_to in
    let c = l.high_to in
    let d = l.leaf_from in
    let f = l.leaf_to in
    record { low_from = omega (arith, a, e); low_to = omega (arith, b, e); high_to = omega (arith, c, e); leaf_from = omega (arith, d, e); leaf_to = omega (arith, f, e) }

-- one level, by the path's first node and the rest
meets_level : (n low high p : ℕ) → meets (suc n) low high p
    ≡ ((is_among p (ends low high) || is_among p (span n (low / 2 + low % 2) (high / 2)))
    || (list_any (λ v. is_among v (ends low high)) (path n (p / 2)) || meets n (low / 2 + low % 2) (high / 2) (p / 2)))
meets_level n low high p =
    any_same (λ v. is_among v (span (suc n) low high)) (λ v. is_among v (ends low high) || is_among v (span n (low / 2 + low % 2) (high / 2))) (path (suc n) p)
    (λ v. list_any-append (λ w. w == v) (ends low high) (span n (low / 2 + low % 2) (high / 2)))
    ∙ ap (λ b. (is_among p (ends low high) || is_among p (span n (low / 2 + low % 2) (high / 2))) || b)
    (any_or (λ v. is_among v (ends low high)) (λ v. is_among v (span n (low / 2 + low % 2) (high / 2))) (path n (p / 2)))

lies_in : (low high p : ℕ) → low ≤ p → p < high → (nat_le low p && nat_lt p high) ≡ true
lies_in low high p a b = and_from (nat_le low p) (nat_lt p high) (le-leb low p a) (lt-ltb p high b)

module _ (n leaves low high p : ℕ) (l : Lies leaves low high p) where
  abbrev rest_low : ℕ
  rest_low = low / 2 + low % 2

  -- an end that is the leaf lies in the range
  end_in : AtEnd low high p → (nat_le low p && nat_lt p high) ≡ true
  end_in a = go a.some a.which
    where
      go : low < high → ((low % 2 ≡ 1) × (p ≡ low)) ⊎ ((high % 2 ≡ 1) × (p ≡ high - 1)) → (nat_le low p && nat_lt p high) ≡ true
      go lt (inl e) = let q = e.1 in lies_in low high p (omega (arith, q)) (omega (arith, q, lt))
      go lt (inr e) = let q = e.1 in lies_in low high p (omega (arith, q, lt)) (omega (arith, q, lt))

  -- no node above the leaf is an end
  no_end_above : OnPath (λ v. is_among v (ends low high)) n (p / 2) → ⊥
  no_end_above o = go a.some a.which
    where
      a : AtEnd low high o.node
      a = at_end low high o.node o.passes

      go : low < high → ((low % 2 ≡ 1) × (o.node ≡ low)) ⊎ ((high % 2 ≡ 1) × (o.node ≡ high - 1)) → ⊥
      go lt (inl e) = let q = e.1 in let b = o.above in let f = l.low_from in let t = l.leaf_to in omega (arith, q, b, f, t)
      go lt (inr e) = let q = e.1 in let b = o.above in let f = l.low_from in let t = l.leaf_to in omega (arith, q, b, f, t, lt)

  up : (meets n rest_low (high / 2) (p / 2) ≡ true → (nat_le rest_low (p / 2) && nat_lt (p / 2) (high / 2)) ≡ true) → meets (suc n) low high p ≡ true
      → (nat_le low p && nat_lt p high) ≡ true
  up ih h = go (or_cases (is_among p (ends low high) || is_among p (span n rest_low (high / 2)))
      (list_any (λ v. is_among v (ends low high)) (path n (p / 2)) || meets n rest_low (high / 2) (p / 2)) (sym (meets_level n low high p) ∙ h))
    where
      below : (nat_le rest_low (p / 2) && nat_lt (p / 2) (high / 2)) ≡ true → (nat_le low p && nat_lt p high) ≡ true
      below e =
          let q = and_parts (nat_le rest_low (p / 2)) (nat_lt (p / 2) (high / 2)) e in
          let a = leb-true rest_low (p / 2) q.0 in
          let b = ltb-true (p / 2) (high / 2) q.1 in
          lies_in low high p (omega (arith, a)) (omega (arith, b))

      first : (is_among p (ends low high) ≡ true) ⊎ (is_among p (span n rest_low (high / 2)) ≡ true) → (nat_le low p && nat_lt p high) ≡ true
      first (inl e) = end_in (at_end low high p e)
      first (inr e) = let b = span_below n rest_low (high / 2) p e in let f = l.leaf_from in let t = l.high_to in absurd (omega (arith, b, f, t))

      second : (list_any (λ v. is_among v (ends low high)) (path n (p / 2)) ≡ true) ⊎ (meets n rest_low (high / 2) (p / 2) ≡ true) → (nat_le low p && nat_lt p high) ≡ true
      second (inl e) = absurd (no_end_above (on_path (λ v. is_among v (ends low high)) n (p / 2) e))
      second (inr e) = below (ih e)

      go : ((is_among p (ends low high) || is_among p (span n rest_low (high / 2))) ≡ true)
          ⊎ ((list_any (λ v. is_among v (ends low high)) (path n (p / 2)) || meets n rest_low (high / 2) (p / 2)) ≡ true) → (nat_le low p && nat_lt p high) ≡ true
      go (inl e) = first (or_cases (is_among p (ends low high)) (is_among p (span n rest_low (high / 2))) e)
      go (inr e) = second (or_cases (list_any (λ v. is_among v (ends low high)) (path n (p / 2))) (meets n rest_low (high / 2) (p / 2)) e)

  down : ((nat_le rest_low (p / 2) && nat_lt (p / 2) (high / 2)) ≡ true → meets n rest_low (high / 2) (p / 2) ≡ true) → (nat_le low p && nat_lt p high) ≡ true
      → meets (suc n) low high p ≡ true
  down ih h = go (inner low high p (leb-true low p q.0) (ltb-true p high q.1))
    where
      q : (nat_le low p ≡ true) × (nat_lt p high ≡ true)
      q = and_parts (nat_le low p) (nat_lt p high) h

      ended : is_among p (ends low high) ≡ true → meets (suc n) low high p ≡ true
      ended e =
          meets_level n low high p
          ∙ or_left (is_among p (ends low high) || is_among p (span n rest_low (high / 2))) (list_any (λ v. is_among v (ends low high)) (path n (p / 2)) || meets n rest_low (high / 2) (p / 2))
          (or_left (is_among p (ends low high)) (is_among p (span n rest_low (high / 2))) e)

      at : low < high → ((low % 2 ≡ 1) × (p ≡ low)) ⊎ ((high % 2 ≡ 1) × (p ≡ high - 1)) → is_among p (ends low high) ≡ true
      at lt (inl e) = ap (λ v. is_among v (ends low high)) e.1 ∙ low_end low high lt e.0
      at lt (inr e) = ap (λ v. is_among v (ends low high)) e.1 ∙ high_end low high lt e.0

      go : AtEnd low high p ⊎ ((rest_low ≤ p / 2) × (p / 2 < high / 2)) → meets (suc n) low high p ≡ true
      go (inl a) = ended (at a.some a.which)
      go (inr b) =
          meets_level n low high p
          ∙ or_right (is_among p (ends low high) || is_among p (span n rest_low (high / 2))) (list_any (λ v. is_among v (ends low high)) (path n (p / 2)) || meets n rest_low (high / 2) (p / 2))
          (or_right (list_any (λ v. is_among v (ends low high)) (path n (p / 2))) (meets n rest_low (high / 2) (p / 2)) (ih (lies_in rest_low (high / 2) (p / 2) b.0 b.1)))

pub meeting : (n leaves low high p : ℕ) → 2 * leaves ≡ 2 ^ n → Lies leaves low high p → meets n low high p ≡ (nat_le low p && nat_lt p high)
meeting zero leaves low high p t l = absurd (omega (arith, t))
meeting (suc zero) leaves low high p t l = same_tests (meets 1 low high p) (nat_le low p && nat_lt p high) (up 0 leaves low high p l (λ e. absurd (true≢false (sym e))))
    (down 0 leaves low high p l (λ e. absurd (none e)))
  where
    none : (nat_le (low / 2 + low % 2) (p / 2) && nat_lt (p / 2) (high / 2)) ≡ true → ⊥
    none e =
        let o = one_leaf leaves t in
        let q = and_parts (nat_le (low / 2 + low % 2) (p / 2)) (nat_lt (p / 2) (high / 2)) e in
        let a = leb-true (low / 2 + low % 2) (p / 2) q.0 in
        let f = l.low_from in
        let k = l.leaf_to in
        omega (arith, o, a, f, k)
meeting (suc (suc n)) leaves low high p t l =
    let v = level n leaves t in
    let ih = meeting (suc n) v.half (low / 2 + low % 2) (high / 2) (p / 2) v.next (half_lies v.half leaves low high p v.twice l) in
    same_tests (meets (suc (suc n)) low high p) (nat_le low p && nat_lt p high) (up (suc n) leaves low high p l (λ e. sym ih ∙ e)) (down (suc n) leaves low high p l (λ e. ih ∙ e))
