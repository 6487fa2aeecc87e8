-- By the tables of a pass one sees which touches are answered.
use Rattle.std.proofs.Common.{◌≡◌, ℕ, zero, suc, ◌+◌, ◌<◌, ◌≤◌, ◌==◌, ◌⊎◌, inl, inr, Bool, true, false, List, [], ◌∷◌, ◌++◌, replicate, refl, sym}
use Rattle.std.proofs.Common.{ap, ◌∙◌, subst, arith}
use Rattle.std.specs.Prelude.{◌&&◌, ◌||◌, max, nat_le, nat_lt, if◌then◌else◌}
use Rattle.std.specs.List.{list_any, AllByRecursion}
use Rattle.std.proofs.lemmas.Bool.{cases_lt, lt-ltb, le-ltb, le-leb, ltb-true, leb-true, and_parts, and_from, or_cases, or_left, or_right, eqb-true, eq-eqb}
use Rattle.std.proofs.lemmas.List.Folds.{list_any-append}
use Rattle.pg_run_trace.specs.declared.best.Best.{Best}
use Rattle.pg_slice_conflicts.specs.declared.pass.Touch.{Touch}
use Rattle.pg_slice_conflicts.specs.declared.tree.Tree.{Tree}
use Rattle.pg_slice_conflicts.specs.Nodes.{path, span}
use Rattle.pg_slice_conflicts.specs.Passes.{answers, share}
use Rattle.pg_slice_conflicts.specs.Ranks.{Noted, any_above, best_at, gives, has_above, is_among}
use Rattle.pg_run_trace.specs.Best.{no_best, other}
use Rattle.pg_slice_conflicts.specs.Tables.{IsTree, IsWithin, Keeps, is_answered, is_noted, leaf, spanned, started}
use Rattle.pg_slice_conflicts.proofs.SpansMeetPaths.{meeting, meets}
use Rattle.pg_slice_conflicts.proofs.ListTests.{and_false, any_and, any_and_right, any_none, any_or, any_same, any_same_on, any_swap, or_and, or_false, same_tests}

-- ---- what a table keeps

at_none : (n v : ℕ) → best_at (replicate n no_best) v ≡ no_best
at_none zero v = refl
at_none (suc n) zero = refl
at_none (suc n) (suc v) = at_none n v

none_above : (n v u need : ℕ) → has_above (replicate n no_best) v u need ≡ false
none_above n v u need = ap (λ b. nat_lt need (other b u)) (at_none n v) ∙ go (0 == u)
  where
    go : (b : Bool) → nat_lt need (if b then 0 else 0) ≡ false
    go true = le-ltb need 0 (omega arith)
    go false = le-ltb need 0 (omega arith)

module _ (nodes : Touch → List ℕ) where
  pub keeps_none : (n : ℕ) (table : List Best) → table ≡ replicate n no_best → Keeps nodes table []
  keeps_none n table e = record {
    best = λ v. subst (λ b. b.second ≤ b.first) (sym (at_none n v) ∙ sym (ap (λ l. best_at l v) e)) (omega arith);
    above = λ v u need. ap (λ l. has_above l v u need) e ∙ none_above n v u need;
  }

  pub keeps_push : (old more : List Best) (xs : List Touch) (x : Touch) → Keeps nodes old xs → Noted old more (nodes x) x → Keeps nodes more (xs ++ x ∷ [])
  keeps_push old more xs x k n = record {
    best = n.best;
    above = λ v u need.
        n.above v u need ∙ ap (λ b. b || (is_among v (nodes x) && gives x u need)) (k.above v u need)
        ∙ sym (list_any-append (λ z. is_among v (nodes z) && gives z u need) xs (x ∷ [])
        ∙ ap (λ b. list_any (λ z. is_among v (nodes z) && gives z u need) xs || b) (or_false (is_among v (nodes x) && gives x u need)));
  }

  -- a touch that is noted at one of these nodes gives what y needs
  reached : (table : List Best) (xs : List Touch) (y : Touch) (vs : List ℕ) → Keeps nodes table xs →
      any_above table y vs ≡ list_any (λ x. list_any (λ v. is_among v (nodes x)) vs && gives x y.thread.0 y.need) xs
  reached table xs y vs k =
      any_same (λ v. has_above table v y.thread.0 y.need) (λ v. list_any (λ x. is_among v (nodes x) && gives x y.thread.0 y.need) xs) vs (λ v. k.above v y.thread.0 y.need)
      ∙ any_swap (λ v x. is_among v (nodes x) && gives x y.thread.0 y.need) vs xs
      ∙ any_same (λ x. list_any (λ v. is_among v (nodes x) && gives x y.thread.0 y.need) vs) (λ x. list_any (λ v. is_among v (nodes x)) vs && gives x y.thread.0 y.need) xs
      (λ x. any_and_right (λ v. is_among v (nodes x)) (gives x y.thread.0 y.need) vs)

-- ---- places

pub eqb_turn : (v w : ℕ) → (v == w) ≡ (w == v)
eqb_turn v w = same_tests (v == w) (w == v) (λ e. eq-eqb w v (sym (eqb-true v w e))) (λ e. eq-eqb v w (sym (eqb-true w v e)))

-- which of two lists is gone along first doesn't matter
turned : (vs ws : List ℕ) → list_any (λ v. is_among v vs) ws ≡ list_any (λ w. is_among w ws) vs
turned vs ws =
    any_swap (λ v w. w == v) ws vs
    ∙ any_same (λ w. list_any (λ v. w == v) ws) (λ w. is_among w ws) vs (λ w. any_same (λ v. w == v) (λ v. v == w) ws (λ v. eqb_turn w v))

test_le : (k a b : ℕ) → nat_le (k + a) (k + b) ≡ nat_le a b
test_le k a b = same_tests (nat_le (k + a) (k + b)) (nat_le a b)
    (λ e. let l = leb-true (k + a) (k + b) e in le-leb a b (omega (arith, l)))
    (λ e. let l = leb-true a b e in le-leb (k + a) (k + b) (omega (arith, l)))

test_lt : (k a b : ℕ) → nat_lt (k + a) (k + b) ≡ nat_lt a b
test_lt k a b = same_tests (nat_lt (k + a) (k + b)) (nat_lt a b)
    (λ e. let l = ltb-true (k + a) (k + b) e in lt-ltb a b (omega (arith, l)))
    (λ e. let l = ltb-true a b e in lt-ltb (k + a) (k + b) (omega (arith, l)))

-- the one begins in the other
abbrev begins : Touch → Touch → Bool
begins x y = nat_le x.first y.first && nat_lt y.first x.end

share_begins : (x y : Touch) → x.first < x.end → y.first < y.end → (begins x y || begins y x) ≡ share x y
share_begins x y a b = same_tests (begins x y || begins y x) (share x y) up down
  where
    from : max x.first y.first < x.end → max x.first y.first < y.end → share x y ≡ true
    from p q = and_from (nat_lt (max x.first y.first) x.end) (nat_lt (max x.first y.first) y.end) (lt-ltb (max x.first y.first) x.end p) (lt-ltb (max x.first y.first) y.end q)

    up : (begins x y || begins y x) ≡ true → share x y ≡ true
    up h = go (or_cases (begins x y) (begins y x) h)
      where
        go : (begins x y ≡ true) ⊎ (begins y x ≡ true) → share x y ≡ true
        go (inl e) =
            let p = and_parts (nat_le x.first y.first) (nat_lt y.first x.end) e in
            let l = leb-true x.first y.first p.0 in
            let m = ltb-true y.first x.end p.1 in
            from (omega (arith, a, b, l, m)) (omega (arith, a, b, l, m))
        go (inr e) =
            let p = and_parts (nat_le y.first x.first) (nat_lt x.first y.end) e in
            let l = leb-true y.first x.first p.0 in
            let m = ltb-true x.first y.end p.1 in
            from (omega (arith, a, b, l, m)) (omega (arith, a, b, l, m))

    down : share x y ≡ true → (begins x y || begins y x) ≡ true
    down h = go (cases_lt y.first x.first)
      where
        p : (nat_lt (max x.first y.first) x.end ≡ true) × (nat_lt (max x.first y.first) y.end ≡ true)
        p = and_parts (nat_lt (max x.first y.first) x.end) (nat_lt (max x.first y.first) y.end) h

        go : (y.first < x.first) ⊎ (x.first ≤ y.first) → (begins x y || begins y x) ≡ true
        go (inl lt) = let m = ltb-true (max x.first y.first) y.end p.1 in
            or_right (begins x y) (begins y x) (and_from (nat_le y.first x.first) (nat_lt x.first y.end) (le-leb y.first x.first (omega (arith, lt))) (lt-ltb x.first y.end (omega (arith, lt, m))))
        go (inr ge) = let m = ltb-true (max x.first y.first) x.end p.0 in
            or_left (begins x y) (begins y x) (and_from (nat_le x.first y.first) (nat_lt y.first x.end) (le-leb x.first y.first ge) (lt-ltb y.first x.end (omega (arith, ge, m))))

share_none : (x y : Touch) → x.end ≤ x.first → share x y ≡ false
share_none x y e = ap (λ b. b && nat_lt (max x.first y.first) y.end) (le-ltb (max x.first y.first) x.end (omega (arith, e)))

share_with_none : (x y : Touch) → y.end ≤ y.first → share x y ≡ false
share_with_none x y e = ap (λ b. nat_lt (max x.first y.first) x.end && b) (le-ltb (max x.first y.first) y.end (omega (arith, e))) ∙ and_false (nat_lt (max x.first y.first) x.end)

-- ---- answers

module _ (t : Tree) (is : IsTree t) (y : Touch) (wy : IsWithin t y) where
  abbrev above_first : List ℕ
  above_first = path t.levels (leaf t y.first)

  abbrev over_all : List ℕ
  over_all = span t.levels (leaf t y.first) (leaf t y.end)

  -- one of the touches begins in the other, by their nodes
  begun : (x z : Touch) → IsWithin t x → IsWithin t z → x.first < x.end → z.first < z.end → meets t.levels (leaf t x.first) (leaf t x.end) (leaf t z.first) ≡ begins x z
  begun x z wx wz a b =
      meeting t.levels t.leaves (leaf t x.first) (leaf t x.end) (leaf t z.first) is.leaves
      (record { low_from = omega arith; low_to = omega (arith, wx, a); high_to = omega (arith, wx); leaf_from = omega arith; leaf_to = omega (arith, wz, b) })
      ∙ ap (λ c. c && nat_lt (leaf t z.first) (leaf t x.end)) (test_le t.leaves x.first z.first) ∙ ap (λ c. nat_le x.first z.first && c) (test_lt t.leaves z.first x.end)

  -- by the nodes of x one sees whether it answers y
  abbrev by_nodes : Touch → Bool
  by_nodes x =
      (list_any (λ v. is_among v (spanned t x)) above_first && gives x y.thread.0 y.need)
      || (list_any (λ v. is_among v (started t x)) over_all && gives x y.thread.0 y.need)

  unnoted : (x : Touch) → is_noted x ≡ false → by_nodes x ≡ false
  unnoted x e = rw e (rw (any_none above_first, any_none over_all) refl)

  noted : (x : Touch) → IsWithin t x → is_noted x ≡ true → x.first < x.end → y.first < y.end → by_nodes x ≡ (share x y && gives x y.thread.0 y.need)
  noted x wx e a b =
      or_and (list_any (λ v. is_among v (spanned t x)) above_first) (list_any (λ v. is_among v (started t x)) over_all) (gives x y.thread.0 y.need)
      ∙ ap (λ c. c && gives x y.thread.0 y.need) (parts ∙ share_begins x y a b)
    where
      parts : (list_any (λ v. is_among v (spanned t x)) above_first || list_any (λ v. is_among v (started t x)) over_all) ≡ (begins x y || begins y x)
      parts = rw e (ap (λ c. c || list_any (λ v. is_among v (path t.levels (leaf t x.first))) over_all) (begun x y wx wy a b)
          ∙ ap (λ c. begins x y || c) (turned (path t.levels (leaf t x.first)) over_all ∙ begun y x wy wx b a))

  one : (x : Touch) → IsWithin t x → ((y.asks && nat_lt y.first y.end) && by_nodes x) ≡ answers x y
  one x wx = go y.asks refl x.gives refl (cases_lt y.first y.end) (cases_lt x.first x.end)
    where
      none : (y.asks && (x.gives && (share x y && gives x y.thread.0 y.need))) ≡ false → is_noted x ≡ false → ((y.asks && nat_lt y.first y.end) && by_nodes x) ≡ answers x y
      none e u = ap (λ c. (y.asks && nat_lt y.first y.end) && c) (unnoted x u) ∙ and_false (y.asks && nat_lt y.first y.end) ∙ sym e

      go : (p : Bool) → y.asks ≡ p → (q : Bool) → x.gives ≡ q → (y.first < y.end) ⊎ (y.end ≤ y.first) → (x.first < x.end) ⊎ (x.end ≤ x.first)
          → ((y.asks && nat_lt y.first y.end) && by_nodes x) ≡ answers x y
      go false e q f d g = rw e refl
      go true e false f d g = none (rw (e, f) refl) (rw f refl)
      go true e true f (inl b) (inl a) =
          ap (λ c. (c && nat_lt y.first y.end) && by_nodes x) e ∙ ap (λ c. c && by_nodes x) (lt-ltb y.first y.end b)
          ∙ noted x wx (rw (f, lt-ltb x.first x.end a) refl) a b
          ∙ sym (ap (λ c. c && (x.gives && (share x y && gives x y.thread.0 y.need))) e ∙ ap (λ c. c && (share x y && gives x y.thread.0 y.need)) f)
      go true e true f (inl b) (inr a) = none (rw (e, f, share_none x y a) refl) (rw (f, le-ltb x.first x.end a) refl)
      go true e true f (inr b) d = rw (e, f, le-ltb y.first y.end b, share_with_none x y b) refl

  pub met : (spans starts : List Best) (xs : List Touch) → AllByRecursion (IsWithin t) xs → Keeps (spanned t) spans xs → Keeps (started t) starts xs
      → is_answered t spans starts y ≡ list_any (λ x. answers x y) xs
  met spans starts xs w k l =
      ap (λ c. (y.asks && nat_lt y.first y.end) && c)
      (ap (λ c. c || any_above starts y over_all) (reached (spanned t) spans xs y above_first k)
      ∙ ap (λ c. list_any (λ x. list_any (λ v. is_among v (spanned t x)) above_first && gives x y.thread.0 y.need) xs || c) (reached (started t) starts xs y over_all l)
      ∙ sym (any_or (λ x. list_any (λ v. is_among v (spanned t x)) above_first && gives x y.thread.0 y.need)
      (λ x. list_any (λ v. is_among v (started t x)) over_all && gives x y.thread.0 y.need) xs))
      ∙ sym (any_and (y.asks && nat_lt y.first y.end) by_nodes xs)
      ∙ any_same_on (IsWithin t) (λ x. (y.asks && nat_lt y.first y.end) && by_nodes x) (λ x. answers x y) xs w one
