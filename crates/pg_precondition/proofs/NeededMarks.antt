-- Marks of needed nodes, set from the last node to the first.
use Rattle.std.proofs.Common.{◌≡◌, ℕ, zero, suc, ◌+◌, ◌<◌, ◌≤◌, ◌==◌, ◌⊎◌, inl, inr, Bool, true, false, List, [], ◌∷◌, ◌++◌, length, map, replicate}
use Rattle.std.proofs.Common.{take, Some, refl, sym, ap, ◌∙◌, subst, arith}
use Rattle.std.specs.Prelude.{◌||◌, slice_get, slice_index_or}
use Rattle.std.proofs.lemmas.Bool.{cases_lt, or_cases, or_left, or_right, true≢false}
use Rattle.std.proofs.lemmas.List.Folds.{list_any-append}
use Rattle.std.proofs.lemmas.List.{map_push, take_all, take_more}
use Rattle.pg_precondition.specs.declared.check.Check.{Check}
use Rattle.pg_precondition.specs.declared.node.Node.{Node}
use Rattle.pg_precondition.specs.declared.node.Node.TheVariants as node
use Rattle.pg_precondition.specs.Nodes.{Conditions, IsNode}
use Rattle.pg_precondition.specs.Marks.{AreClosed, AreMarks, Marked, is_set, names_if, node_of}
use Rattle.pg_precondition.specs.Names.{IsChecked, IsNeeded, is_among, names_of}
use Rattle.pg_precondition.proofs.NumberedLists.{take_get, among_cases, among_first, among_rest, below_more, below_one, below_take, get_below}

or_assoc : (a b c : Bool) → ((a || b) || c) ≡ (a || (b || c))
or_assoc true b c = refl
or_assoc false b c = refl

or_none : (a : Bool) → a ≡ (a || false)
or_none true = refl
or_none false = refl

pub marked_none : (marks : List Bool) → Marked marks marks []
marked_none marks i = or_none (is_set marks i)

pub marked_append : (old mid more : List Bool) (xs ys : List ℕ) → Marked old mid xs → Marked mid more ys → Marked old more (xs ++ ys)
marked_append old mid more xs ys f g i =
    g i ∙ ap (λ b. b || is_among i ys) (f i) ∙ or_assoc (is_set old i) (is_among i xs) (is_among i ys) ∙ ap (λ b. is_set old i || b) (sym (list_any-append (λ a. a == i) xs ys))

pub parts_next : (old mid more : List Bool) (parts : List ℕ) (i : ℕ) → i < length parts → Marked old mid (take i parts) → Marked mid more (slice_index_or parts i 0 ∷ [])
    → Marked old more (take (i + 1) parts)
parts_next old mid more parts i l f g = subst (Marked old more) (sym (take_more parts i 0 l)) (marked_append old mid more (take i parts) (slice_index_or parts i 0 ∷ []) f g)

pub checks_next : (old mid more : List Bool) (checks : List Check) (i : ℕ) (k : Check) → slice_get checks i ≡ Some k → Marked old mid (map node_of (take i checks))
    → Marked mid more (k.node ∷ []) → Marked old more (map node_of (take (i + 1) checks))
checks_next old mid more checks i k h f g =
    subst (Marked old more) (sym (ap (map node_of) (take_get checks i k h) ∙ map_push node_of (take i checks) k)) (marked_append old mid more (map node_of (take i checks)) (k.node ∷ []) f g)

pub checks_whole : (old more : List Bool) (checks : List Check) (i : ℕ) → length checks ≤ i → Marked old more (map node_of (take i checks)) → Marked old more (map node_of checks)
checks_whole old more checks i l f = subst (λ ks. Marked old more (map node_of ks)) (take_all i checks l) f

-- a node names nodes before it
pub names_below : (k i : ℕ) (n : Node) → IsNode k n → is_among i (names_of n) ≡ true → i < k
names_below k i (node.Const m) h e = absurd (true≢false (sym e))
names_below k i (node.In a) h e = below_one k a i h e
names_below k i node.InLen h e = absurd (true≢false (sym e))
names_below k i (node.Op op w a b) h e = below_more k a i (b ∷ []) h.0 (below_one k b i h.1) e
names_below k i (node.Cast cast from to a) h e = below_one k a i h.0 e
names_below k i (node.Select c a b) h e = below_more k c i (a ∷ b ∷ []) h.0 (below_more k a i (b ∷ []) h.1 (below_one k b i h.2)) e
names_below k i (node.Gep base delta) h e = below_more k base i (delta ∷ []) h.0 (below_one k delta i h.1) e
names_below k i (node.Byte a at) h e = below_one k a i h.0 e
names_below k i (node.Join parts count) h e = below_take k i count parts h.0.names e

-- ---- checks

among_checks : (checks : List Check) (i : ℕ) → is_among i (map node_of checks) ≡ true → IsChecked checks i
among_checks [] i h = absurd (true≢false (sym h))
among_checks (c ∷ checks) i h = go (among_cases i c.node (map node_of checks) h) (among_checks checks i)
  where
    go : (c.node ≡ i) ⊎ (is_among i (map node_of checks) ≡ true) → (is_among i (map node_of checks) ≡ true → IsChecked checks i) → IsChecked (c ∷ checks) i
    go (inl e) f = record { number = 0; check = c; at = refl; names = e }
    go (inr e) f = let k = f e in record { number = suc k.number; check = k.check; at = k.at; names = k.names }

checked_among : (checks : List Check) (j : ℕ) (c : Check) (i : ℕ) → slice_get checks j ≡ Some c → c.node ≡ i → is_among i (map node_of checks) ≡ true
checked_among [] j c i h e = absurd (cc)
checked_among (d ∷ checks) zero c i h e = let q : d ≡ c = cc in among_first i d.node (map node_of checks) (ap node_of q ∙ e)
checked_among (d ∷ checks) (suc j) c i h e = among_rest i d.node (map node_of checks) (checked_among checks j c i h e)

unset : (n i : ℕ) → is_set (replicate n false) i ≡ false
unset zero i = refl
unset (suc n) zero = refl
unset (suc n) (suc i) = unset n i

-- the marks of the checks
pub marks_begin : (c : Conditions) (none marks : List Bool) → none ≡ replicate (length c.nodes) false → length marks ≡ length c.nodes → Marked none marks (map node_of c.checks)
    → AreMarks c marks (length c.nodes)
marks_begin c none marks e l m = record {
  as_many = l;
  sound = λ i h. (0, among_checks c.checks i (sym (only i) ∙ h));
  checks = λ i k. only i ∙ checked_among c.checks k.number k.check i k.at k.names;
  closed = λ i n at h le a q. absurd (let b = get_below c.nodes i n at in omega (arith, b, le));
}
  where
    only : (i : ℕ) → is_set marks i ≡ is_among i (map node_of c.checks)
    only i = m i ∙ ap (λ b. b || is_among i (map node_of c.checks)) (ap (λ l. is_set l i) e ∙ unset (length c.nodes) i)

-- ---- one node further down

module _ (c : Conditions) (marks more : List Bool) (i : ℕ) (n : Node) (at : slice_get c.nodes i ≡ Some n) (is : IsNode i n) (m : AreMarks c marks (i + 1))
    (marked : Marked marks more (names_if (is_set marks i) (slice_get c.nodes i))) where
  marked_now : (j : ℕ) → is_set more j ≡ (is_set marks j || is_among j (names_if (is_set marks i) (Some n)))
  marked_now j = marked j ∙ ap (λ o. is_set marks j || is_among j (names_if (is_set marks i) o)) at

  stays : (j : ℕ) → is_set marks j ≡ true → is_set more j ≡ true
  stays j h = marked_now j ∙ or_left (is_set marks j) (is_among j (names_if (is_set marks i) (Some n))) h

  -- a new mark is of a node that node i names, which is marked
  new_mark : (j : ℕ) (b : Bool) → is_set marks i ≡ b → is_among j (names_if b (Some n)) ≡ true → (is_set marks i ≡ true) × (is_among j (names_of n) ≡ true)
  new_mark j true e h = (e, h)
  new_mark j false e h = absurd (true≢false (sym h))

  was : (j : ℕ) → is_set more j ≡ true → (is_set marks j ≡ true) ⊎ ((is_set marks i ≡ true) × (is_among j (names_of n) ≡ true))
  was j h = go (or_cases (is_set marks j) (is_among j (names_if (is_set marks i) (Some n))) (sym (marked_now j) ∙ h))
    where
      go : (is_set marks j ≡ true) ⊎ (is_among j (names_if (is_set marks i) (Some n)) ≡ true) → (is_set marks j ≡ true) ⊎ ((is_set marks i ≡ true) × (is_among j (names_of n) ≡ true))
      go (inl e) = inl e
      go (inr e) = inr (new_mark j (is_set marks i) refl e)

  -- from node i on no mark is new
  old_mark : (j : ℕ) → i ≤ j → is_set more j ≡ true → is_set marks j ≡ true
  old_mark j le h = go (was j h)
    where
      go : (is_set marks j ≡ true) ⊎ ((is_set marks i ≡ true) × (is_among j (names_of n) ≡ true)) → is_set marks j ≡ true
      go (inl e) = e
      go (inr e) = let l = names_below i j n is e.1 in absurd (omega (arith, l, le))

  needed_more : (j : ℕ) → (is_set marks j ≡ true) ⊎ ((is_set marks i ≡ true) × (is_among j (names_of n) ≡ true)) → IsNeeded c j
  needed_more j (inl e) = m.sound j e
  needed_more j (inr e) = let k = m.sound i e.0 in (suc k.0, (i, k.1, record { by_node = n; at = at; names = e.1 }))

  named_set : (a : ℕ) (b : Bool) → is_set marks i ≡ b → b ≡ true → is_among a (names_of n) ≡ true → is_set more a ≡ true
  named_set a true e h q = marked_now a ∙ ap (λ b. is_set marks a || is_among a (names_if b (Some n))) e ∙ or_right (is_set marks a) (is_among a (names_of n)) q
  named_set a false e h q = absurd (true≢false (sym h))

  closed_more : AreClosed c.nodes more i
  closed_more j k got h le a q = go (cases_lt i j)
    where
      old : is_set marks j ≡ true
      old = old_mark j (omega (arith, le)) h

      go : (i < j) ⊎ (j ≤ i) → is_set more a ≡ true
      go (inl lt) = stays a (m.closed j k got old (omega (arith, lt)) a q)
      go (inr ge) =
          let e : j ≡ i = omega (arith, le, ge) in
          let s : Some k ≡ Some n = sym got ∙ ap (slice_get c.nodes) e ∙ at in
          let t : k ≡ n = cc in
          named_set a (is_set marks i) refl (ap (is_set marks) (sym e) ∙ old) (ap (λ x. is_among a (names_of x)) (sym t) ∙ q)

  pub marks_more : length more ≡ length marks → AreMarks c more i
  marks_more l = record {
    as_many = l ∙ m.as_many;
    sound = λ j h. needed_more j (was j h);
    checks = λ j k. stays j (m.checks j k);
    closed = closed_more;
  }
