-- Kept nodes have the numbers that they had.
use Rattle.std.proofs.Common.{◌≡◌, ℕ, ℤ, zero, suc, ◌+◌, ◌*◌, ◌%◌, ◌^◌, ◌<◌, ◌≤◌, ◌⊎◌, inl, inr, Bool, true, false, List, [], ◌∷◌, ◌++◌}
use Rattle.std.proofs.Common.{length, map, take, drop, Option, Some, None, refl, sym, ap, ◌∙◌, subst, arith}
use Rattle.std.specs.Prelude.{◌&&◌, IfSome, slice_get, if◌then◌else◌}
use Rattle.std.specs.List.{list_all, AllByRecursion}
use Rattle.std.proofs.lemmas.Bool.{cases_lt, true≢false}
use Rattle.std.proofs.lemmas.List.{get_or_append_left, get_or_at, length_push}
use Rattle.pg_precondition.specs.declared.check.Check.{Check}
use Rattle.pg_precondition.specs.declared.node.Node.{Node}
use Rattle.pg_precondition.specs.declared.node.Node.TheVariants as node
use Rattle.pg_precondition.specs.Nodes.{AreNodes, IsNode}
use Rattle.pg_precondition.specs.Values.{holds, is_met, joined, node_number, number_of, numbers_behind, numbers_of, with_both}
use Rattle.pg_precondition.specs.Kept.{kept, renamed, renamed_check}
use Rattle.pg_precondition.specs.Marks.{AreClosed, is_set, place}
use Rattle.pg_precondition.specs.Names.{is_among, names_of}
use Rattle.pg_precondition.proofs.NumberedLists.{among_first, among_rest, get_below}
use Rattle.pg_precondition.proofs.NeededMarks.{names_below}
use Rattle.pg_precondition.proofs.MarkPlaces.{place_lt, place_more, place_zero}

module _ (f : ℕ → ℕ) (known other : List (Option ℕ)) where
  joined_same : (xs : List ℕ) (n : ℕ) → ((a : ℕ) → is_among a (take n xs) ≡ true → number_of known a ≡ number_of other (f a))
      → joined known xs n ≡ joined other (map f (take n xs) ++ drop n xs) n
  unfolding joined
  joined_same xs zero h = refl
  joined_same [] (suc n) h = refl
  joined_same (x ∷ xs) (suc n) h =
      let ih = joined_same xs n (λ a e. h a (among_rest a x (take n xs) e)) in
      ap (λ o. with_both o (joined known xs n) (λ byte rest. Some (rest * 2 ^ 8 + byte % 2 ^ 8))) (h x (among_first x x (take n xs) refl))
      ∙ ap (λ o. with_both (number_of other (f x)) o (λ byte rest. Some (rest * 2 ^ 8 + byte % 2 ^ 8))) ih

  node_same : (input : List ℤ) (n : Node) → ((a : ℕ) → is_among a (names_of n) ≡ true → number_of known a ≡ number_of other (f a))
      → node_number input known n ≡ node_number input other (renamed f n)
  node_same input (node.Const m) h = refl
  node_same input (node.In a) h = let e = h a (among_first a a [] refl) in rw e refl
  node_same input node.InLen h = refl
  node_same input (node.Op op w a b) h =
      let e = h a (among_first a a (b ∷ []) refl) in
      let g = h b (among_rest b a (b ∷ []) (among_first b b [] refl)) in
      rw (e, g) refl
  node_same input (node.Cast cast from to a) h = let e = h a (among_first a a [] refl) in rw e refl
  node_same input (node.Select c a b) h =
      let d = h c (among_first c c (a ∷ b ∷ []) refl) in
      let e = h a (among_rest a c (a ∷ b ∷ []) (among_first a a (b ∷ []) refl)) in
      let g = h b (among_rest b c (a ∷ b ∷ []) (among_rest b a (b ∷ []) (among_first b b [] refl))) in
      rw (d, e, g) refl
  node_same input (node.Gep base delta) h =
      let e = h base (among_first base base (delta ∷ []) refl) in
      let g = h delta (among_rest delta base (delta ∷ []) (among_first delta delta [] refl)) in
      rw (e, g) refl
  node_same input (node.Byte a at) h = let e = h a (among_first a a [] refl) in rw e refl
  node_same input (node.Join parts count) h = joined_same parts count h

drop_next : {A : Type 0} (xs : List A) (i : ℕ) (y : A) (ys : List A) → drop i xs ≡ y ∷ ys → (slice_get xs i ≡ Some y) × (drop (i + 1) xs ≡ ys)
drop_next [] zero y ys h = absurd (cc)
drop_next [] (suc i) y ys h = absurd (cc)
drop_next (x ∷ xs) zero y ys h = let q : x ≡ y = cc in let p : xs ≡ ys = cc in (ap Some q, p)
drop_next (x ∷ xs) (suc i) y ys h = let e : suc i + 1 ≡ suc (i + 1) = omega arith in let r = drop_next xs i y ys h in (r.0, ap (λ k. drop k (x ∷ xs)) e ∙ r.1)

set_at : (marks : List Bool) (i : ℕ) (m : Bool) → slice_get marks i ≡ Some m → is_set marks i ≡ m
set_at [] i m h = absurd (cc)
set_at (x ∷ marks) zero m h = cc
set_at (x ∷ marks) (suc i) m h = set_at marks i m h

drop_none : {A : Type 0} (xs : List A) (i : ℕ) → i < length xs → drop i xs ≡ [] → ⊥
drop_none [] i l h = omega (arith, l)
drop_none (x ∷ xs) zero l h = cc
drop_none (x ∷ xs) (suc i) l h = drop_none xs i (omega (arith, l)) h

pub node_at : (nodes : List Node) (i : ℕ) (n : Node) → AreNodes nodes → slice_get nodes i ≡ Some n → IsNode i n
node_at nodes i n are h = subst (λ o. IfSome o (λ n. IsNode i n)) h (are.names i)

module _ (input : List ℤ) (f : ℕ → ℕ) (M : List Bool) (N : List Node) (as_many : length M ≡ length N) (are : AreNodes N) (closed : AreClosed N M 0)
    (places : (i : ℕ) → i < length M → f i ≡ place M i) where
  -- marked nodes below the known ones have the same number
  abbrev Agree : ℕ → List (Option ℕ) → List (Option ℕ) → Type 0
  Agree k known other = (a : ℕ) → is_set M a ≡ true → a < k → number_of known a ≡ number_of other (f a)

  set_below : (a : ℕ) → is_set M a ≡ true → a < length M
  set_below a h = by M a h
    where
      by : (marks : List Bool) (a : ℕ) → is_set marks a ≡ true → a < length marks
      by [] a h = absurd (true≢false (sym h))
      by (m ∷ marks) zero h = omega arith
      by (m ∷ marks) (suc a) h = let l = by marks a h in omega (arith, l)

  -- one more known number on the one side, and one more on the other if it is marked
  agree_more : (known other : List (Option ℕ)) (n : Node) (m : Bool) → slice_get N (length known) ≡ Some n → is_set M (length known) ≡ m → length other ≡ place M (length known)
      → Agree (length known) known other →
      Agree (length known + 1) (known ++ node_number input known n ∷ []) (if m then other ++ node_number input other (renamed f n) ∷ [] else other)
  agree_more known other n m at s l g a set' lt = go m s (cases_lt a (length known))
    where
      low : a < length known → f a < length other
      low h = let p = place_lt M a (length known) h set' in let q = places a (set_below a set') in omega (arith, p, q, l)

      go : (m : Bool) → is_set M (length known) ≡ m → (a < length known) ⊎ (length known ≤ a)
          → number_of (known ++ node_number input known n ∷ []) a ≡ number_of (if m then other ++ node_number input other (renamed f n) ∷ [] else other) (f a)
      go true s (inl h) = get_or_append_left known (node_number input known n ∷ []) None a h ∙ g a set' h
          ∙ sym (get_or_append_left other (node_number input other (renamed f n) ∷ []) None (f a) (low h))
      go false s (inl h) = get_or_append_left known (node_number input known n ∷ []) None a h ∙ g a set' h
      go true s (inr h) =
          let e : length known ≡ a = omega (arith, h, lt) in
          let q = places a (set_below a set') in
          let k : length other ≡ f a = l ∙ ap (place M) e ∙ sym q in
          get_or_at known (node_number input known n) [] None a e
          ∙ node_same f known other input n (λ b w. g b (closed (length known) n at s (omega arith) b w) (names_below (length known) b n (node_at N (length known) n are at) w))
          ∙ sym (get_or_at other (node_number input other (renamed f n)) [] None (f a) k)
      go false s (inr h) =
          let e : length known ≡ a = omega (arith, h, lt) in
          absurd (true≢false (sym set' ∙ sym (ap (is_set M) e) ∙ s))

  length_more : (known other : List (Option ℕ)) (n : Node) (m : Bool) → is_set M (length known) ≡ m → length other ≡ place M (length known)
      → length (if m then other ++ node_number input other (renamed f n) ∷ [] else other) ≡ place M (length known + 1)
  length_more known other n true s l = length_push other (node_number input other (renamed f n))
      ∙ (let p = place_more M (length known) ∙ ap (λ b. if b then suc (place M (length known)) else place M (length known)) s in omega (arith, p, l))
  length_more known other n false s l = l ∙ sym (place_more M (length known) ∙ ap (λ b. if b then suc (place M (length known)) else place M (length known)) s)

  behind : (nodes : List Node) (marks : List Bool) (known other : List (Option ℕ)) → drop (length known) N ≡ nodes → drop (length known) M ≡ marks
      → length other ≡ place M (length known) → Agree (length known) known other →
      Agree (length known + length nodes) (numbers_behind input known nodes) (numbers_behind input other (kept f marks nodes))
  unfolding numbers_behind
  behind [] [] known other dn dm l g a s lt = g a s (omega (arith, lt))
  behind [] (m ∷ marks) known other dn dm l g a s lt = g a s (omega (arith, lt))
  behind (n ∷ nodes) [] known other dn dm l g a s lt =
      let p = drop_next N (length known) n nodes dn in
      let b = get_below N (length known) n p.0 in
      absurd (drop_none M (length known) (omega (arith, b, as_many)) dm)
  behind (n ∷ nodes) (m ∷ marks) known other dn dm l g a s lt =
      go m refl (λ other' l' g'.
      behind nodes marks (known ++ node_number input known n ∷ []) other' (ap (λ i. drop i N) k ∙ p.1) (ap (λ i. drop i M) k ∙ q.1) (l' ∙ sym (ap (place M) k))
      (λ b set' below. g' b set' (omega (arith, below, k))) a s (omega (arith, lt, k)))
    where
      k : length (known ++ node_number input known n ∷ []) ≡ length known + 1
      k = length_push known (node_number input known n)

      p : (slice_get N (length known) ≡ Some n) × (drop (length known + 1) N ≡ nodes)
      p = drop_next N (length known) n nodes dn

      q : (slice_get M (length known) ≡ Some m) × (drop (length known + 1) M ≡ marks)
      q = drop_next M (length known) m marks dm

      go : (b : Bool) → m ≡ b →
          ((other' : List (Option ℕ)) → length other' ≡ place M (length known + 1) → Agree (length known + 1) (known ++ node_number input known n ∷ []) other' →
          number_of (numbers_behind input (known ++ node_number input known n ∷ []) nodes) a ≡ number_of (numbers_behind input other' (kept f marks nodes)) (f a)) →
          number_of (numbers_behind input (known ++ node_number input known n ∷ []) nodes) a ≡ number_of (numbers_behind input other (kept f (m ∷ marks) (n ∷ nodes))) (f a)
      go true e rest =
          let t = set_at M (length known) m q.0 ∙ e in
          rest (other ++ node_number input other (renamed f n) ∷ []) (length_more known other n true t l) (agree_more known other n true p.0 t l g)
          ∙ sym (ap (λ b. number_of (numbers_behind input other (kept f (b ∷ marks) (n ∷ nodes))) (f a)) e)
      go false e rest =
          let t = set_at M (length known) m q.0 ∙ e in
          rest other (length_more known other n false t l) (agree_more known other n false p.0 t l g)
          ∙ sym (ap (λ b. number_of (numbers_behind input other (kept f (b ∷ marks) (n ∷ nodes))) (f a)) e)

  -- the number of a marked node
  kept_number : (a : ℕ) → is_set M a ≡ true → number_of (numbers_of input N) a ≡ number_of (numbers_of input (kept f M N)) (f a)
  kept_number a s = behind N M [] [] refl refl (sym (place_zero M)) (λ b t lt. absurd (omega (arith, lt))) a s (let l = set_below a s in omega (arith, l, as_many))

  pub checks_same : (checks : List Check) → AllByRecursion (λ (c : Check). is_set M c.node ≡ true) checks
      → list_all (holds (numbers_of input (kept f M N))) (map (renamed_check f) checks) ≡ list_all (holds (numbers_of input N)) checks
  checks_same [] h = refl
  checks_same (c ∷ checks) h =
      ap (λ o. is_met c.test o && list_all (holds (numbers_of input (kept f M N))) (map (renamed_check f) checks)) (sym (kept_number c.node h.0))
      ∙ ap (λ b. holds (numbers_of input N) c && b) (checks_same checks h.1)
