-- Of each vertex of a finite graph, the vertices that walks from it meet before another.
use Rattle.std.proofs.Common.{◌≡◌, ◌≢◌, ℕ, zero, suc, ◌+◌, ◌<◌, ◌≤◌, ◌==◌, ◌↔◌, ◌⊎◌, Bool, true, false, List, [], ◌∷◌, get_or, length, refl}
use Rattle.std.proofs.Common.{sym, ap, ◌∙◌, subst, arith, inl, inr}
use Rattle.std.specs.Prelude.{All, Contains}
use Rattle.std.specs.List.Sorted.{IsStrictlyIncreasing}
use Rattle.std.proofs.lemmas.Bool.{cases_eq, cases_lt, eqb-true, or_cases, true≢false}
use Rattle.std.proofs.lemmas.List.Elements.{All-contains, Contains-get_or}
use Rattle.pg_region_accesses.proofs.AscendingSets.{shorter}
use Rattle.pg_region_paths.proofs.Elements.{cases, here, none_in, there}
use Rattle.pg_cfg.specs.Graphs.{EdgeLists, IsReach, Walk, targets_of}
use Rattle.pg_cfg.specs.Graphs.Walk.{first, then}
use Rattle.pg_cfg.specs.Searches.{is_in, members_from}
use Rattle.pg_cfg.proofs.Members.{ascending, members_exact}
use Rattle.pg_law_reference.proofs.MissingNumbers.{added, kept, missing, missing_less, missing_most, with_vertex}
use Rattle.pg_law_reference.proofs.FunctionTables.{table, table_at, table_beyond, table_length}

-- ---- an ascending list of numbers below n has at most n

members_length : (n : ℕ) (set : List Bool) → length (members_from n set) ≤ length set
members_length n [] = omega arith
members_length n (true ∷ set) = let h : length (members_from (n + 1) set) ≤ length set = members_length (n + 1) set in omega (arith, h)
members_length n (false ∷ set) = let h : length (members_from (n + 1) set) ≤ length set = members_length (n + 1) set in omega (arith, h)

ascending_few : (n : ℕ) (xs : List ℕ) → IsStrictlyIncreasing xs → All (λ b. b < n) xs → length xs ≤ n
ascending_few n xs a h =
    let set = table (λ (z : ℕ). true) n in
    let s : length xs ≤ length (members_from 0 set) = shorter (members_from 0 set) xs a (ascending 0 set)
    (λ z c. (members_exact set z).1 (table_at (λ (y : ℕ). true) false n z (All-contains (λ b. b < n) xs z h c))) in
    omega (arith, s, members_length 0 set, table_length (λ (z : ℕ). true) 0 n)

-- ---- the search

abbrev Within : EdgeLists → Type 0
Within g = (a b : ℕ) → Contains (targets_of g a) b → b < length g

module _ (g : EdgeLists) (within : Within g) (a j : ℕ) where
  walk_below : {x : ℕ} → Walk g j a x → x < length g
  walk_below {x} (first e h) = within a x e.leads
  walk_below {x} (then {b = y} w e h) = within y x e.leads

  -- a target that isn't found
  abbrev IsNew : (ℕ → Bool) → List ℕ → ℕ → Type 0
  IsNew f xs x = Contains xs x × (x ≢ j) × (f x ≡ false)

  abbrev AreOld : (ℕ → Bool) → List ℕ → Type 0
  AreOld f xs = (x : ℕ) → Contains xs x → x ≢ j → f x ≡ true

  scan : (f : ℕ → Bool) (xs : List ℕ) → ((x : ℕ) × IsNew f xs x) ⊎ AreOld f xs
  scan f [] = inr (λ x c ne. absurd (none_in x c))
  scan f (y ∷ xs) = go (scan f xs) (cases_eq y j) (f y) refl
    where
      old : AreOld f xs → (y ≢ j → f y ≡ true) → AreOld f (y ∷ xs)
      old h k x c ne = by (cases y xs x c)
        where
          by : (y ≡ x) ⊎ Contains xs x → f x ≡ true
          by (inl e) = subst (λ (z : ℕ). f z ≡ true) e (k (λ q. ne (sym e ∙ q)))
          by (inr d) = h x d ne

      go : ((x : ℕ) × IsNew f xs x) ⊎ AreOld f xs → (y ≡ j) ⊎ (y ≡ j → ⊥) → (b : Bool) → f y ≡ b → ((x : ℕ) × IsNew f (y ∷ xs) x) ⊎ AreOld f (y ∷ xs)
      go (inl n) d b e = inl (n.0, (there y xs n.0 n.1.0, n.1.1, n.1.2))
      go (inr h) (inl d) b e = inr (old h (λ ne. absurd (ne d)))
      go (inr h) (inr d) true e = inr (old h (λ ne. e))
      go (inr h) (inr d) false e = inl (y, (here y xs, d, e))

  -- a found vertex below m with a target that isn't found
  abbrev IsOpen : (ℕ → Bool) → ℕ → ℕ → Type 0
  IsOpen f y x = (f y ≡ true) × IsNew f (targets_of g y) x

  scan_below : (f : ℕ → Bool) (m : ℕ) → ((y : ℕ) × (x : ℕ) × IsOpen f y x) ⊎ ((y : ℕ) → y < m → f y ≡ true → AreOld f (targets_of g y))
  scan_below f zero = inr (λ y lt. absurd (omega (arith, lt)))
  scan_below f (suc m) = go (scan_below f m) (f m) refl (scan f (targets_of g m))
    where
      go : ((y : ℕ) × (x : ℕ) × IsOpen f y x) ⊎ ((y : ℕ) → y < m → f y ≡ true → AreOld f (targets_of g y)) → (b : Bool) → f m ≡ b
          → ((x : ℕ) × IsNew f (targets_of g m) x) ⊎ AreOld f (targets_of g m) →
          ((y : ℕ) × (x : ℕ) × IsOpen f y x) ⊎ ((y : ℕ) → y < suc m → f y ≡ true → AreOld f (targets_of g y))
      go (inl n) b e s = inl n
      go (inr h) true e (inl n) = inl (m, n.0, (e, n.1))
      go (inr h) b e (inr s) = inr (λ y lt t. by y lt t (cases_eq y m))
        where
          by : (y : ℕ) → y < suc m → f y ≡ true → (y ≡ m) ⊎ (y ≡ m → ⊥) → AreOld f (targets_of g y)
          by y lt t (inl q) = subst (λ (z : ℕ). AreOld f (targets_of g z)) (sym q) s
          by y lt t (inr ne) = h y (omega (arith, lt, ne)) t
      go (inr h) false e s = inr (λ y lt t. by y lt t (cases_eq y m))
        where
          by : (y : ℕ) → y < suc m → f y ≡ true → (y ≡ m) ⊎ (y ≡ m → ⊥) → AreOld f (targets_of g y)
          by y lt t (inl q) = absurd (true≢false (sym t ∙ ap f q ∙ e))
          by y lt t (inr ne) = h y (omega (arith, lt, ne)) t

  abbrev Sound : (ℕ → Bool) → Type 0
  Sound f = (x : ℕ) → f x ≡ true → Walk g j a x

  abbrev Found : Type 0
  Found = (f : ℕ → Bool) × ((x : ℕ) → (f x ≡ true) ↔ Walk g j a x)

  complete : (f : ℕ → Bool) → Sound f → AreOld f (targets_of g a) → ((y : ℕ) → y < length g → f y ≡ true → AreOld f (targets_of g y)) → {x : ℕ} → Walk g j a x
      → f x ≡ true
  complete f s h k {x} (first e ne) = h x e.leads ne
  complete f s h k {x} (then {b = y} w e ne) = k y (walk_below w) (complete f s h k w) x e.leads ne

  sound_more : (f : ℕ → Bool) (x : ℕ) → Sound f → Walk g j a x → Sound (with_vertex f x)
  sound_more f x s w z e = go (or_cases (f z) (z == x) e)
    where
      go : (f z ≡ true) ⊎ ((z == x) ≡ true) → Walk g j a z
      go (inl q) = s z q
      go (inr q) = subst (λ (y : ℕ). Walk g j a y) (sym (eqb-true z x q)) w

  abbrev Closed : (ℕ → Bool) → Type 0
  Closed f = AreOld f (targets_of g a) × ((y : ℕ) → y < length g → f y ≡ true → AreOld f (targets_of g y))

  abbrev Reached : (ℕ → Bool) → ℕ → Type 0
  Reached f x = Walk g j a x × (f x ≡ false)

  next : (f : ℕ → Bool) → Sound f → Closed f ⊎ ((x : ℕ) × Reached f x)
  next f s = go (scan f (targets_of g a)) (scan_below f (length g))
    where
      go : ((x : ℕ) × IsNew f (targets_of g a) x) ⊎ AreOld f (targets_of g a)
          → ((y : ℕ) × (x : ℕ) × IsOpen f y x) ⊎ ((y : ℕ) → y < length g → f y ≡ true → AreOld f (targets_of g y)) → Closed f ⊎ ((x : ℕ) × Reached f x)
      go (inl n) q = inr (n.0, (first (record { leads = n.1.0 }) n.1.1, n.1.2))
      go (inr h) (inl n) = inr (n.1, (then (s n.0 n.2.0) (record { leads = n.2.1.0 }) n.2.1.1, n.2.1.2))
      go (inr h) (inr k) = inl (h, k)

  less : (f : ℕ → Bool) (x : ℕ) → Reached f x → missing (with_vertex f x) (length g) < missing f (length g)
  less f x r = missing_less f (with_vertex f x) x (length g) (kept f x) r.1 (added f x) (walk_below r.0)

  done : (f : ℕ → Bool) → Sound f → Closed f → Found
  done f s h = (f, λ x. (s x, λ w. complete f s h.0 h.1 w))

  search : (k : ℕ) (f : ℕ → Bool) → Sound f → missing f (length g) ≤ k → Found
  search zero f s le = by (next f s)
    where
      by : Closed f ⊎ ((x : ℕ) × Reached f x) → Found
      by (inl h) = done f s h
      by (inr r) = absurd (let m = less f r.0 r.1 in omega (arith, m, le))
  search (suc k) f s le = by (λ x r. search k (with_vertex f x) (sound_more f x s r.0) (let m = less f x r in omega (arith, m, le))) (next f s)
    where
      by : ((x : ℕ) → Reached f x → Found) → Closed f ⊎ ((x : ℕ) × Reached f x) → Found
      by more (inl h) = done f s h
      by more (inr r) = more r.0 r.1

  found : Found
  found = search (length g) (λ x. false) (λ x e. absurd (true≢false (sym e))) (missing_most (λ x. false) (length g))

  -- the vertices that walks meet, ascending
  pub reach : (xs : List ℕ) × IsReach g a j xs
  reach = (members_from 0 set, record { ascending = ascending 0 set; exact = exact })
    where
      f : ℕ → Bool
      f = found.0

      set : List Bool
      set = table f (length g)

      exact : (x : ℕ) → Contains (members_from 0 set) x ↔ Walk g j a x
      exact x = (λ c. to ((members_exact set x).0 c) (cases_lt x (length g)), λ w. (members_exact set x).1 (table_at f false (length g) x (walk_below w) ∙ (found.1 x).1 w))
        where
          to : is_in set x ≡ true → (x < length g) ⊎ (length g ≤ x) → Walk g j a x
          to e (inl lt) = (found.1 x).0 (sym (table_at f false (length g) x lt) ∙ e)
          to e (inr le) = absurd (true≢false (sym e ∙ table_beyond f false (length g) x le))

  pub reach_few : (xs : List ℕ) → IsReach g a j xs → length xs ≤ length g
  reach_few xs r = ascending_few (length g) xs r.ascending (λ k d lt. walk_below ((r.exact (get_or xs k d)).0 (Contains-get_or xs k d lt)))
