-- The last turn of a thread among the first ones, and its next turn.
use Rattle.std.proofs.Common.{◌≡◌, ℕ, ◌==◌, ◌<◌, ◌≤◌, ◌⊎◌, Bool, true, false, cond, List, [], ◌∷◌, length, Option, Some, None, refl, sym, ap, ◌∙◌}
use Rattle.std.proofs.Common.{arith, zero, suc, inl, inr}
use Rattle.std.specs.Prelude.{slice_get}
use Rattle.std.proofs.lemmas.Bool.{true≢false, eqb-true, eqb-false, eq-eqb, ne_eqb, cases_eq, cases_lt, cases_order}
use Rattle.pg_law_threads.specs.Intervals.{is_of, last_before, next_from}

pub is_of_some : (u : ℕ) (o : Option ℕ) → is_of u o ≡ true → o ≡ Some u
is_of_some u None h = absurd (true≢false (sym h))
is_of_some u (Some v) h = ap Some (sym (eqb-true u v h))

pub some_is_of : (u : ℕ) (o : Option ℕ) → o ≡ Some u → is_of u o ≡ true
some_is_of u o h = rw h (eq-eqb u u refl)

pub not_of : (u : ℕ) (o : Option ℕ) → (o ≡ Some u → ⊥) → is_of u o ≡ false
not_of u None h = refl
not_of u (Some v) h = ne_eqb u v (λ e. h (ap Some (sym e)))

-- a turn has one owner
pub one_owner : (T : List ℕ) (i j u v : ℕ) → i ≡ j → slice_get T i ≡ Some u → slice_get T j ≡ Some v → u ≡ v
one_owner T i j u v e h k = let z = rw e at h in cc

pub owner_below : (T : List ℕ) (i u : ℕ) → slice_get T i ≡ Some u → i < length T
owner_below [] i u h = absurd (cc)
owner_below (o ∷ T) zero u h = omega arith
owner_below (o ∷ T) (suc i) u h = let ih = owner_below T i u h in omega (arith, ih)

-- each turn below another has an owner
pub owner_of : (T : List ℕ) (i : ℕ) → i < length T → (v : ℕ) × (slice_get T i ≡ Some v)
owner_of [] i h = absurd (omega arith)
owner_of (o ∷ T) zero h = (o, refl)
owner_of (o ∷ T) (suc i) h = owner_of T i (omega arith)

module _ (u : ℕ) (T : List ℕ) where
  -- ---- the last turn

  pub last_up : (k : ℕ) → last_before u T k ≤ k
  last_up zero = omega arith
  last_up (suc k) = go (is_of u (slice_get T k)) (last_up k)
    where
      go : (e : Bool) → last_before u T k ≤ k → cond e (suc k) (last_before u T k) ≤ suc k
      go true h = omega arith
      go false h = omega arith

  pub last_own : (k : ℕ) → slice_get T k ≡ Some u → last_before u T (suc k) ≡ suc k
  last_own k h = rw (some_is_of u (slice_get T k) h) refl

  pub last_other : (k : ℕ) → (slice_get T k ≡ Some u → ⊥) → last_before u T (suc k) ≡ last_before u T k
  last_other k h = rw (not_of u (slice_get T k) h) refl

  -- a turn of the thread among them isn't beyond the last one
  pub last_of_own : (k i : ℕ) → i < k → slice_get T i ≡ Some u → i < last_before u T k
  last_of_own zero i lt h = absurd (omega arith)
  last_of_own (suc k) i lt h = go (λ l. last_of_own k i l h) (cases_eq i k) (is_of u (slice_get T k)) refl
    where
      go : (i < k → i < last_before u T k) → (i ≡ k) ⊎ (i ≡ k → ⊥) → (e : Bool) → is_of u (slice_get T k) ≡ e → i < cond (is_of u (slice_get T k)) (suc k) (last_before u T k)
      go ih c true w = rw w lt
      go ih (inl e) false w = absurd (true≢false (sym (some_is_of u (slice_get T k) (rw e at h)) ∙ w))
      go ih (inr n) false w = rw w (ih (omega arith))

  -- the last turn is the thread's
  pub last_is : (k j : ℕ) → last_before u T k ≡ suc j → (slice_get T j ≡ Some u) × (j < k)
  last_is zero j h = absurd (omega arith)
  last_is (suc k) j h = go (λ q. last_is k j q) (is_of u (slice_get T k)) refl h
    where
      go : (last_before u T k ≡ suc j → (slice_get T j ≡ Some u) × (j < k)) → (e : Bool) → is_of u (slice_get T k) ≡ e → cond e (suc k) (last_before u T k) ≡ suc j
          → (slice_get T j ≡ Some u) × (j < suc k)
      go ih true w q = let e : j ≡ k = omega arith in rw e (is_of_some u (slice_get T k) w, omega arith)
      go ih false w q = let r = ih q in let l = r.1 in (r.0, omega (arith, l))

  pub last_grows : (a b : ℕ) → a ≤ b → last_before u T a ≤ last_before u T b
  last_grows a zero le = let e : a ≡ 0 = omega arith in rw e (omega arith)
  last_grows a (suc b) le = go (λ l. last_grows a b l) (cases_eq a (suc b)) (is_of u (slice_get T b)) refl
    where
      go : (a ≤ b → last_before u T a ≤ last_before u T b) → (a ≡ suc b) ⊎ (a ≡ suc b → ⊥) → (e : Bool) → is_of u (slice_get T b) ≡ e
          → last_before u T a ≤ cond (is_of u (slice_get T b)) (suc b) (last_before u T b)
      go ih (inl q) e w = let z : last_before u T a ≤ last_before u T (suc b) = rw q (omega arith) in z
      go ih (inr n) true w = let h = last_up a in rw w (omega (arith, h))
      go ih (inr n) false w = rw w (ih (omega arith))

  -- between a and b the last turn changes only by a turn of the thread
  pub last_same : (a b : ℕ) → a ≤ b → ((i : ℕ) → a ≤ i → i < b → slice_get T i ≡ Some u → ⊥) → last_before u T a ≡ last_before u T b
  last_same a zero le h = let e : a ≡ 0 = omega arith in rw e refl
  last_same a (suc b) le h = go (λ l. last_same a b l (λ i x y. h i x (omega arith))) (cases_eq a (suc b))
    where
      go : (a ≤ b → last_before u T a ≡ last_before u T b) → (a ≡ suc b) ⊎ (a ≡ suc b → ⊥) → last_before u T a ≡ last_before u T (suc b)
      go ih (inl q) = ap (last_before u T) q
      go ih (inr n) = ih (omega arith) ∙ sym (last_other b (h b (omega arith) (omega arith)))

-- ---- the next turn

pub next_from_end : (u : ℕ) (T : List ℕ) (k : ℕ) → next_from u T k ≤ length T
next_from_end u [] k = omega arith
next_from_end u (o ∷ T) zero = go (u == o) (next_from_end u T zero)
  where
    go : (e : Bool) → next_from u T 0 ≤ length T → cond e 0 (suc (next_from u T 0)) ≤ length (o ∷ T)
    go true h = omega arith
    go false h = omega arith
next_from_end u (o ∷ T) (suc k) = let ih = next_from_end u T k in omega (arith, ih)

pub next_up : (u : ℕ) (T : List ℕ) (k : ℕ) → k ≤ length T → k ≤ next_from u T k
next_up u [] k h = h
next_up u (o ∷ T) zero h = omega arith
next_up u (o ∷ T) (suc k) h = let ih = next_up u T k (omega arith) in omega (arith, ih)

-- it is the thread's, or there is none
pub next_is : (u : ℕ) (T : List ℕ) (k : ℕ) → (slice_get T (next_from u T k) ≡ Some u) ⊎ (next_from u T k ≡ length T)
next_is u [] k = inr refl
next_is u (o ∷ T) zero = go (u == o) refl (next_is u T 0)
  where
    go : (e : Bool) → (u == o) ≡ e → (slice_get T (next_from u T 0) ≡ Some u) ⊎ (next_from u T 0 ≡ length T)
        → (slice_get (o ∷ T) (cond (u == o) 0 (suc (next_from u T 0))) ≡ Some u) ⊎ (cond (u == o) 0 (suc (next_from u T 0)) ≡ suc (length T))
    go true w h = rw w (inl (ap Some (sym (eqb-true u o w))))
    go false w (inl h) = rw w (inl h)
    go false w (inr h) = rw w (inr (ap suc h))
next_is u (o ∷ T) (suc k) = go (next_is u T k)
  where
    go : (slice_get T (next_from u T k) ≡ Some u) ⊎ (next_from u T k ≡ length T) → (slice_get T (next_from u T k) ≡ Some u) ⊎ (suc (next_from u T k) ≡ suc (length T))
    go (inl h) = inl h
    go (inr h) = inr (ap suc h)

-- no turn of the thread stands before it
pub next_least : (u : ℕ) (T : List ℕ) (k i : ℕ) → k ≤ i → i < next_from u T k → slice_get T i ≡ Some u → ⊥
next_least u [] k i le lt h = absurd (omega arith)
next_least u (o ∷ T) zero i le lt h = go (λ j l. next_least u T 0 j (omega arith) l) (u == o) refl i lt h
  where
    go : ((j : ℕ) → j < next_from u T 0 → slice_get T j ≡ Some u → ⊥) → (e : Bool) → (u == o) ≡ e → (i : ℕ) → i < cond (u == o) 0 (suc (next_from u T 0))
        → slice_get (o ∷ T) i ≡ Some u → ⊥
    go ih true w i l q = let z = rw w at l in absurd (omega arith)
    go ih false w zero l q = eqb-false u o w (cc)
    go ih false w (suc i) l q = let z = rw w at l in ih i (omega arith) q
next_least u (o ∷ T) (suc k) zero le lt h = absurd (omega arith)
next_least u (o ∷ T) (suc k) (suc i) le lt h = next_least u T k i (omega arith) (omega arith) h

module _ (u : ℕ) (T : List ℕ) where
  pub next_own : (k : ℕ) → slice_get T k ≡ Some u → next_from u T k ≡ k
  next_own k h =
      let l = owner_below T k u h in
      let up = next_up u T k (omega (arith, l)) in
      go (cases_lt k (next_from u T k)) up
    where
      go : (k < next_from u T k) ⊎ (next_from u T k ≤ k) → k ≤ next_from u T k → next_from u T k ≡ k
      go (inl lt) up = absurd (next_least u T k k (omega arith) lt h)
      go (inr le) up = omega arith

  -- a turn of the thread from k on isn't before the next one
  pub next_of_own : (k i : ℕ) → k ≤ i → slice_get T i ≡ Some u → next_from u T k ≤ i
  next_of_own k i le h = go (cases_lt i (next_from u T k))
    where
      go : (i < next_from u T k) ⊎ (next_from u T k ≤ i) → next_from u T k ≤ i
      go (inl lt) = absurd (next_least u T k i le lt h)
      go (inr ge) = ge

  -- between a and b the next turn changes only at a turn of the thread
  pub next_same : (a b : ℕ) → a ≤ b → b ≤ length T → ((i : ℕ) → a ≤ i → i < b → slice_get T i ≡ Some u → ⊥) → next_from u T a ≡ next_from u T b
  next_same a b le end h =
      let x = next_from u T a in
      let y = next_from u T b in
      let x_up = next_up u T a (omega arith) in
      let y_up = next_up u T b end in
      let x_end = next_from_end u T a in
      let y_end = next_from_end u T b in
      go (cases_order x y) (next_is u T a) (next_is u T b) x_up y_up x_end y_end
    where
      go : (next_from u T a ≡ next_from u T b) ⊎ ((next_from u T a < next_from u T b) ⊎ (next_from u T b < next_from u T a)) →
          (slice_get T (next_from u T a) ≡ Some u) ⊎ (next_from u T a ≡ length T) → (slice_get T (next_from u T b) ≡ Some u) ⊎ (next_from u T b ≡ length T) →
          a ≤ next_from u T a → b ≤ next_from u T b → next_from u T a ≤ length T → next_from u T b ≤ length T → next_from u T a ≡ next_from u T b
      go (inl e) p q xu yu xe ye = e
      go (inr (inl lt)) (inr p) q xu yu xe ye = absurd (omega arith)
      go (inr (inl lt)) (inl p) q xu yu xe ye = early (cases_lt (next_from u T a) b)
        where
          early : (next_from u T a < b) ⊎ (b ≤ next_from u T a) → next_from u T a ≡ next_from u T b
          early (inl l) = absurd (h (next_from u T a) xu l p)
          early (inr g) = absurd (next_least u T b (next_from u T a) g lt p)
      go (inr (inr gt)) p (inr q) xu yu xe ye = absurd (omega arith)
      go (inr (inr gt)) p (inl q) xu yu xe ye = absurd (next_least u T a (next_from u T b) (omega arith) gt q)

  pub next_other : (k : ℕ) → k < length T → (slice_get T k ≡ Some u → ⊥) → next_from u T k ≡ next_from u T (suc k)
  next_other k l h = next_same k (suc k) (omega arith) (omega arith) (λ i a b q. h (let e : i ≡ k = omega arith in rw e at q))
