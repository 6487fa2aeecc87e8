-- Ordered steps have a chain of events between them, and a chain stays where more steps are events.
use Rattle.std.proofs.Common.{◌≡◌, ◌≢◌, ℕ, ◌==◌, ◌<◌, ◌≤◌, ◌⊎◌, Bool, true, false, cond, List, [], ◌∷◌, ◌++◌, length, Some, refl, sym, ap}
use Rattle.std.proofs.Common.{◌∙◌, subst, arith, suc, inl, inr}
use Rattle.std.specs.Prelude.{slice_get, ◌&&◌, ◌||◌}
use Rattle.std.specs.List.{AllByRecursion as AllOf}
use Rattle.std.proofs.lemmas.Bool.{true≢false, eqb-true, eqb-false, eq-eqb, and_parts, and_from, or_cases, or_left, or_right, cases_Bool}
use Rattle.pg_law_threads.specs.Steps.{View, Conflict, EachPair}
use Rattle.pg_law_threads.specs.Intervals.{last_before, next_from, done_after, turns_done, Timed, timed, times, AreTurns, AreOrdered, IsOrdered}
use Rattle.pg_law_threads.specs.Chains.{has_event, has_chain, IsChained, IsFiner, IsOrderedOrEvents}
use Rattle.pg_law_threads.proofs.DoneLists.{cons_head, cons_tail}
use Rattle.pg_law_threads.proofs.LastAndNextTurn.{last_up, last_own, last_other, last_grows, next_up, next_own, next_other, owner_below}
use Rattle.pg_law_threads.proofs.TimedSteps.{after_up, done_up, turns_left_of, within_after, low_high}

module _ {A : Type 0} (V : View A) (T : List ℕ) where
  -- ---- events of one thread

  -- an event of u leaves its last turn beyond k
  last_event : (u k : ℕ) (xs : List A) → AreTurns V T k xs → has_event V u xs ≡ true → k < last_before u T (turns_done V k xs)
  last_event u k [] a h = absurd (true≢false (sym h))
  last_event u k (x ∷ xs) a h = go (or_cases (V.is_event x && (u == V.thread x)) (has_event V u xs) h) (last_event u (done_after (V.is_event x) k) xs a.1)
    where
      go : ((V.is_event x && (u == V.thread x)) ≡ true) ⊎ (has_event V u xs ≡ true)
          → (has_event V u xs ≡ true → done_after (V.is_event x) k < last_before u T (turns_done V (done_after (V.is_event x) k) xs)) →
          k < last_before u T (turns_done V (done_after (V.is_event x) k) xs)
      go (inl e) ih =
          let p = and_parts (V.is_event x) (u == V.thread x) e in
          let own : slice_get T k ≡ Some u = a.0 p.0 ∙ ap Some (sym (eqb-true u (V.thread x) p.1)) in
          let l = last_own u T k own in
          let q : done_after (V.is_event x) k ≡ suc k = rw p.0 refl in
          let m = last_grows u T (done_after (V.is_event x) k) (turns_done V (done_after (V.is_event x) k) xs) (done_up V (done_after (V.is_event x) k) xs) in
          let n : last_before u T (done_after (V.is_event x) k) ≡ suc k = ap (last_before u T) q ∙ l in
          omega (arith, m, n)
      go (inr e) ih = let i = ih e in let m = after_up (V.is_event x) k in omega (arith, i, m)

  -- without one its last turn stays
  last_stays : (u k : ℕ) (xs : List A) → AreTurns V T k xs → has_event V u xs ≡ false → last_before u T (turns_done V k xs) ≡ last_before u T k
  last_stays u k [] a h = refl
  last_stays u k (x ∷ xs) a h = last_stays u (done_after (V.is_event x) k) xs a.1 (or_parts_right (V.is_event x && (u == V.thread x)) (has_event V u xs) h) ∙ go (V.is_event x) refl
    where
      or_parts_right : (b c : Bool) → (b || c) ≡ false → c ≡ false
      or_parts_right true c h = absurd (true≢false h)
      or_parts_right false c h = h

      or_parts_left : (b c : Bool) → (b || c) ≡ false → b ≡ false
      or_parts_left true c h = absurd (true≢false h)
      or_parts_left false c h = refl

      go : (e : Bool) → V.is_event x ≡ e → last_before u T (done_after (V.is_event x) k) ≡ last_before u T k
      go false v = rw v refl
      go true v = rw v (last_other u T k (λ o. eqb-false u (V.thread x) (and_right_false v (or_parts_left (V.is_event x && (u == V.thread x)) (has_event V u xs) h)) (let z = a.0 v in cc)))
        where
          and_right_false : V.is_event x ≡ true → (V.is_event x && (u == V.thread x)) ≡ false → (u == V.thread x) ≡ false
          and_right_false v q = go2 (V.is_event x) (u == V.thread x) v q
            where
              go2 : (b c : Bool) → b ≡ true → (b && c) ≡ false → c ≡ false
              go2 true c v q = q
              go2 false c v q = absurd (true≢false (sym v))

  -- ---- chains

  -- an event of t that isn't the present step leaves its next turn where it is
  next_stays : (t k : ℕ) (x : A) → k ≤ length T → (V.is_event x ≡ true → slice_get T k ≡ Some (V.thread x)) → (V.is_event x && (t == V.thread x)) ≡ false
      → next_from t T k ≡ next_from t T (done_after (V.is_event x) k)
  next_stays t k x le a h = go (V.is_event x) refl
    where
      other : (b c : Bool) → b ≡ true → (b && c) ≡ false → c ≡ false
      other true c v q = q
      other false c v q = absurd (true≢false (sym v))

      go : (e : Bool) → V.is_event x ≡ e → next_from t T k ≡ next_from t T (done_after (V.is_event x) k)
      go false v = rw v refl
      go true v = rw v (next_other t T k (owner_below T k (V.thread x) (a v)) (λ o. eqb-false t (V.thread x) (other (V.is_event x) (t == V.thread x) v h) (let z = a v in cc)))

  -- a chain makes its ends ordered
  pub ordered_by_chain : (t u k : ℕ) (xs : List A) → k ≤ length T → AreTurns V T k xs → has_chain V t u xs ≡ true → next_from t T k < last_before u T (turns_done V k xs)
  ordered_by_chain t u k [] le a h = absurd (true≢false (sym h))
  ordered_by_chain t u k (x ∷ xs) le a h = go (V.is_event x && (t == V.thread x)) refl (ordered_by_chain t u (done_after (V.is_event x) k) xs (within_after V T k x le a.0) a.1)
    where
      go : (b : Bool) → (V.is_event x && (t == V.thread x)) ≡ b →
          (has_chain V t u xs ≡ true → next_from t T (done_after (V.is_event x) k) < last_before u T (turns_done V (done_after (V.is_event x) k) xs)) →
          next_from t T k < last_before u T (turns_done V (done_after (V.is_event x) k) xs)
      go true w ih =
          let p = and_parts (V.is_event x) (t == V.thread x) w in
          let own : slice_get T k ≡ Some t = a.0 p.0 ∙ ap Some (sym (eqb-true t (V.thread x) p.1)) in
          let n = next_own t T k own in
          let q : done_after (V.is_event x) k ≡ suc k = rw p.0 refl in
          let has : has_event V u xs ≡ true = rw w at h in
          let l = last_event u (done_after (V.is_event x) k) xs a.1 has in
          omega (arith, n, q, l)
      go false w ih =
          let has : has_chain V t u xs ≡ true = rw w at h in
          let i = ih has in
          let n = next_stays t k x le a.0 w in
          omega (arith, i, n)

  -- and ordered steps have one
  pub chain_of_ordered : (t u k : ℕ) (xs : List A) → t ≢ u → k ≤ length T → AreTurns V T k xs → next_from t T k < last_before u T (turns_done V k xs) → has_chain V t u xs ≡ true
  chain_of_ordered t u k [] ne le a h = let m = last_up u T k in let n = next_up t T k le in absurd (omega (arith, m, n))
  chain_of_ordered t u k (x ∷ xs) ne le a h = go (V.is_event x && (t == V.thread x)) refl (chain_of_ordered t u (done_after (V.is_event x) k) xs ne (within_after V T k x le a.0) a.1)
    where
      go : (b : Bool) → (V.is_event x && (t == V.thread x)) ≡ b →
          (next_from t T (done_after (V.is_event x) k) < last_before u T (turns_done V (done_after (V.is_event x) k) xs) → has_chain V t u xs ≡ true) →
          cond (V.is_event x && (t == V.thread x)) (has_event V u xs) (has_chain V t u xs) ≡ true
      go true w ih = rw w (test (cases_Bool (has_event V u xs)))
        where
          test : (has_event V u xs ≡ true) ⊎ (has_event V u xs ≡ false) → has_event V u xs ≡ true
          test (inl e) = e
          test (inr e) =
              let p = and_parts (V.is_event x) (t == V.thread x) w in
              let own : slice_get T k ≡ Some t = a.0 p.0 ∙ ap Some (sym (eqb-true t (V.thread x) p.1)) in
              let n = next_own t T k own in
              let s = last_stays u (done_after (V.is_event x) k) xs a.1 e in
              let q : done_after (V.is_event x) k ≡ suc k = rw p.0 refl in
              let o = last_other u T k (λ z. ne (let y = own in cc)) in
              let m = last_up u T k in
              let r : last_before u T (done_after (V.is_event x) k) ≡ last_before u T k = ap (last_before u T) q ∙ o in
              absurd (omega (arith, h, n, s, r, m))
      go false w ih = rw w (let n = next_stays t k x le a.0 w in ih (omega (arith, h, n)))

  -- ---- whole lists

  -- a later step with its interval, behind these
  pub at_later : (P : Timed A → Type 0) (k : ℕ) (mid : List A) (y : A) (ys : List A) → AllOf P (times V T k (mid ++ y ∷ ys)) → P (timed V T (turns_done V k mid) y)
  at_later P k [] y ys h = h.0
  at_later P k (x ∷ mid) y ys h = at_later P (done_after (V.is_event x) k) mid y ys h.1

  from_later : (P : Timed A → Type 0) (k : ℕ) (xs : List A) → ((mid : List A) (y : A) (ys : List A) → xs ≡ mid ++ y ∷ ys → P (timed V T (turns_done V k mid) y))
      → AllOf P (times V T k xs)
  from_later P k [] h = tt
  from_later P k (x ∷ xs) h = (h [] x xs refl, from_later P (done_after (V.is_event x) k) xs (λ mid y ys e. h (x ∷ mid) y ys (ap (λ l. x ∷ l) e)))

  -- the turns done once the last of a list is
  done_last : (k : ℕ) (mid : List A) (y : A) → turns_done V k (mid ++ y ∷ []) ≡ done_after (V.is_event y) (turns_done V k mid)
  done_last k [] y = refl
  done_last k (x ∷ mid) y = done_last (done_after (V.is_event x) k) mid y

  front_turns : (k : ℕ) (xs mid : List A) (y : A) (ys : List A) → xs ≡ mid ++ y ∷ ys → AreTurns V T k xs → AreTurns V T k (mid ++ y ∷ [])
  front_turns k xs mid y ys e a = turns_left_of V T k (mid ++ y ∷ []) ys (subst (AreTurns V T k) (e ∙ join mid) a)
    where
      join : (mid : List A) → mid ++ y ∷ ys ≡ (mid ++ y ∷ []) ++ ys
      join [] = refl
      join (x ∷ mid) = ap (λ l. x ∷ l) (join mid)

  -- two steps of a list that are ordered have a chain between them
  pub chain_between : (k : ℕ) (x : A) (xs : List A) → k ≤ length T → AreTurns V T k (x ∷ xs) → (mid : List A) (y : A) (ys : List A) → xs ≡ mid ++ y ∷ ys → Conflict V x y →
      AreOrdered (timed V T k x) (timed V T (turns_done V (done_after (V.is_event x) k) mid) y) → has_chain V (V.thread x) (V.thread y) (x ∷ mid ++ y ∷ []) ≡ true
  chain_between k x xs le a mid y ys e c o =
      go o (at_later (λ z. (timed V T k x).low ≤ z.high) (done_after (V.is_event x) k) mid y ys
      (subst (λ l. AllOf (λ z. (timed V T k x).low ≤ z.high) (times V T (done_after (V.is_event x) k) l)) e (low_high V T k (x ∷ xs) le a).0))
    where
      go : AreOrdered (timed V T k x) (timed V T (turns_done V (done_after (V.is_event x) k) mid) y)
          → (timed V T k x).low ≤ (timed V T (turns_done V (done_after (V.is_event x) k) mid) y).high → has_chain V (V.thread x) (V.thread y) (x ∷ mid ++ y ∷ []) ≡ true
      go (inl lt) up = chain_of_ordered (V.thread x) (V.thread y) k (x ∷ mid ++ y ∷ []) c.threads le (front_turns k (x ∷ xs) (x ∷ mid) y ys (ap (λ l. x ∷ l) e) a)
          (subst (λ n. next_from (V.thread x) T k < last_before (V.thread y) T n) (sym (done_last (done_after (V.is_event x) k) mid y)) lt)
      go (inr lt) up = absurd (omega arith)

  pub chained : (k : ℕ) (xs : List A) → k ≤ length T → AreTurns V T k xs → EachPair (λ x y. Conflict V x.did y.did → AreOrdered x y) (times V T k xs) → IsChained V xs
  chained k [] le a o = tt
  chained k (x ∷ xs) le a o = (
    (λ mid y ys e c. chain_between k x xs le a mid y ys e c
        (at_later (λ z. Conflict V x z.did → AreOrdered (timed V T k x) z) (done_after (V.is_event x) k) mid y ys
        (subst (λ l. AllOf (λ z. Conflict V x z.did → AreOrdered (timed V T k x) z) (times V T (done_after (V.is_event x) k) l)) e o.0) c)),
    chained (done_after (V.is_event x) k) xs (within_after V T k x le a.0) a.1 o.1,
  )

  pub ordered_of_chained : (k : ℕ) (xs : List A) → k ≤ length T → AreTurns V T k xs → IsChained V xs → EachPair (λ x y. Conflict V x.did y.did → AreOrdered x y) (times V T k xs)
  ordered_of_chained k [] le a h = tt
  ordered_of_chained k (x ∷ xs) le a h = (
    from_later (λ z. Conflict V x z.did → AreOrdered (timed V T k x) z) (done_after (V.is_event x) k) xs (λ mid y ys e c. inl (here mid y ys e c)),
    ordered_of_chained (done_after (V.is_event x) k) xs (within_after V T k x le a.0) a.1 h.1,
  )
    where
      here : (mid : List A) (y : A) (ys : List A) → xs ≡ mid ++ y ∷ ys → Conflict V x y
          → next_from (V.thread x) T k < last_before (V.thread y) T (done_after (V.is_event y) (turns_done V (done_after (V.is_event x) k) mid))
      here mid y ys e c = subst (λ n. next_from (V.thread x) T k < last_before (V.thread y) T n) (done_last (done_after (V.is_event x) k) mid y)
          (ordered_by_chain (V.thread x) (V.thread y) k (x ∷ mid ++ y ∷ []) le (front_turns k (x ∷ xs) (x ∷ mid) y ys (ap (λ l. x ∷ l) e) a) (h.0 mid y ys e c))

-- ---- more events

module _ {A : Type 0} (V W : View A) (finer : IsFiner V W) where
  event_finer : (u : ℕ) (xs : List A) → has_event V u xs ≡ true → has_event W u xs ≡ true
  event_finer u [] h = h
  event_finer u (x ∷ xs) h = go (or_cases (V.is_event x && (u == V.thread x)) (has_event V u xs) h) (event_finer u xs)
    where
      go : ((V.is_event x && (u == V.thread x)) ≡ true) ⊎ (has_event V u xs ≡ true) → (has_event V u xs ≡ true → has_event W u xs ≡ true)
          → ((W.is_event x && (u == W.thread x)) || has_event W u xs) ≡ true
      go (inl e) ih = let p = and_parts (V.is_event x) (u == V.thread x) e in
          or_left (W.is_event x && (u == W.thread x)) (has_event W u xs) (and_from (W.is_event x) (u == W.thread x) (finer.events x p.0) (subst (λ t. (u == t) ≡ true) (finer.threads x) p.1))
      go (inr e) ih = or_right (W.is_event x && (u == W.thread x)) (has_event W u xs) (ih e)

  chain_event : (t u : ℕ) (xs : List A) → has_chain W t u xs ≡ true → has_event W u xs ≡ true
  chain_event t u [] h = h
  chain_event t u (x ∷ xs) h = or_right (W.is_event x && (u == W.thread x)) (has_event W u xs) (go (W.is_event x && (t == W.thread x)) h (chain_event t u xs))
    where
      go : (b : Bool) → cond b (has_event W u xs) (has_chain W t u xs) ≡ true → (has_chain W t u xs ≡ true → has_event W u xs ≡ true) → has_event W u xs ≡ true
      go true h ih = h
      go false h ih = ih h

  -- a chain stays one where more steps are events
  pub chain_finer : (t u : ℕ) (xs : List A) → has_chain V t u xs ≡ true → has_chain W t u xs ≡ true
  chain_finer t u [] h = h
  chain_finer t u (x ∷ xs) h = go (V.is_event x && (t == V.thread x)) (W.is_event x && (t == W.thread x)) refl refl h (chain_finer t u xs) (event_finer u xs) (chain_event t u xs)
    where
      go : (b c : Bool) → (V.is_event x && (t == V.thread x)) ≡ b → (W.is_event x && (t == W.thread x)) ≡ c → cond b (has_event V u xs) (has_chain V t u xs) ≡ true →
          (has_chain V t u xs ≡ true → has_chain W t u xs ≡ true) → (has_event V u xs ≡ true → has_event W u xs ≡ true)
          → (has_chain W t u xs ≡ true → has_event W u xs ≡ true) →
          cond c (has_event W u xs) (has_chain W t u xs) ≡ true
      go true true p q h ih ev ch = ev h
      go true false p q h ih ev ch = absurd (true≢false (sym (later p) ∙ q))
        where
          later : (V.is_event x && (t == V.thread x)) ≡ true → (W.is_event x && (t == W.thread x)) ≡ true
          later p = let r = and_parts (V.is_event x) (t == V.thread x) p in and_from (W.is_event x) (t == W.thread x) (finer.events x r.0) (subst (λ v. (t == v) ≡ true) (finer.threads x) r.1)
      go false true p q h ih ev ch = ch (ih h)
      go false false p q h ih ev ch = ih h

  -- two events of different threads are a chain
  pub events_chain : (x : A) (mid : List A) (y : A) → W.is_event x ≡ true → W.is_event y ≡ true → has_chain W (W.thread x) (W.thread y) (x ∷ mid ++ y ∷ []) ≡ true
  events_chain x mid y v w = let q : (W.is_event x && (W.thread x == W.thread x)) ≡ true =
      and_from (W.is_event x) (W.thread x == W.thread x) v (eq-eqb (W.thread x) (W.thread x) refl) in rw q (last mid)
    where
      last : (mid : List A) → has_event W (W.thread y) (mid ++ y ∷ []) ≡ true
      last [] = or_left (W.is_event y && (W.thread y == W.thread y)) false (and_from (W.is_event y) (W.thread y == W.thread y) w (eq-eqb (W.thread y) (W.thread y) refl))
      last (z ∷ mid) = or_right (W.is_event z && (W.thread y == W.thread z)) (has_event W (W.thread y) (mid ++ y ∷ [])) (last mid)

  -- where each two steps that conflict have a chain, or are both events of the finer view, that view has chains
  pub chained_finer : (xs : List A) →
      ((before : List A) (x : A) (mid : List A) (y : A) (ys : List A) → xs ≡ before ++ x ∷ mid ++ y ∷ ys → Conflict W x y →
      (has_chain V (V.thread x) (V.thread y) (x ∷ mid ++ y ∷ []) ≡ true) ⊎ ((W.is_event x ≡ true) × (W.is_event y ≡ true))) → IsChained W xs
  chained_finer [] h = tt
  chained_finer (x ∷ xs) h =
      ((λ mid y ys e c. here mid y (h [] x mid y ys (ap (λ l. x ∷ l) e) c)), chained_finer xs (λ before z mid y ys e c. h (x ∷ before) z mid y ys (ap (λ l. x ∷ l) e) c))
    where
      here : (mid : List A) (y : A) → (has_chain V (V.thread x) (V.thread y) (x ∷ mid ++ y ∷ []) ≡ true) ⊎ ((W.is_event x ≡ true) × (W.is_event y ≡ true))
          → has_chain W (W.thread x) (W.thread y) (x ∷ mid ++ y ∷ []) ≡ true
      here mid y (inl c) = chain_finer (W.thread x) (W.thread y) (x ∷ mid ++ y ∷ [])
          (subst (λ u. has_chain V (W.thread x) u (x ∷ mid ++ y ∷ []) ≡ true) (finer.threads y) (subst (λ t. has_chain V t (V.thread y) (x ∷ mid ++ y ∷ []) ≡ true) (finer.threads x) c))
      here mid y (inr e) = events_chain x mid y e.0 e.1

  conflict_coarser : (x y : A) → Conflict W x y → Conflict V x y
  conflict_coarser x y c = record {
    threads = λ e. c.threads (sym (finer.threads x) ∙ e ∙ finer.threads y);
    cell = c.cell;
    meet = rw (finer.writes x c.cell, finer.reads x c.cell, finer.writes y c.cell, finer.reads y c.cell) c.meet;
  }

  -- pairs of a list that are ordered or events, by the lists between them
  settled_pairs : (T : List ℕ) (k : ℕ) (xs : List A) → k ≤ length T → AreTurns V T k xs →
      EachPair (λ x y. Conflict V x.did y.did → AreOrdered x y ⊎ ((W.is_event x.did ≡ true) × (W.is_event y.did ≡ true))) (times V T k xs) →
      (before : List A) (x : A) (mid : List A) (y : A) (ys : List A) → xs ≡ before ++ x ∷ mid ++ y ∷ ys → Conflict W x y →
      (has_chain V (V.thread x) (V.thread y) (x ∷ mid ++ y ∷ []) ≡ true) ⊎ ((W.is_event x ≡ true) × (W.is_event y ≡ true))
  settled_pairs T k [] le a o [] x mid y ys e c = absurd (cc)
  settled_pairs T k [] le a o (z ∷ before) x mid y ys e c = absurd (cc)
  settled_pairs T k (w ∷ xs) le a o (z ∷ before) x mid y ys e c = settled_pairs T (done_after (V.is_event w) k) xs (within_after V T k w le a.0) a.1 o.1 before x mid y ys (cons_tail e) c
  settled_pairs T k (w ∷ xs) le a o [] x mid y ys e c =
      subst (λ q. (has_chain V (V.thread q) (V.thread y) (q ∷ mid ++ y ∷ []) ≡ true) ⊎ ((W.is_event q ≡ true) × (W.is_event y ≡ true))) (cons_head e)
      (go (at_later V T (λ z. Conflict V w z.did → AreOrdered (timed V T k w) z ⊎ ((W.is_event w ≡ true) × (W.is_event z.did ≡ true))) (done_after (V.is_event w) k) mid y ys
      (subst (λ l. AllOf (λ z. Conflict V w z.did → AreOrdered (timed V T k w) z ⊎ ((W.is_event w ≡ true) × (W.is_event z.did ≡ true))) (times V T (done_after (V.is_event w) k) l))
      (cons_tail e) o.0) conflict))
    where
      conflict : Conflict V w y
      conflict = subst (λ q. Conflict V q y) (sym (cons_head e)) (conflict_coarser x y c)

      go : AreOrdered (timed V T k w) (timed V T (turns_done V (done_after (V.is_event w) k) mid) y) ⊎ ((W.is_event w ≡ true) × (W.is_event y ≡ true)) →
          (has_chain V (V.thread w) (V.thread y) (w ∷ mid ++ y ∷ []) ≡ true) ⊎ ((W.is_event w ≡ true) × (W.is_event y ≡ true))
      go (inl r) = inl (chain_between V T k w xs le a mid y ys (cons_tail e) conflict r)
      go (inr v) = inr v

  -- so more events leave a list ordered, and order what both become events
  pub ordered_finer : (T U : List ℕ) (xs : List A) → AreTurns V T 0 xs → AreTurns W U 0 xs → IsOrderedOrEvents V W T xs → IsOrdered W U xs
  ordered_finer T U xs a b o = ordered_of_chained W U 0 xs (omega arith) b (chained_finer xs (settled_pairs T 0 xs (omega arith) a o))
