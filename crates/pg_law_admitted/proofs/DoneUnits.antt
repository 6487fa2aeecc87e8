-- At a cut of a plan a unit is done exactly where its number is below that of the moves that its thread has done.
use Rattle.std.specs.List.{AllByRecursion as AllOf}
use Rattle.std.specs.Prelude.{if◌then◌else◌}
use Rattle.std.proofs.Common.{◌++◌, ◌<◌, ◌==◌, ◌∙◌, ◌∷◌, ◌≡◌, ◌≢◌, ◌≤◌, ◌⊎◌, Bool, List, [], ap, arith, false, inl, inr, map, refl, subst}
use Rattle.std.proofs.Common.{suc, sym, true, ℕ}
use Rattle.std.proofs.lemmas.Bool.{cases_eq, eq-eqb, ne_eqb, true≢false}
use Rattle.pg_law_threads.specs.Cuts.{IsCut, Mark, kept, whole}
use Rattle.pg_law_threads.specs.Effects.{deeds, effect, effects}
use Rattle.pg_law_threads.specs.Intervals.{Timed, did_of}
use Rattle.pg_law_threads.proofs.EffectsOfSteps.{local_part, skips}
use Rattle.pg_law_threads.proofs.DoneLists.{all_did, all_kept, all_map, cons_head, cons_tail}
use Rattle.pg_slice_rules.specs.Known.{Taken}
use Rattle.pg_law_effects.specs.PermittedSteps.{one_more}
use Rattle.pg_law_plan.specs.Likes.{PlanThread}
use Rattle.pg_law_plan.specs.Lists.{Has}
use Rattle.pg_law_plan.specs.Units.{PlanDeed, PlanState, PlanUnit, deed_of}
use Rattle.pg_law_plan.proofs.KnownBeforeUnits.{no_if, yes_if}
use Rattle.pg_law_admitted.specs.Invariant.{owner}
use Rattle.pg_law_admitted.proofs.UnitNumbers.{NumberedFrom, one_more_least, one_more_other, one_more_same}

abbrev pub Marks : Type 0
Marks = List (Mark (Timed PlanDeed))

module _ (d : Taken) where
  -- the mark is that of the unit, which is done where its number is below that of its thread
  pub record IsMarked (n : ℕ → ℕ) (m : Mark (Timed PlanDeed)) (u : PlanUnit) : Type 0 where
    pub deed : m.step.did ≡ deed_of d u
    pub if_done : m.done ≡ true → u.units < n (owner u)
    pub if_open : m.done ≡ false → n (owner u) ≤ u.units

  abbrev pub Told : (ℕ → ℕ) → Marks → List PlanUnit → Type 0
  Told n [] [] = Unit {0}
  Told n [] (u ∷ us) = ⊥
  Told n (m ∷ ms) [] = ⊥
  Told n (m ∷ ms) (u ∷ us) = IsMarked n m u × Told n ms us

  -- ---- how many units of each thread the kept ones are

  abbrev count : PlanState → ℕ → ℕ
  count z t = (z.locals t).units

  abbrev behind : PlanState → Marks → PlanState
  behind z ms = effects z (did_of (kept ms))

  abbrev NoneDone : ℕ → Marks → Type 0
  NoneDone t ms = AllOf (λ (m : Mark (Timed PlanDeed)). m.done ≡ true → m.step.did.thread ≢ t) ms

  -- all units of thread t before these are done, or none of these is
  abbrev IsEither : PlanState → (ℕ → ℕ) → Marks → ℕ → Type 0
  IsEither z c ms t = (count z t ≡ c t) ⊎ ((count z t ≤ c t) × NoneDone t ms)

  kept_still : (z : PlanState) (ms : Marks) (t : ℕ) → NoneDone t ms → count (behind z ms) t ≡ count z t
  kept_still z ms t h = ap (λ (l : PlanThread). l.units) (skips (local_part t) z (did_of (kept ms))
      (all_did (λ (e : PlanDeed). (t == e.thread) ≡ false) (kept ms)
      (all_kept (λ (x : Timed PlanDeed). (t == x.did.thread) ≡ false) ms (all_map (λ m k w. ne_eqb t m.step.did.thread (λ e. k w (sym e))) ms h))))

  record Counted (z : PlanState) (ms : Marks) (us : List PlanUnit) : Type 0 where
    all : Told (count (behind z ms)) ms us
    least : (t : ℕ) → count z t ≤ count (behind z ms) t

  at_most : (z : PlanState) (c : ℕ → ℕ) (ms : Marks) (t : ℕ) → IsEither z c ms t → count z t ≤ c t
  at_most z c ms t (inl e) = omega (arith, e)
  at_most z c ms t (inr h) = h.0

  counted : (z : PlanState) (c : ℕ → ℕ) (ms : Marks) (us : List PlanUnit) → did_of (whole ms) ≡ map (deed_of d) us → NumberedFrom c us → IsCut deeds ms
      → ((t : ℕ) → IsEither z c ms t) → Counted z ms us
  counted z c [] [] e n h f = record { all = tt; least = λ t. omega arith }
  counted z c [] (u ∷ us) e n h f = absurd cc
  counted z c (m ∷ ms) [] e n h f = absurd cc
  counted z c (m ∷ ms) (u ∷ us) e n h f = go m.done refl (λ z f. counted z (one_more (owner u) c) ms us (cons_tail e) n.1 h.1 f)
    where
      deed : m.step.did ≡ deed_of d u
      deed = cons_head e

      thread : m.step.did.thread ≡ owner u
      thread = ap (λ (q : PlanDeed). q.thread) deed

      -- done
      own_count : count (effect z m.step.did) (owner u) ≡ suc u.units
      own_count = ap (λ (l : PlanThread). l.units) (yes_if (owner u == m.step.did.thread) m.step.did.to (z.locals (owner u)) (eq-eqb (owner u) m.step.did.thread (sym thread)))
          ∙ ap (λ (q : PlanDeed). q.to.units) deed

      other_count : (t : ℕ) → (owner u ≡ t → ⊥) → count (effect z m.step.did) t ≡ count z t
      other_count t ne = ap (λ (l : PlanThread). l.units) (no_if (t == m.step.did.thread) m.step.did.to (z.locals t) (ne_eqb t m.step.did.thread (λ w. ne (sym (w ∙ thread)))))

      all_done : m.done ≡ true → count z (owner u) ≡ c (owner u)
      all_done w = by (f (owner u))
        where
          by : IsEither z c (m ∷ ms) (owner u) → count z (owner u) ≡ c (owner u)
          by (inl k) = k
          by (inr k) = absurd (k.1.0 w thread)

      done_next : m.done ≡ true → (t : ℕ) → IsEither (effect z m.step.did) (one_more (owner u) c) ms t
      done_next w t = by (cases_eq (owner u) t) (f t)
        where
          by : (owner u ≡ t) ⊎ (owner u ≡ t → ⊥) → IsEither z c (m ∷ ms) t → IsEither (effect z m.step.did) (one_more (owner u) c) ms t
          by (inl q) k = inl (subst (λ (i : ℕ). count (effect z m.step.did) i ≡ one_more (owner u) c i) q (own_count ∙ ap suc n.0 ∙ sym (one_more_same (owner u) (owner u) c refl)))
          by (inr ne) (inl k) = inl (other_count t ne ∙ k ∙ sym (one_more_other (owner u) t c ne))
          by (inr ne) (inr k) = inr ((let a = other_count t ne in let b = one_more_other (owner u) t c ne in let l = k.0 in omega (arith, a, b, l)), k.1.1)

      done_least : m.done ≡ true → (t : ℕ) → count z t ≤ count (effect z m.step.did) t
      done_least w t = by (cases_eq (owner u) t)
        where
          by : (owner u ≡ t) ⊎ (owner u ≡ t → ⊥) → count z t ≤ count (effect z m.step.did) t
          by (inl q) = subst (λ (i : ℕ). count z i ≤ count (effect z m.step.did) i) q (let a = all_done w in let b = own_count in let k = n.0 in omega (arith, a, b, k))
          by (inr ne) = let a = other_count t ne in omega (arith, a)

      -- open
      none_later : m.done ≡ false → NoneDone (owner u) ms
      none_later w = all_map (λ k q v s. q v (s ∙ sym thread)) ms (h.0 w)

      open_next : m.done ≡ false → (t : ℕ) → IsEither z (one_more (owner u) c) ms t
      open_next w t = by (cases_eq (owner u) t) (f t)
        where
          by : (owner u ≡ t) ⊎ (owner u ≡ t → ⊥) → IsEither z c (m ∷ ms) t → IsEither z (one_more (owner u) c) ms t
          by (inl q) k = inr ((let a = at_most z c (m ∷ ms) t k in let b = one_more_least (owner u) t c in omega (arith, a, b)), subst (λ (i : ℕ). NoneDone i ms) q (none_later w))
          by (inr ne) (inl k) = inl (k ∙ sym (one_more_other (owner u) t c ne))
          by (inr ne) (inr k) = inr ((let b = one_more_other (owner u) t c ne in let l = k.0 in omega (arith, b, l)), k.1.1)

      go : (b : Bool) → m.done ≡ b → ((z : PlanState) → ((t : ℕ) → IsEither z (one_more (owner u) c) ms t) → Counted z ms us) → Counted z (m ∷ ms) (u ∷ us)
      go true w more =
          let k = more (effect z m.step.did) (done_next w) in
          let same : behind z (m ∷ ms) ≡ behind (effect z m.step.did) ms = ap (λ (b : Bool). effects z (did_of (if b then m.step ∷ kept ms else kept ms))) w in
          subst (λ (s : PlanState). Told (count s) (m ∷ ms) (u ∷ us) → ((t : ℕ) → count z t ≤ count s t) → Counted z (m ∷ ms) (u ∷ us)) same
          (λ a l. record { all = a; least = l }) (
            record {
              deed = deed;
              if_done = λ v. let a = k.least (owner u) in let b = own_count in omega (arith, a, b);
              if_open = λ v. absurd (true≢false (sym w ∙ v));
            },
            k.all,
          )
          (λ t. let a = k.least t in let b = done_least w t in omega (arith, a, b))
      go false w more =
          let k = more z (open_next w) in
          let same : behind z (m ∷ ms) ≡ behind z ms = ap (λ (b : Bool). effects z (did_of (if b then m.step ∷ kept ms else kept ms))) w in
          subst (λ (s : PlanState). Told (count s) (m ∷ ms) (u ∷ us) → ((t : ℕ) → count z t ≤ count s t) → Counted z (m ∷ ms) (u ∷ us)) same
          (λ a l. record { all = a; least = l }) (
            record {
              deed = deed;
              if_done = λ v. absurd (true≢false (sym v ∙ w));
              if_open = λ v. let a = kept_still z ms (owner u) (none_later w) in let b = at_most z c (m ∷ ms) (owner u) (f (owner u)) in let e = n.0 in omega (arith, a, b, e);
            },
            k.all,
          )
          k.least

  pub told_all : (z : PlanState) (c : ℕ → ℕ) (ms : Marks) (us : List PlanUnit) → did_of (whole ms) ≡ map (deed_of d) us → NumberedFrom c us → IsCut deeds ms
      → ((t : ℕ) → count z t ≡ c t) → Told (count (behind z ms)) ms us
  told_all z c ms us e n h f = (counted z c ms us e n h (λ t. inl (f t))).all

  -- ---- around one mark

  pub record Around (n : ℕ → ℕ) (before : Marks) (m : Mark (Timed PlanDeed)) (after : Marks) (us : List PlanUnit) : Type 0 where
    pub earlier : List PlanUnit
    pub at : PlanUnit
    pub later : List PlanUnit
    pub is : us ≡ earlier ++ at ∷ later
    pub told_before : Told n before earlier
    pub told_at : IsMarked n m at
    pub told_after : Told n after later

  pub around : (n : ℕ → ℕ) (before : Marks) (m : Mark (Timed PlanDeed)) (after : Marks) (us : List PlanUnit) → Told n (before ++ m ∷ after) us → Around n before m after us
  around n [] m after [] h = absurd h
  around n [] m after (u ∷ us) h = record { earlier = []; at = u; later = us; is = refl; told_before = tt; told_at = h.0; told_after = h.1 }
  around n (k ∷ before) m after [] h = absurd h
  around n (k ∷ before) m after (u ∷ us) h =
      let a = around n before m after us h.1 in
      record {
        earlier = u ∷ a.earlier;
        at = a.at;
        later = a.later;
        is = ap (λ (l : List PlanUnit). u ∷ l) a.is;
        told_before = (h.0, a.told_before);
        told_at = a.told_at;
        told_after = a.told_after;
      }

  -- the mark of a unit
  pub mark_of : {P : Mark (Timed PlanDeed) → Type 0} (n : ℕ → ℕ) (ms : Marks) (us : List PlanUnit) (w : PlanUnit) → Told n ms us → AllOf P ms → Has us w
      → (m : Mark (Timed PlanDeed)) × IsMarked n m w × P m
  mark_of n [] [] w h a k = absurd k
  mark_of n [] (u ∷ us) w h a k = absurd h
  mark_of n (m ∷ ms) [] w h a k = absurd h
  mark_of n (m ∷ ms) (u ∷ us) w h a (inl e) = (m, subst (IsMarked n m) e h.0, a.0)
  mark_of n (m ∷ ms) (u ∷ us) w h a (inr k) = mark_of n ms us w h.1 a.1 k
