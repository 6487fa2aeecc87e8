-- From the end of a run back: what is demanded is met before each step, and what is taken is in each larger closed set.
use Rattle.std.proofs.Common.{◌≡◌, ℕ, suc, ◌+◌, ◌<◌, ◌≤◌, ◌==◌, Bool, true, false, List, [], ◌∷◌, ◌++◌, length, Some, refl, sym, subst, inl, inr, ◌⊎◌, arith}
use Rattle.std.specs.Prelude.{Contains, ◌&&◌, if◌then◌else◌}
use Rattle.std.specs.List.{AllByRecursion, list_any}
use Rattle.std.proofs.lemmas.Bool.{true≢false, and_parts, or_cases, eqb-true}
use Rattle.pg_law_least.specs.pg_slice_rules.declared.decision.Decision.{Decision}
use Rattle.pg_law_least.specs.pg_slice_rules.declared.decision.Decision.TheVariants.{Pinned, Exact}
use Rattle.pg_law_least.specs.pg_slice_rules.Moments.{Moment, instr_in, thread_in}
use Rattle.pg_law_least.specs.pg_slice_rules.SymbolicValues.{Symbolic}
use Rattle.pg_law_least.specs.pg_slice_rules.Extents.{Extent, is_live}
use Rattle.pg_law_least.specs.pg_slice_rules.Known.{Reference, SymbolicState, Seen, Taken, after_step, has, region_of, seen_from, seen_in, start_of, thread_of}
use Rattle.pg_law_least.specs.pg_slice_rules.Rules.{all_of, asks_bounds, asks_pins, asks_values, bounds_needs, need_blames, value_needs}
use Rattle.pg_law_least.specs.pg_slice_rules.Closed.{AreWithin, IsClosed}
use Rattle.pg_law_least.specs.Keeps.{ExtentsKeep, every, steps_of}
use Rattle.pg_region_paths.proofs.Elements.{here, there}
use Rattle.pg_law_least.proofs.KeptLikeness.{IsLink}
use Rattle.pg_law_least.proofs.LikeValues.{Likes, likes_link}
use Rattle.pg_law_least.proofs.AskedDecisions.{all_in, none_asked, of_all}
use Rattle.pg_law_least.proofs.ClosedDecisions.{in_every}
use Rattle.pg_law_least.proofs.OldestFreeExtent.{live_more, or_this, stand}
use Rattle.pg_law_least.proofs.ThreadsAfterSteps.{live_at}
use Rattle.pg_law_least.proofs.AlikeKnowledge.{start_like}
use Rattle.pg_law_least.proofs.AlikeAlongRuns.{step_like}
use Rattle.pg_law_demands.specs.Cells.{Demand, IsMet}
use Rattle.pg_law_demands.specs.Back.{Asked, back}
use Rattle.pg_law_demands.specs.Demands.{and_those, asked_from, before_either, before_live, before_step, behind, demanded, is_fix, is_pin, pin_if, pin_one, step_demands, step_pins, with_pins}
use Rattle.pg_law_demands.specs.Passed.{first_free, passing, region_at_step, sets_any}
use Rattle.pg_law_demands.proofs.ValuesBefore.{append_all}
use Rattle.pg_law_demands.proofs.DemandsBack.{Asks}
use Rattle.pg_law_demands.proofs.StepBack.{IsRun, high, live_before, step_back}
use Rattle.pg_law_demands.proofs.OwnDemands.{IsQuiet, pins_own, step_own}
use Rattle.pg_law_demands.proofs.StepsInExtents.{passing_met, pinned_if}

all_of_all : {A B : Type 0} (f : A → List B) (P : A → Type 0) (Q : B → Type 0) (xs : List A) → ((x : A) → P x → AllByRecursion Q (f x)) → AllByRecursion P xs →
    AllByRecursion Q (all_of f xs)
all_of_all f P Q [] h k = tt
all_of_all f P Q (x ∷ xs) h k = append_all Q (f x) (all_of f xs) (h x k.0) (all_of_all f P Q xs h k.1)

-- ---- decisions with more of them

pin_in : (e : Taken) (n : ℕ) (xs : List Decision) → AllByRecursion (λ (x : Decision). has e x ≡ true) xs → list_any (is_pin n) xs ≡ true → e.pinned n ≡ true
pin_in e n [] k h = absurd (true≢false (sym h))
pin_in e n (Pinned m ∷ xs) k h = go (or_cases (m == n) (list_any (is_pin n) xs) h) (λ q. pin_in e n xs k.1 q)
  where
    go : ((m == n) ≡ true) ⊎ (list_any (is_pin n) xs ≡ true) → (list_any (is_pin n) xs ≡ true → e.pinned n ≡ true) → e.pinned n ≡ true
    go (inl q) more = subst (λ (i : ℕ). e.pinned i ≡ true) (eqb-true m n q) k.0
    go (inr q) more = more q
pin_in e n (Exact m ∷ xs) k h = pin_in e n xs k.1 h

fix_in : (e : Taken) (n : ℕ) (xs : List Decision) → AllByRecursion (λ (x : Decision). has e x ≡ true) xs → list_any (is_fix n) xs ≡ true → e.exact n ≡ true
fix_in e n [] k h = absurd (true≢false (sym h))
fix_in e n (Exact m ∷ xs) k h = go (or_cases (m == n) (list_any (is_fix n) xs) h) (λ q. fix_in e n xs k.1 q)
  where
    go : ((m == n) ≡ true) ⊎ (list_any (is_fix n) xs ≡ true) → (list_any (is_fix n) xs ≡ true → e.exact n ≡ true) → e.exact n ≡ true
    go (inl q) more = subst (λ (i : ℕ). e.exact i ≡ true) (eqb-true m n q) k.0
    go (inr q) more = more q
fix_in e n (Pinned m ∷ xs) k h = fix_in e n xs k.1 h

pub those_within : (d e : Taken) (xs : List Decision) → AreWithin d e → AllByRecursion (λ (x : Decision). has e x ≡ true) xs → AreWithin (and_those d xs) e
those_within d e xs w k (Pinned n) h = go (or_cases (d.pinned n) (list_any (is_pin n) xs) h)
  where
    go : (d.pinned n ≡ true) ⊎ (list_any (is_pin n) xs ≡ true) → e.pinned n ≡ true
    go (inl q) = w (Pinned n) q
    go (inr q) = pin_in e n xs k q
those_within d e xs w k (Exact n) h = go (or_cases (d.exact n) (list_any (is_fix n) xs) h)
  where
    go : (d.exact n ≡ true) ⊎ (list_any (is_fix n) xs ≡ true) → e.exact n ≡ true
    go (inl q) = w (Exact n) q
    go (inr q) = fix_in e n xs k q

-- ---- what closed decisions leave no blame for, at a step

pub record Closes (R : Reference) (e : Taken) (x : Seen) : Type 0 where
  pub pins : (z : Decision) → Contains (asks_pins e x) z → ⊥
  pub values : IsQuiet (value_needs R e x)
  pub bounds : IsQuiet (bounds_needs R x)

pub closes : (R : Reference) (e : Taken) → IsClosed R e → (x : Seen) → Contains (seen_in R e) x → Closes R e x
closes R e closed x c = record {
  pins = none_asked (asks_pins e) (seen_in R e) x closed.pins c;
  values = λ a i z k. none_asked (asks_values R e) (seen_in R e) x closed.values c z (of_all need_blames (value_needs R e x) a z i k);
  bounds = λ a i z k. none_asked (asks_bounds R) (seen_in R e) x closed.bounds c z (of_all need_blames (bounds_needs R x) a z i k);
}

module _ (R : Reference) (keeps : ExtentsKeep R) (d e : Taken) (within : AreWithin d e) (bound : ℕ) (L : Symbolic → Symbolic → Type 0) (link : IsLink e every bound L) where
  module _ (n : ℕ) (m : Moment) (s u : SymbolicState) (like : IsRun R keeps e bound L link s u) where
    abbrev y : Seen
    y = record {
      number = n;
      moment = m;
      region = region_of R.program R.regions m (instr_in R.program m);
      live = is_live every.pinned (thread_of u (thread_in m)).extents;
      before = u;
    }

    abbrev with_live : Bool → Seen
    with_live b = record { number = n; moment = m; region = region_of R.program R.regions m (instr_in R.program m); live = b; before = s }

    module _ (in_run : Contains (steps_of R) y) (closed : Closes R e (with_live (live_at R e n m s))) where
      module _ (live : is_live e.pinned (thread_of u (thread_in m)).extents ≡ true) where
        closed_live : Closes R e (with_live true)
        closed_live = subst (λ (b : Bool). Closes R e (with_live b)) (live_before R keeps e bound L link n m s u like in_run live) closed

        behind_met : (a : Asked) → Asks e (after_step R e n m s) a → Asks e s (behind R y a)
        behind_met a h = (
          all_of_all (λ (q : Demand). (back R.program y (instr_in R.program m) q).demands) (IsMet (after_step R e n m s)) (IsMet s) a.demands
              (λ q k. (step_back R keeps e bound L link n m s u like in_run live q k).0) h.0,
          append_all (λ (x : Decision). has e x ≡ true) (a.decisions ++ all_of (λ (q : Demand). (back R.program y (instr_in R.program m) q).decisions) a.demands) (step_pins y)
              (append_all (λ (x : Decision). has e x ≡ true) a.decisions (all_of (λ (q : Demand). (back R.program y (instr_in R.program m) q).decisions) a.demands) h.1
              (all_of_all (λ (q : Demand). (back R.program y (instr_in R.program m) q).decisions) (IsMet (after_step R e n m s)) (λ (x : Decision). has e x ≡ true) a.demands
              (λ q k. (step_back R keeps e bound L link n m s u like in_run live q k).1) h.0))
              (pins_own R d e within n m y.region s (high R keeps e bound L link n m s u like in_run live) closed_live.pins),
        )

        live_met : (a : Asked) → Asks e (after_step R e n m s) a → Asks e s (before_live R d y a)
        live_met a h =
            let b : Asks e s (behind R y a) = behind_met a h in (
              append_all (IsMet s) (behind R y a).demands (step_demands R (and_those d (behind R y a).decisions) y) b.0
                  (step_own R (and_those d (behind R y a).decisions) e (those_within d e (behind R y a).decisions within b.1) n m y.region s
                  (high R keeps e bound L link n m s u like in_run live) closed_live.values closed_live.bounds),
              b.1,
            )

      -- where more branch steps are pinned
      pinned_met : (es : List Extent) → ((o : Extent) → stand e es ≡ Some o → stand e (thread_of u (thread_in m)).extents ≡ Some o) → (a : Asked) → Asks e (after_step R e n m s) a →
          Asks e (after_step R e n m s) (with_pins R d y es a)
      pinned_met [] sub a h = h
      pinned_met (x ∷ older) sub a h = add (with_pins R d y older a) (pinned_met older (λ o q. sub o (rw q (standing (e.pinned x.step) o))) a h)
        where
          standing : (b : Bool) (o : Extent) → or_this b x (Some o) ≡ Some o
          standing true o = refl
          standing false o = refl

          add : (b : Asked) → Asks e (after_step R e n m s) b → Asks e (after_step R e n m s) (pin_one R d y x older b)
          add b k = go (is_live (and_those d b.decisions).pinned older && sets_any (region_at_step R x.step) y x.depth b.demands) refl
            where
              go : (c : Bool) → (is_live (and_those d b.decisions).pinned older && sets_any (region_at_step R x.step) y x.depth b.demands) ≡ c →
                  Asks e (after_step R e n m s) (pin_if c x.step b)
              go false f = k
              go true f =
                  let p = and_parts (is_live (and_those d b.decisions).pinned older) (sets_any (region_at_step R x.step) y x.depth b.demands) f in
                  let l : is_live e.pinned older ≡ true = live_more (and_those d b.decisions) e older (those_within d e b.decisions within k.1) p.0 in (
                    k.0,
                    append_all (λ (x : Decision). has e x ≡ true) b.decisions (Pinned x.step ∷ []) k.1
                        (pinned_if R keeps e bound L link n m s u like in_run x older sub l b.demands k.0 p.1, tt),
                  )

      either_met : (a : Asked) → Asks e (after_step R e n m s) a → Asks e s (before_either R d y a)
      either_met a h = go (is_live (and_those d a.decisions).pinned (thread_of u (thread_in m)).extents) refl
        where
          go : (b : Bool) → is_live (and_those d a.decisions).pinned (thread_of u (thread_in m)).extents ≡ b →
              Asks e s (if b then before_live R d y a
              else record { demands = passing R y (first_free (and_those d a.decisions).pinned (thread_of u (thread_in m)).extents) a.demands; decisions = a.decisions })
          go false f = (passing_met R keeps e bound L link n m s u like in_run (and_those d a.decisions).pinned a.demands h.0, h.1)
          go true f = live_met (live_more (and_those d a.decisions) e (thread_of u (thread_in m)).extents (those_within d e a.decisions within h.1) f) a h

      pub step_met : (a : Asked) → Asks e (after_step R e n m s) a → Asks e s (before_step R d y a)
      step_met a h = either_met (with_pins R d y (thread_of u (thread_in m)).extents a) (pinned_met (thread_of u (thread_in m)).extents (λ o q. q) a h)

  walk_met : (n : ℕ) (s u : SymbolicState) (ms : List Moment) → n + length ms ≤ bound → IsRun R keeps e bound L link s u →
      ((z : Seen) → Contains (seen_from R every n u ms) z → Contains (steps_of R) z) → ((z : Seen) → Contains (seen_from R e n s ms) z → Closes R e z) →
      Asks e s (asked_from R d (seen_from R every n u ms))
  unfolding seen_from asked_from
  walk_met n s u [] l like c k = (tt, tt)
  walk_met n s u (m ∷ ms) l like c k =
      let below : n < bound = omega (arith, l) in
      let in_run = c _ (here _ (seen_from R every (suc n) (after_step R every n m u) ms)) in
      let closed = k _ (here _ (seen_from R e (suc n) (after_step R e n m s) ms)) in
      step_met n m s u like in_run closed (asked_from R d (seen_from R every (suc n) (after_step R every n m u) ms))
      (walk_met (suc n) (after_step R e n m s) (after_step R every n m u) ms (omega (arith, l)) (step_like R keeps e every bound L link n below m s u u like in_run)
      (λ z q. c z (there _ (seen_from R every (suc n) (after_step R every n m u) ms) z q))
      (λ z q. k z (there _ (seen_from R e (suc n) (after_step R e n m s) ms) z q)))

pub demands_above : (R : Reference) → ExtentsKeep R → (d e : Taken) → IsClosed R e → AreWithin d e → (x : Decision) → Contains (demanded R d) x → has e x ≡ true
demands_above R keeps d e closed within x c =
    let link = likes_link e every (length R.moments) (λ x h. in_every x) in
    let a = walk_met R keeps d e within (length R.moments) (Likes every) link 0 (start_of R.program) (start_of R.program) R.moments (omega arith)
    (start_like R keeps e every (length R.moments) (Likes every) link) (λ z c. c) (λ z c. closes R e closed z c) in
    all_in (λ (x : Decision). has e x ≡ true) (demanded R d) x a.1 c
