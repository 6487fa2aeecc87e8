-- The steps that are done at a cut, in the full run's order: each may be taken behind those before it.
use Rattle.std.proofs.Common.{◌≡◌, ◌≢◌, ℕ, ◌≤◌, ◌⊎◌, Bool, true, false, cond, List, [], ◌∷◌, ◌++◌, Some, refl, sym, ap, ◌∙◌, subst, arith, suc, inl}
use Rattle.std.proofs.Common.{inr, append_assoc}
use Rattle.std.specs.Prelude.{slice_get, is_some}
use Rattle.std.specs.List.{AllByRecursion as AllOf}
use Rattle.std.proofs.lemmas.Bool.{ne_eqb, false_from_ne_true}
use Rattle.pg_law_threads.specs.Steps.{View, Conflict, EachPair}
use Rattle.pg_law_threads.specs.Intervals.{done_after, turns_done, Timed, times, did_of, AreOrdered, AreTurns}
use Rattle.pg_law_threads.specs.Cuts.{Mark, pending, performed, kept, whole, IsCut, IsWithin, IsBelow}
use Rattle.pg_law_threads.specs.Effects.{State, Deed, deeds, effects}
use Rattle.pg_law_threads.specs.Plans.{IsPlan}
use Rattle.pg_law_threads.specs.Machines.{Rules, May, AreDetermined, Takes}
use Rattle.pg_law_threads.proofs.DoneLists.{all_map, both_of, all_left, all_right, whole_append, did_append, at_marks, pairs_before}
use Rattle.pg_law_threads.proofs.TimedSteps.{did_times, events_low, low_high, turns_right_of}
use Rattle.pg_law_threads.proofs.EffectsOfSteps.{local_part, cell_part, objects_part, agree, meet_written_read}
use Rattle.pg_law_threads.proofs.StatesAtCuts as places
use Rattle.pg_law_threads.proofs.FirstOfKind.{OpenEvent, find_event, none_behind}
use Rattle.pg_law_threads.proofs.PermittedRunLaw as runs

-- ---- a step that is done, behind those that are done before it

-- of a thread with a step that is done no step before it is open
pub cut_before : {A : Type 0} (V : View A) (before : List (Mark (Timed A))) (p : Timed A) (after : List (Mark (Timed A))) → IsCut V (before ++ performed p ∷ after)
    → AllOf (λ m. m.done ≡ false → V.thread m.step.did ≢ V.thread p.did) before
cut_before V [] p after h = tt
cut_before {A} V (m ∷
    before) p after h = (
      (λ w e. (all_right (λ (n : Mark (Timed A)). n.done ≡ true → V.thread n.step.did ≢ V.thread m.step.did) before (performed p ∷ after) (h.0 w)).0 refl (sym e)),
      cut_before V before p after h.1,
    )

-- the turns that are done, by those that a step does
done_if : {A : Type 0} (V : View A) (b : Bool) (x : Timed A) (xs : List (Timed A)) (k : ℕ)
    → turns_done V k (did_of (cond b (x ∷ xs) xs)) ≡ turns_done V (cond b (done_after (V.is_event x.did) k) k) (did_of xs)
done_if V true x xs k = refl
done_if V false x xs k = refl

done_same : {A : Type 0} (V : View A) (ms : List (Mark (Timed A))) (k : ℕ) → AllOf (λ m. m.done ≡ false → V.is_event m.step.did ≡ false) ms
    → turns_done V k (did_of (kept ms)) ≡ turns_done V k (did_of (whole ms))
done_same V [] k h = refl
done_same V (m ∷ ms) k h = done_if V m.done m.step (kept ms) k ∙ ap (λ n. turns_done V n (did_of (kept ms))) (go m.done (V.is_event m.step.did) (h.0))
    ∙ done_same V ms (done_after (V.is_event m.step.did) k) h.1
  where
    go : (b e : Bool) → (b ≡ false → e ≡ false) → cond b (done_after e k) k ≡ done_after e k
    go true e h = refl
    go false true h = absurd (let q = h refl in cc)
    go false false h = refl

done_fewer : {A : Type 0} (V : View A) (ms : List (Mark (Timed A))) (k j : ℕ) → k ≤ j → turns_done V k (did_of (kept ms)) ≤ turns_done V j (did_of (whole ms))
done_fewer V [] k j h = h
done_fewer V (m ∷ ms) k j h = subst (λ n. n ≤ turns_done V (done_after (V.is_event m.step.did) j) (did_of (whole ms))) (sym (done_if V m.done m.step (kept ms) k))
    (done_fewer V ms (cond m.done (done_after (V.is_event m.step.did) k) k) (done_after (V.is_event m.step.did) j) (go m.done (V.is_event m.step.did)))
  where
    go : (b e : Bool) → cond b (done_after e k) k ≤ done_after e j
    go true true = omega (arith, h)
    go true false = h
    go false true = omega (arith, h)
    go false false = h

module _ {L B Y E : Type 0} (R : Rules L Y) (Does : State L B Y → Deed L B Y E → Type 0) (T : List ℕ) (det : AreDetermined R Does) (z : State L B Y) (full : List (Deed L B Y E))
    (is_plan : IsPlan deeds T full)
    (takes : (xs : List (Deed L B Y E)) (p : Deed L B Y E) (ys : List (Deed L B Y E)) → full ≡ xs ++ p ∷ ys → (turn : ℕ) → turns_done deeds 0 xs ≤ turn
    → slice_get T turn ≡ Some p.thread → Takes R Does T (effects z xs) (turns_done deeds 0 xs) p)
    (g : ℕ) (before after : List (Mark (Timed (Deed L B Y E)))) (p : Timed (Deed L B Y E))
    (is_whole : whole (before ++ performed p ∷ after) ≡ times deeds T 0 full)
    (is_cut : IsCut deeds (before ++ performed p ∷ after))
    (below : IsBelow g (before ++ performed p ∷ after))
    (turn : ℕ) (later : turns_done deeds 0 (did_of (whole before)) ≤ turn) (own : slice_get T turn ≡ Some p.did.thread) where
  -- where the full run takes it, and where it is taken behind those that are done
  abbrev there : State L B Y
  there = effects z (did_of (whole before))

  abbrev here : State L B Y
  here = effects z (did_of (kept before))

  abbrev pub turns_there : ℕ
  turns_there = turns_done deeds 0 (did_of (whole before))

  abbrev pub turns_here : ℕ
  turns_here = turns_done deeds 0 (did_of (kept before))

  split : times deeds T 0 full ≡ whole before ++ p ∷ whole after
  split = sym is_whole ∙ whole_append before (performed p ∷ after)

  steps : full ≡ did_of (whole before) ++ p.did ∷ did_of (whole after)
  steps = sym (did_times deeds T 0 full) ∙ ap did_of split ∙ did_append (whole before) (p ∷ whole after)

  taken : Takes R Does T there turns_there p.did
  taken = takes (did_of (whole before)) p.did (did_of (whole after)) steps turn later own

  none_own : AllOf (λ m. m.done ≡ false → m.step.did.thread ≢ p.did.thread) before
  none_own = cut_before deeds before p after is_cut

  within_before : AllOf (IsWithin g) before
  within_before = all_left (IsWithin g) before (performed p ∷ after) below

  p_low : p.low ≤ g
  p_low = (all_right (IsWithin g) before (performed p ∷ after) below).0.if_done refl

  before_low : AllOf (λ m. m.step.low ≤ p.high) before
  before_low = at_marks (λ x. x.low ≤ p.high) before (pairs_before (λ x y. x.low ≤ y.high) (whole before) p (whole after)
      (subst (EachPair (λ x y. x.low ≤ y.high)) split (low_high deeds T 0 full (omega arith) is_plan.turns)))

  abbrev Settled : Timed (Deed L B Y E) → Timed (Deed L B Y E) → Type 0
  Settled x y = Conflict deeds x.did y.did → AreOrdered x y

  before_ordered : AllOf (λ m. Settled m.step p) before
  before_ordered = at_marks (λ x. Settled x p) before (pairs_before Settled (whole before) p (whole after) (subst (EachPair Settled) split is_plan.ordered))

  lows : AllOf (λ m. deeds.is_event m.step.did ≡ true → m.step.low ≡ suc m.step.high) (before ++ performed p ∷ after)
  lows = at_marks (λ x. deeds.is_event x.did ≡ true → x.low ≡ suc x.high) (before ++ performed p ∷ after)
      (subst (AllOf (λ x. deeds.is_event x.did ≡ true → x.low ≡ suc x.high)) (sym is_whole) (events_low deeds T 0 full is_plan.turns))

  -- no step before it that is open conflicts with it
  open_apart : AllOf (λ m. m.done ≡ false → Conflict deeds m.step.did p.did → ⊥) before
  open_apart = all_map (λ m h w c. one m (h.0.if_open w) h.1.0 (h.1.1 c)) before
      (both_of (IsWithin g) _ before within_before (both_of (λ m. m.step.low ≤ p.high) (λ m. Settled m.step p) before before_low before_ordered))
    where
      one : (m : Mark (Timed (Deed L B Y E))) → g ≤ m.step.high → m.step.low ≤ p.high → AreOrdered m.step p → ⊥
      one m a b (inl lt) = absurd (omega (arith, a, p_low, lt))
      one m a b (inr lt) = absurd (omega (arith, b, lt))

  -- where it is an event, the events before it are done
  open_events : deeds.is_event p.did ≡ true → AllOf (λ m. m.done ≡ false → deeds.is_event m.step.did ≡ false) before
  open_events v = all_map (λ m h w. false_from_ne_true (deeds.is_event m.step.did) (λ e.
      let a = h.0 e in let b = h.1.0.if_open w in let c = h.1.1 in
      let d = (all_right (λ m. deeds.is_event m.step.did ≡ true → m.step.low ≡ suc m.step.high) before (performed p ∷ after) lows).0 v in absurd (omega (arith, a, b, c, d, p_low)))) before
      (both_of (λ m. deeds.is_event m.step.did ≡ true → m.step.low ≡ suc m.step.high) _ before
      (all_left (λ m. deeds.is_event m.step.did ≡ true → m.step.low ≡ suc m.step.high) before (performed p ∷ after) lows)
      (both_of (IsWithin g) (λ m. m.step.low ≤ p.high) before within_before before_low))

  pub same_local : here.locals p.did.thread ≡ there.locals p.did.thread
  same_local = agree (local_part p.did.thread) z z before (all_map (λ m h w. ne_eqb p.did.thread m.step.did.thread (λ e. h w (sym e))) before none_own) refl

  pub same_cell : (b : ℕ) → p.did.reads b ≡ true → here.cells b ≡ there.cells b
  same_cell b r = agree (cell_part b) z z before
      (all_map (λ m h w. false_from_ne_true (is_some (m.step.did.writes b)) (λ e. h.1 w (record { threads = h.0 w; cell = b; meet = meet_written_read deeds m.step.did p.did b e r }))) before
      (both_of (λ m. m.done ≡ false → m.step.did.thread ≢ p.did.thread) _ before none_own open_apart)) refl

  pub same_objects : deeds.is_event p.did ≡ true → here.objects ≡ there.objects
  same_objects v = agree objects_part z z before (open_events v) refl

  pub turns_same : deeds.is_event p.did ≡ true → turns_here ≡ turns_there
  turns_same v = done_same deeds before 0 (open_events v)

  -- the run isn't over
  going : R.over here.objects ≡ false
  going = go (find_event before)
    where
      go : AllOf (λ m. m.done ≡ false → deeds.is_event m.step.did ≡ false) before ⊎ OpenEvent before → R.over here.objects ≡ false
      go (inl a) = ap R.over (agree objects_part z z before a refl) ∙ taken.may.going
      go (inr o) = ap R.over objects ∙ at.may.going
        where
          marks_are : before ++ performed p ∷ after ≡ o.before ++ pending o.step ∷ (o.after ++ performed p ∷ after)
          marks_are = ap (λ l. l ++ performed p ∷ after) o.parts ∙ append_assoc o.before (pending o.step ∷ o.after) (performed p ∷ after)

          is_whole' : whole (o.before ++ pending o.step ∷ (o.after ++ performed p ∷ after)) ≡ times deeds T 0 full
          is_whole' = ap whole (sym marks_are) ∙ is_whole

          steps_at : full ≡ did_of (whole o.before) ++ o.step.did ∷ did_of (whole (o.after ++ performed p ∷ after))
          steps_at = (sym (did_times deeds T 0 full) ∙ ap did_of (sym is_whole' ∙ whole_append o.before (pending o.step ∷ (o.after ++ performed p ∷ after)))
              ∙ did_append (whole o.before) (o.step ∷ whole (o.after ++ performed p ∷ after)))

          at : Takes R Does T (effects z (did_of (whole o.before))) (turns_done deeds 0 (did_of (whole o.before))) o.step.did
          at = takes (did_of (whole o.before)) o.step.did (did_of (whole (o.after ++ performed p ∷ after))) steps_at (turns_done deeds 0 (did_of (whole o.before))) (omega arith)
              ((turns_right_of deeds T 0 (did_of (whole o.before)) (o.step.did ∷ did_of (whole (o.after ++ performed p ∷ after))) (subst (AreTurns deeds T 0) steps_at is_plan.turns)).0 o.event)

          none : AllOf (λ m. m.done ≡ true → deeds.is_event m.step.did ≡ false) o.after
          none = all_left (λ m. m.done ≡ true → deeds.is_event m.step.did ≡ false) o.after (performed p ∷ after)
              (none_behind T full is_plan g o.before (o.after ++ performed p ∷ after) o.step is_whole' (subst (IsBelow g) marks_are below) o.event)

          objects : here.objects ≡ (effects z (did_of (whole o.before))).objects
          objects = ap (λ l. (effects z (did_of (kept l))).objects) o.parts ∙ places.seen z o.before o.after o.step objects_part o.earlier none

  event_there : R.is_event (here.locals p.did.thread) ≡ true → deeds.is_event p.did ≡ true
  event_there v = runs.takes_event R Does T det there turns_there p.did taken ∙ ap R.is_event (sym same_local) ∙ v

  -- it may be taken behind those that are done before it
  pub may_here : May R T here turns_here p.did.thread
  may_here = record {
    going = going;
    can = ap R.can same_local ∙ taken.may.can;
    turn = taken.may.turn;
    left = let a = done_fewer deeds before 0 0 (omega arith) in let b = taken.may.left in omega (arith, a, b);
    own = taken.may.own;
    next = λ v. ap (slice_get T) (turns_same (event_there v)) ∙ taken.may.next (ap R.is_event (sym same_local) ∙ v);
    ready = λ v.
        ap (λ l. R.ready p.did.thread l here.objects) same_local
        ∙ ap (R.ready p.did.thread (there.locals p.did.thread)) (same_objects (event_there v))
        ∙ taken.may.ready (ap R.is_event (sym same_local) ∙ v);
  }

  pub does_there : Does there p.did
  does_there = taken.is_step
