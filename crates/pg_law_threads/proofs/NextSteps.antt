-- A cut, and the first step of a thread that isn't done: what it has to do with the others.
use Rattle.std.proofs.Common.{◌≡◌, ◌≢◌, ℕ, ◌<◌, ◌≤◌, ◌⊎◌, Bool, true, false, List, ◌∷◌, ◌++◌, length, Some, refl, sym, ap, ◌∙◌, subst, arith}
use Rattle.std.proofs.Common.{suc, inl, inr}
use Rattle.std.specs.Prelude.{slice_get}
use Rattle.std.specs.List.{AllByRecursion as AllOf}
use Rattle.std.proofs.lemmas.Bool.{cases_eq, cases_lt, cases_Bool, cases_order, false_from_ne_true}
use Rattle.pg_law_threads.specs.Steps.{View, Conflict, EachPair}
use Rattle.pg_law_threads.specs.Intervals.{last_before, next_from, done_after, turns_done, Timed, timed, times, did_of, AreOrdered, AreTurns}
use Rattle.pg_law_threads.specs.Cuts.{Mark, pending, performed, whole, IsCut, IsWithin, IsBelow}
use Rattle.pg_law_threads.specs.Plans.{IsPlan}
use Rattle.pg_law_threads.proofs.DoneLists.{all_map, both_of, all_left, all_right, all_join, pairs_before, pairs_after, did_append, whole_append, at_marks, at_steps, cut_at}
use Rattle.pg_law_threads.proofs.LastAndNextTurn.{one_owner, last_of_own, last_same, next_of_own, next_same, owner_below}
use Rattle.pg_law_threads.proofs.TimedSteps.{did_times, turns_left_of, turns_right_of, within_end, event_low, event_high, plain_low, low_high, events_low, events_below, highs_own, timed_at}
use Rattle.pg_law_threads.proofs.TimedSteps.{times_front, last_bound}

module _ {A : Type 0} (V : View A) (T : List ℕ) (plan : List A) (is_plan : IsPlan V T plan) (g : ℕ)
    (before after : List (Mark (Timed A))) (p : Timed A)
    (is_whole : whole (before ++ pending p ∷ after) ≡ times V T 0 plan)
    (is_cut : IsCut V (before ++ pending p ∷ after))
    (below : IsBelow g (before ++ pending p ∷ after))
    (earlier : AllOf (λ m. m.done ≡ false → V.thread m.step.did ≢ V.thread p.did) before) where
  -- ---- its place

  pub split : times V T 0 plan ≡ whole before ++ p ∷ whole after
  split = sym is_whole ∙ whole_append before (pending p ∷ after)

  pub split_steps : plan ≡ did_of (whole before) ++ p.did ∷ did_of (whole after)
  split_steps = sym (did_times V T 0 plan) ∙ ap did_of split ∙ did_append (whole before) (p ∷ whole after)

  -- the turns that the steps before it do
  abbrev turns : ℕ
  turns = turns_done V 0 (did_of (whole before))

  p_timed : p ≡ timed V T turns p.did
  p_timed = timed_at V T 0 plan (whole before) p (whole after) split

  split_turns : AreTurns V T 0 (did_of (whole before) ++ p.did ∷ did_of (whole after))
  split_turns = subst (AreTurns V T 0) split_steps is_plan.turns

  p_turn_is : V.is_event p.did ≡ true → slice_get T turns ≡ Some (V.thread p.did)
  p_turn_is = (turns_right_of V T 0 (did_of (whole before)) (p.did ∷ did_of (whole after)) split_turns).0

  pub turns_within : turns ≤ length T
  turns_within = within_end V T 0 (did_of (whole before)) (omega arith) (turns_left_of V T 0 (did_of (whole before)) (p.did ∷ did_of (whole after)) split_turns)

  p_low_is : p.low ≡ last_before (V.thread p.did) T (done_after (V.is_event p.did) turns)
  p_low_is = ap (λ x. x.low) p_timed

  pub p_high_is : p.high ≡ next_from (V.thread p.did) T turns
  p_high_is = ap (λ x. x.high) p_timed

  p_plain_low : V.is_event p.did ≡ false → p.low ≡ last_before (V.thread p.did) T turns
  p_plain_low v = p_low_is ∙ plain_low V T turns p.did v

  pub p_event : V.is_event p.did ≡ true → p.low ≡ suc p.high
  p_event v = p_low_is ∙ event_low V T turns p.did p_turn_is v ∙ ap suc (sym (p_high_is ∙ event_high V T turns p.did p_turn_is v))

  -- ---- the others

  ends_all : 0 ≤ length T
  ends_all = omega arith

  in_order : EachPair (λ x y. x.low ≤ y.high) (whole before ++ p ∷ whole after)
  in_order = subst (EachPair (λ x y. x.low ≤ y.high)) split (low_high V T 0 plan ends_all is_plan.turns)

  pub before_low : AllOf (λ m. m.step.low ≤ p.high) before
  before_low = at_marks (λ x. x.low ≤ p.high) before (pairs_before (λ x y. x.low ≤ y.high) (whole before) p (whole after) in_order)

  pub after_high : AllOf (λ m. p.low ≤ m.step.high) after
  after_high = at_marks (λ x. p.low ≤ x.high) after (pairs_after (λ x y. x.low ≤ y.high) (whole before) p (whole after) in_order)

  abbrev Settled : Timed A → Timed A → Type 0
  Settled x y = Conflict V x.did y.did → AreOrdered x y

  pub before_ordered : AllOf (λ m. Settled m.step p) before
  before_ordered = at_marks (λ x. Settled x p) before (pairs_before Settled (whole before) p (whole after) (subst (EachPair Settled) split is_plan.ordered))

  pub after_ordered : AllOf (λ m. Settled p m.step) after
  after_ordered = at_marks (λ x. Settled p x) after (pairs_after Settled (whole before) p (whole after) (subst (EachPair Settled) split is_plan.ordered))

  events_all : AllOf (λ m. V.is_event m.step.did ≡ true → m.step.low ≡ suc m.step.high) (before ++ pending p ∷ after)
  events_all = at_marks (λ x. V.is_event x.did ≡ true → x.low ≡ suc x.high) (before ++ pending p ∷ after)
      (subst (AllOf (λ x. V.is_event x.did ≡ true → x.low ≡ suc x.high)) (sym is_whole) (events_low V T 0 plan is_plan.turns))

  abbrev IsOwn : Timed A → Type 0
  IsOwn y = (slice_get T y.high ≡ Some (V.thread y.did)) ⊎ (y.high ≡ length T)

  owners_all : AllOf (λ m. IsOwn m.step) (before ++ pending p ∷ after)
  owners_all = at_marks IsOwn (before ++ pending p ∷ after) (subst (AllOf IsOwn) (sym is_whole) (highs_own V T 0 plan))

  pub cut_after : AllOf (λ n. n.done ≡ true → V.thread n.step.did ≢ V.thread p.did) after
  cut_after = cut_at V before (pending p) after is_cut refl

  within_before : AllOf (IsWithin g) before
  within_before = all_left (IsWithin g) before (pending p ∷ after) below

  within_behind : AllOf (IsWithin g) (pending p ∷ after)
  within_behind = all_right (IsWithin g) before (pending p ∷ after) below

  open_high : AllOf (λ m. m.done ≡ false → g ≤ m.step.high) before
  open_high = all_map (λ m h. h.if_open) before within_before

  done_low : AllOf (λ m. m.done ≡ true → m.step.low ≤ g) after
  done_low = all_map (λ m h. h.if_done) after within_behind.1

  -- ---- the step and the turns that are done

  pub p_high : g ≤ p.high
  p_high = within_behind.0.if_open refl

  own_low : AllOf (λ x. V.thread x.did ≡ V.thread p.did → x.low ≤ g) (whole before)
  own_low = at_steps (λ x. V.thread x.did ≡ V.thread p.did → x.low ≤ g) before
      (all_map (λ m h e. one m m.done refl h e) before (both_of (λ m. m.done ≡ false → V.thread m.step.did ≢ V.thread p.did) (IsWithin g) before earlier within_before))
    where
      one : (m : Mark (Timed A)) (b : Bool) → m.done ≡ b → (m.done ≡ false → V.thread m.step.did ≢ V.thread p.did) × IsWithin g m → V.thread m.step.did ≡ V.thread p.did
          → m.step.low ≤ g
      one m true w h e = h.1.if_done w
      one m false w h e = absurd (h.0 w e)

  -- its thread's last turn is done
  last_turn : last_before (V.thread p.did) T turns ≤ g
  last_turn = last_bound V T (V.thread p.did) g 0 (did_of (whole before))
      (turns_left_of V T 0 (did_of (whole before)) (p.did ∷ did_of (whole after)) split_turns) (omega arith)
      (subst (AllOf (λ x. V.thread x.did ≡ V.thread p.did → x.low ≤ g)) (sym (times_front V T 0 plan (whole before) (p ∷ whole after) split)) own_low)

  -- between the turns done in the plan before it and those done now, none is its thread's
  none_up : (i : ℕ) → g ≤ i → i < turns → slice_get T i ≡ Some (V.thread p.did) → ⊥
  none_up i a b o = let l = last_of_own (V.thread p.did) T turns i b o in absurd (omega (arith, l, last_turn))

  none_down : (i : ℕ) → turns ≤ i → i < g → slice_get T i ≡ Some (V.thread p.did) → ⊥
  none_down i a b o = let l = next_of_own (V.thread p.did) T turns i a o in absurd (omega (arith, l, p_high_is, p_high))

  pub p_plain : V.is_event p.did ≡ false → p.low ≤ g
  p_plain v = let z = p_plain_low v in omega (arith, z, last_turn)

  -- the turns that are done are those before it, where it is the next turn
  turns_here : V.is_event p.did ≡ true → slice_get T g ≡ Some (V.thread p.did) → turns ≡ g
  turns_here v n = go (cases_order turns g)
    where
      go : (turns ≡ g) ⊎ ((turns < g) ⊎ (g < turns)) → turns ≡ g
      go (inl e) = e
      go (inr (inl lt)) = absurd (none_down turns (omega arith) lt (p_turn_is v))
      go (inr (inr gt)) = absurd (none_up g (omega arith) gt n)

  pub p_turn : V.is_event p.did ≡ true → slice_get T g ≡ Some (V.thread p.did) → p.high ≡ g
  p_turn v n = p_high_is ∙ event_high V T turns p.did p_turn_is v ∙ turns_here v n

  -- the interval that a run gives it where it is taken now
  pub same_high : g ≤ length T → next_from (V.thread p.did) T g ≡ p.high
  same_high within = go (cases_lt g turns) ∙ sym p_high_is
    where
      go : (g < turns) ⊎ (turns ≤ g) → next_from (V.thread p.did) T g ≡ next_from (V.thread p.did) T turns
      go (inl lt) = next_same (V.thread p.did) T g turns (omega arith) turns_within none_up
      go (inr le) = sym (next_same (V.thread p.did) T turns g le within none_down)

  pub same_low : (V.is_event p.did ≡ true → slice_get T g ≡ Some (V.thread p.did)) → last_before (V.thread p.did) T (done_after (V.is_event p.did) g) ≡ p.low
  same_low next = go (V.is_event p.did) refl (cases_lt g turns)
    where
      go : (e : Bool) → V.is_event p.did ≡ e → (g < turns) ⊎ (turns ≤ g) → last_before (V.thread p.did) T (done_after (V.is_event p.did) g) ≡ p.low
      go true v c = ap (λ n. last_before (V.thread p.did) T (done_after (V.is_event p.did) n)) (sym (turns_here v (next v))) ∙ sym p_low_is
      go false v (inl lt) = ap (λ e. last_before (V.thread p.did) T (done_after e g)) v ∙ last_same (V.thread p.did) T g turns (omega arith) none_up ∙ sym (p_plain_low v)
      go false v (inr le) = ap (λ e. last_before (V.thread p.did) T (done_after e g)) v ∙ sym (last_same (V.thread p.did) T turns g le none_down) ∙ sym (p_plain_low v)

  -- ---- the step that is next

  module _ (next : V.is_event p.did ≡ true → slice_get T g ≡ Some (V.thread p.did)) where
    -- turn g is no other thread's
    not_turn : (m : Mark (Timed A)) → V.thread m.step.did ≢ V.thread p.did → IsOwn m.step → V.is_event p.did ≡ true → m.step.high ≡ g → ⊥
    not_turn m ne (inl a) v q = ne (one_owner T m.step.high g (V.thread m.step.did) (V.thread p.did) q a (next v))
    not_turn m ne (inr a) v q = let l = owner_below T g (V.thread p.did) (next v) in absurd (omega (arith, a, q, l))

    -- no step before it that isn't done conflicts with it
    pub open_apart : AllOf (λ m. m.done ≡ false → Conflict V m.step.did p.did → ⊥) before
    open_apart = all_map (λ m h w c. one m (h.0 w) h.1.0 (h.1.1.0 w) h.1.1.1.0 h.1.1.1.1 c) before
        (both_of (λ m. m.done ≡ false → V.thread m.step.did ≢ V.thread p.did) _ before earlier
        (both_of (λ m. Settled m.step p) _ before before_ordered
        (both_of (λ m. m.done ≡ false → g ≤ m.step.high) _ before open_high
        (both_of (λ m. m.step.low ≤ p.high) (λ m. IsOwn m.step) before before_low (all_left (λ m. IsOwn m.step) before (pending p ∷ after) owners_all)))))
      where
        one : (m : Mark (Timed A)) → V.thread m.step.did ≢ V.thread p.did → Settled m.step p → g ≤ m.step.high → m.step.low ≤ p.high → IsOwn m.step → Conflict V m.step.did p.did
            → ⊥
        one m ne o gh lh own c = go (o c) (cases_Bool (V.is_event p.did))
          where
            go : AreOrdered m.step p → (V.is_event p.did ≡ true) ⊎ (V.is_event p.did ≡ false) → ⊥
            go (inr lt) v = absurd (omega arith)
            go (inl lt) (inr v) = let z = p_plain v in absurd (omega arith)
            go (inl lt) (inl v) = let z = p_event v in let y = p_turn v (next v) in not_turn m ne own v (omega arith)

    -- no step behind it that is done conflicts with it
    pub done_apart : AllOf (λ m. m.done ≡ true → Conflict V p.did m.step.did → ⊥) after
    done_apart = all_map (λ m h w c. one m h.0 (h.1.0 w) h.1.1 c) after
        (both_of (λ m. Settled p m.step) _ after after_ordered
        (both_of (λ m. m.done ≡ true → m.step.low ≤ g) (λ m. p.low ≤ m.step.high) after done_low after_high))
      where
        one : (m : Mark (Timed A)) → Settled p m.step → m.step.low ≤ g → p.low ≤ m.step.high → Conflict V p.did m.step.did → ⊥
        one m o lg ph c = go (o c)
          where
            go : AreOrdered p m.step → ⊥
            go (inl lt) = absurd (omega (arith, p_high))
            go (inr lt) = absurd (omega arith)

    -- where it is an event, the events before it are done, and none behind it is
    pub open_events : V.is_event p.did ≡ true → AllOf (λ m. m.done ≡ false → V.is_event m.step.did ≡ false) before
    open_events v = all_map (λ m h w. false_from_ne_true (V.is_event m.step.did)
        (λ e. let a = h.0 e in let c = h.1.0 w in let d = h.1.1 in let q = p_turn v (next v) in absurd (omega (arith, a, c, d, q)))) before
        (both_of (λ m. V.is_event m.step.did ≡ true → m.step.low ≡ suc m.step.high) _ before
        (all_left (λ m. V.is_event m.step.did ≡ true → m.step.low ≡ suc m.step.high) before (pending p ∷ after) events_all)
        (both_of (λ m. m.done ≡ false → g ≤ m.step.high) (λ m. m.step.low ≤ p.high) before open_high before_low))

    pub done_events : V.is_event p.did ≡ true → AllOf (λ m. m.done ≡ true → V.is_event m.step.did ≡ false) after
    done_events v = all_map (λ m h w. false_from_ne_true (V.is_event m.step.did)
        (λ e. let a = h.0 e in let c = h.1.0 w in let d = h.1.1 in let q = p_event v in let r = p_turn v (next v) in absurd (omega (arith, a, c, d, q, r)))) after
        (both_of (λ m. V.is_event m.step.did ≡ true → m.step.low ≡ suc m.step.high) _ after
        (all_right (λ m. V.is_event m.step.did ≡ true → m.step.low ≡ suc m.step.high) before (pending p ∷ after) events_all).1
        (both_of (λ m. m.done ≡ true → m.step.low ≤ g) (λ m. p.low ≤ m.step.high) after done_low after_high))

    -- the marks once it is done
    pub below_after : IsBelow (done_after (V.is_event p.did) g) (before ++ performed p ∷ after)
    below_after = all_join (IsWithin (done_after (V.is_event p.did) g)) before (performed p ∷ after)
        (all_map (λ m h. record {
          if_done = λ w. low_grows (V.is_event p.did) m.step.low (h.0.if_done w);
          if_open = λ w. high_of (V.is_event p.did) refl m (h.0.if_open w) (λ v e. not_turn m (h.1.0 w) h.1.1 v e);
        }) before
        (both_of (IsWithin g) _ before within_before
        (both_of (λ m. m.done ≡ false → V.thread m.step.did ≢ V.thread p.did) (λ m. IsOwn m.step) before earlier (all_left (λ m. IsOwn m.step) before (pending p ∷ after) owners_all)))) (
          record { if_done = λ w. p_low_after (V.is_event p.did) refl; if_open = λ w. absurd (cc) },
          all_map (λ m h. record {
            if_done = λ w. low_grows (V.is_event p.did) m.step.low (h.0.if_done w);
            if_open = λ w. high_of (V.is_event p.did) refl m (h.0.if_open w) (λ v e. let a = p_event v in let c = p_turn v (next v) in let d = h.1 in absurd (omega (arith, a, c, d, e)));
          }) after
              (both_of (IsWithin g) (λ m. p.low ≤ m.step.high) after within_behind.1 after_high),
        )
      where
        low_grows : (e : Bool) (l : ℕ) → l ≤ g → l ≤ done_after e g
        low_grows true l h = omega arith
        low_grows false l h = h

        high_of : (e : Bool) → V.is_event p.did ≡ e → (m : Mark (Timed A)) → g ≤ m.step.high → (V.is_event p.did ≡ true → m.step.high ≡ g → ⊥) → done_after e g ≤ m.step.high
        high_of true v m h ne = ge (cases_eq m.step.high g)
          where
            ge : (m.step.high ≡ g) ⊎ (m.step.high ≡ g → ⊥) → suc g ≤ m.step.high
            ge (inl e) = absurd (ne v e)
            ge (inr n) = omega arith
        high_of false v m h ne = h

        p_low_after : (e : Bool) → V.is_event p.did ≡ e → p.low ≤ done_after e g
        p_low_after true v = let a = p_event v in let c = p_turn v (next v) in omega arith
        p_low_after false v = p_plain v

    -- where it is an event, the plan does its turn
    pub reached_after : g ≤ turns_done V 0 plan → done_after (V.is_event p.did) g ≤ turns_done V 0 plan
    reached_after h = go (V.is_event p.did) refl
      where
        go : (e : Bool) → V.is_event p.did ≡ e → done_after e g ≤ turns_done V 0 plan
        go true v =
            let a = (all_right (λ x. V.is_event x.did ≡ true → x.high < turns_done V 0 plan) (whole before) (p ∷ whole after)
            (subst (AllOf (λ x. V.is_event x.did ≡ true → x.high < turns_done V 0 plan)) split (events_below V T 0 plan is_plan.turns))).0 v in
            let c = p_turn v (next v) in omega arith
        go false v = h
