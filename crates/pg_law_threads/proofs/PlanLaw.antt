-- The law of plans: a machine that obeys a plan stands at its cuts, and its runs are ordered.
use Rattle.std.proofs.Common.{◌≡◌, ◌≢◌, ℕ, ◌==◌, ◌<◌, ◌≤◌, ◌⊎◌, Bool, true, false, cond, List, [], ◌∷◌, ◌++◌, length, Some, refl, sym, ap}
use Rattle.std.proofs.Common.{◌∙◌, subst, arith, suc, inl, inr, append_assoc, append-nil}
use Rattle.std.specs.Prelude.{slice_get, is_some, ◌||◌, ◌&&◌}
use Rattle.std.specs.List.{AllByRecursion as AllOf, filter}
use Rattle.std.proofs.lemmas.List.Elements.{filter-append}
use Rattle.std.proofs.lemmas.Bool.{cases_lt, eqb-true, ne_eqb, or_left, or_right, or_cases, and_parts, and_from, false_from_ne_true}
use Rattle.pg_law_threads.specs.Steps.{View, touches, meet_at, Conflict, EachPair}
use Rattle.pg_law_threads.specs.Intervals.{last_before, next_from, done_after, turns_done, Timed, timed, times, did_of, AreOrdered}
use Rattle.pg_law_threads.specs.Cuts.{Mark, pending, performed, kept, whole, IsCut, IsWithin, IsBelow}
use Rattle.pg_law_threads.specs.Effects.{State, Deed, deeds, or_old, effect, effects, Same}
use Rattle.pg_law_threads.specs.Plans.{IsPlan, is_of_thread, Likeness, Alike, Fits, FitEach, Performs, Obeys, Follows, Moves}
use Rattle.pg_law_threads.proofs.DoneLists.{all_map, both_of, all_join, pairs_more, did_append, all_did, whole_append, kept_append, all_kept, at_marks, at_steps, First, find, cut_flip}
use Rattle.pg_law_threads.proofs.LastAndNextTurn.{last_of_own}
use Rattle.pg_law_threads.proofs.TimedSteps.{did_times, events_below, within_after, last_bound}
use Rattle.pg_law_threads.proofs.NextSteps as cuts
use Rattle.pg_law_threads.proofs.StatesAtCuts as places
use Rattle.pg_law_threads.proofs.EffectsOfSteps.{local_part, objects_part, agree}

module _ {L B E L' B' E' Y : Type 0} (K : Likeness L B E L' B' E') where
  pub alike_same : (z z' : State L B Y) (s : State L' B' Y) → Same z z' → Alike K z s → Alike K z' s
  alike_same z z' s h a = record {
    locals = λ u. subst (λ l. K.local l (s.locals u)) (h.locals u) (a.locals u);
    cells = λ b. subst (λ v. K.cell v (s.cells b)) (h.cells b) (a.cells b);
    objects = sym h.objects ∙ a.objects;
  }

  pub alike_effect : (z : State L B Y) (s : State L' B' Y) (p : Deed L B Y E) (d : Deed L' B' Y E') → Alike K z s → Fits K p d → Alike K (effect z p) (effect s d)
  alike_effect z s p d a f = record {
    locals = λ u. rw f.thread (pick (u == p.thread) (z.locals u) (s.locals u) (a.locals u));
    cells = λ b. f.cells b (z.cells b) (s.cells b) (a.cells b);
    objects = ap (λ o. or_old o z.objects) (sym f.objects) ∙ ap (or_old d.objects) a.objects;
  }
    where
      pick : (e : Bool) (l : L) (k : L') → K.local l k → K.local (cond e p.to l) (cond e d.to k)
      pick true l k h = f.to
      pick false l k h = h

  -- ---- what conflicts in a run conflicts in the plan

  touch_like : (b : ℕ) (p : Deed L B Y E) (d : Deed L' B' Y E') → Fits K p d → touches deeds d b ≡ true → touches deeds p b ≡ true
  touch_like b p d f h = go (or_cases (d.reads b) (is_some (d.writes b)) h)
    where
      go : (d.reads b ≡ true) ⊎ (is_some (d.writes b) ≡ true) → touches deeds p b ≡ true
      go (inl r) = f.reads b r
      go (inr w) = or_right (p.reads b) (is_some (p.writes b)) (f.writes b w)

  pub conflict_like : (q p : Deed L B Y E) (x y : Deed L' B' Y E') → Fits K q x → Fits K p y → Conflict deeds x y → Conflict deeds q p
  conflict_like q p x y f k c = record {
    threads = λ e. c.threads (f.thread ∙ e ∙ sym k.thread);
    cell = c.cell;
    meet = go c.cell (or_cases (is_some (x.writes c.cell) && touches deeds y c.cell) (touches deeds x c.cell && is_some (y.writes c.cell)) c.meet);
  }
    where
      go : (b : ℕ) → ((is_some (x.writes b) && touches deeds y b) ≡ true) ⊎ ((touches deeds x b && is_some (y.writes b)) ≡ true) → meet_at deeds q p b ≡ true
      go b (inl h) =
          let a = and_parts (is_some (x.writes b)) (touches deeds y b) h in
          or_left (is_some (q.writes b) && touches deeds p b) (touches deeds q b && is_some (p.writes b))
          (and_from (is_some (q.writes b)) (touches deeds p b) (f.writes b a.0) (touch_like b p y k a.1))
      go b (inr h) =
          let a = and_parts (touches deeds x b) (is_some (y.writes b)) h in
          or_right (is_some (q.writes b) && touches deeds p b) (touches deeds q b && is_some (p.writes b))
          (and_from (touches deeds q b) (is_some (p.writes b)) (touch_like b q x f a.0) (k.writes b a.1))

pub conflict_back : {A : Type 0} (V : View A) (x y : A) → Conflict V x y → Conflict V y x
conflict_back V x y c = record { threads = λ e. c.threads (sym e); cell = c.cell; meet = go (V.writes x c.cell) (V.reads x c.cell) (V.writes y c.cell) (V.reads y c.cell) c.meet }
  where
    go : (w r v q : Bool) → ((w && (q || v)) || ((r || w) && v)) ≡ true → ((v && (r || w)) || ((q || v) && w)) ≡ true
    go true true true q h = refl
    go true false true q h = refl
    go true r false true h = refl
    go true true false false h = h
    go true false false false h = h
    go false true true q h = refl
    go false false true q h = absurd (cc)
    go false true false q h = absurd (cc)
    go false false false q h = absurd (cc)

module _ {L B E L' B' E' Y : Type 0} (K : Likeness L B E L' B' E') (T : List ℕ) (z : State L B Y) (plan : List (Deed L B Y E))
    (Move : State L' B' Y → ℕ → Deed L' B' Y E' → Type 0) (is_plan : IsPlan deeds T plan) (obeys : Obeys K T z plan Move) where
  -- what holds of the state s after g turns
  pub record Holds (s : State L' B' Y) (g : ℕ) : Type 0 where
    pub cut : Follows K T z plan g s
    pub within : g ≤ length T
    pub reached : g ≤ turns_done deeds 0 plan

  -- a step of the run at hand, and the plan's step that it is
  pub record IsStep (q : Timed (Deed L B Y E)) (x : Timed (Deed L' B' Y E')) : Type 0 where
    pub fits : Fits K q.did x.did
    pub low : x.low ≡ q.low
    pub high : x.high ≡ q.high

  abbrev pub IsOneOf : List (Timed (Deed L B Y E)) → Timed (Deed L' B' Y E') → Type 0
  IsOneOf [] x = ⊥
  IsOneOf (q ∷ qs) x = IsStep q x ⊎ IsOneOf qs x

  abbrev Settled : Timed (Deed L B Y E) → Timed (Deed L B Y E) → Type 0
  Settled q p = Conflict deeds q.did p.did → AreOrdered q p

  -- steps that are ordered in the plan are so in the run at hand
  ordered_like : (q p : Timed (Deed L B Y E)) (x y : Timed (Deed L' B' Y E')) → IsStep q x → IsStep p y → (Settled q p) ⊎ (Settled p q) → Conflict deeds x.did y.did → AreOrdered x y
  ordered_like q p x y h k (inl r) c = rw (h.high, h.low, k.high, k.low) (r (conflict_like K q.did p.did x.did y.did h.fits k.fits c))
  ordered_like q p x y h k (inr r) c = rw (h.high, h.low, k.high, k.low) (turn_round (r (conflict_back deeds q.did p.did (conflict_like K q.did p.did x.did y.did h.fits k.fits c))))
    where
      turn_round : AreOrdered p q → AreOrdered q p
      turn_round (inl a) = inr a
      turn_round (inr a) = inl a

  one_of_all : (P : Timed (Deed L B Y E) → Type 0) (R : Timed (Deed L' B' Y E') → Type 0) → ((q : Timed (Deed L B Y E)) (x : Timed (Deed L' B' Y E')) → IsStep q x → P q → R x)
      → (qs : List (Timed (Deed L B Y E))) (x : Timed (Deed L' B' Y E')) → IsOneOf qs x → AllOf P qs → R x
  one_of_all P R f [] x h a = absurd h
  one_of_all P R f (q ∷ qs) x (inl h) a = f q x h a.0
  one_of_all P R f (q ∷ qs) x (inr h) a = one_of_all P R f qs x h a.1

  one_more : (qs rs : List (Timed (Deed L B Y E))) (p : Timed (Deed L B Y E)) (x : Timed (Deed L' B' Y E')) → IsOneOf (qs ++ rs) x → IsOneOf (qs ++ p ∷ rs) x
  one_more [] rs p x h = inr h
  one_more (q ∷ qs) rs p x (inl h) = inl h
  one_more (q ∷ qs) rs p x (inr h) = inr (one_more qs rs p x h)

  this_one : (qs rs : List (Timed (Deed L B Y E))) (p : Timed (Deed L B Y E)) (x : Timed (Deed L' B' Y E')) → IsStep p x → IsOneOf (qs ++ p ∷ rs) x
  this_one [] rs p x h = inl h
  this_one (q ∷ qs) rs p x h = inr (this_one qs rs p x h)

  -- ---- one step, at the first step p of its thread that isn't done

  module _ (s : State L' B' Y) (g : ℕ) (before after : List (Mark (Timed (Deed L B Y E)))) (p : Timed (Deed L B Y E))
      (is_whole : whole (before ++ pending p ∷ after) ≡ times deeds T 0 plan)
      (is_cut : IsCut deeds (before ++ pending p ∷ after))
      (below : IsBelow g (before ++ pending p ∷ after))
      (alike : Alike K (effects z (did_of (kept (before ++ pending p ∷ after)))) s)
      (within : g ≤ length T) (reached : g ≤ turns_done deeds 0 plan)
      (earlier : AllOf (λ m. m.done ≡ false → m.step.did.thread ≢ p.did.thread) before)
      (d : Deed L' B' Y E') (moved : Move s g d) (mine : d.thread ≡ p.did.thread) where
    abbrev xs : List (Deed L B Y E)
    xs = did_of (whole before)

    split : plan ≡ xs ++ p.did ∷ did_of (whole after)
    split = cuts.split_steps deeds T plan is_plan g before after p is_whole is_cut below earlier

    like_local : K.local ((effects z xs).locals p.did.thread) (s.locals p.did.thread)
    like_local = places.like_local K T z plan is_plan s g before after p is_whole is_cut below alike earlier

    event_here : deeds.is_event d ≡ deeds.is_event p.did
    event_here = obeys.kind xs p.did (did_of (whole after)) split s g d moved mine like_local

    -- where it is an event, it is the next turn
    next : deeds.is_event p.did ≡ true → slice_get T g ≡ Some p.did.thread
    next v = obeys.turn s g d moved (event_here ∙ v) ∙ ap Some mine

    -- the machine's step fits the plan's
    pub step_fits : Fits K p.did d
    step_fits = obeys.fits xs p.did (did_of (whole after)) split s g d moved mine like_local (places.like_cell K T z plan is_plan s g before after p is_whole is_cut below alike earlier next)
        (places.like_objects K T z plan is_plan s g before after p is_whole is_cut below alike earlier next)

    alike_after : Alike K (effects z (did_of (kept (before ++ performed p ∷ after)))) (effect s d)
    alike_after = alike_same K (effect (effects z (did_of (kept (before ++ pending p ∷ after)))) p.did) (effects z (did_of (kept (before ++ performed p ∷ after)))) (effect s d)
        (places.same_after K T z plan is_plan s g before after p is_whole is_cut below alike earlier next)
        (alike_effect K (effects z (did_of (kept (before ++ pending p ∷ after)))) s p.did d alike step_fits)

    pub keeps : Holds (effect s d) (done_after (deeds.is_event d) g)
    keeps = record {
      cut = record {
        marks = before ++ performed p ∷ after;
        is_whole = whole_append before (performed p ∷ after) ∙ sym (cuts.split deeds T plan is_plan g before after p is_whole is_cut below earlier);
        is_cut = cut_flip deeds before p after earlier is_cut;
        below = subst (λ e. IsBelow (done_after e g) (before ++ performed p ∷ after)) (sym event_here) (cuts.below_after deeds T plan is_plan g before after p is_whole is_cut below earlier next);
        alike = alike_after;
      };
      within = within_after deeds T g d within (λ v. obeys.turn s g d moved v);
      reached = subst (λ e. done_after e g ≤ turns_done deeds 0 plan) (sym event_here) (cuts.reached_after deeds T plan is_plan g before after p is_whole is_cut below earlier next reached);
    }

    pub is_step : IsStep p (timed deeds T g d)
    is_step = record {
      fits = step_fits;
      low = ap (λ e. last_before d.thread T (done_after e g)) event_here ∙ ap (λ u. last_before u T (done_after (deeds.is_event p.did) g)) mine
          ∙ cuts.same_low deeds T plan is_plan g before after p is_whole is_cut below earlier next;
      high = ap (λ u. next_from u T g) mine ∙ cuts.same_high deeds T plan is_plan g before after p is_whole is_cut below earlier within;
    }

    pub ordered_new : (x : Timed (Deed L' B' Y E')) → IsOneOf (kept (before ++ pending p ∷ after)) x → Conflict deeds x.did d → AreOrdered x (timed deeds T g d)
    ordered_new x h = one_of_all (λ q. (Settled q p) ⊎ (Settled p q)) (λ x. Conflict deeds x.did d → AreOrdered x (timed deeds T g d))
        (λ q x k o. ordered_like q p x (timed deeds T g d) k is_step o)
        (kept before ++ kept after) x (subst (λ l. IsOneOf l x) (kept_append before (pending p ∷ after)) h)
        (all_join (λ q. (Settled q p) ⊎ (Settled p q)) (kept before) (kept after)
        (all_kept (λ q. (Settled q p) ⊎ (Settled p q)) before (all_map (λ m k w. inl k) before (cuts.before_ordered deeds T plan is_plan g before after p is_whole is_cut below earlier)))
        (all_kept (λ q. (Settled q p) ⊎ (Settled p q)) after (all_map (λ m k w. inr k) after (cuts.after_ordered deeds T plan is_plan g before after p is_whole is_cut below earlier))))

    pub still_one : (x : Timed (Deed L' B' Y E')) → IsOneOf (kept (before ++ pending p ∷ after)) x → IsOneOf (kept (before ++ performed p ∷ after)) x
    still_one x h = subst (λ l. IsOneOf l x) (sym (kept_append before (performed p ∷ after)))
        (one_more (kept before) (kept after) p x (subst (λ l. IsOneOf l x) (kept_append before (pending p ∷ after)) h))

    pub new_one : IsOneOf (kept (before ++ performed p ∷ after)) (timed deeds T g d)
    new_one = subst (λ l. IsOneOf l (timed deeds T g d)) (sym (kept_append before (performed p ∷ after))) (this_one (kept before) (kept after) p (timed deeds T g d) is_step)

  -- what a step leaves, and its place among the steps of the run at hand
  pub record Stepped (s : State L' B' Y) (g : ℕ) (h : Holds s g) (d : Deed L' B' Y E') : Type 0 where
    pub holds : Holds (effect s d) (done_after (deeds.is_event d) g)
    pub ordered : (x : Timed (Deed L' B' Y E')) → IsOneOf (kept h.cut.marks) x → Conflict deeds x.did d → AreOrdered x (timed deeds T g d)
    pub old : (x : Timed (Deed L' B' Y E')) → IsOneOf (kept h.cut.marks) x → IsOneOf (kept holds.cut.marks) x
    pub new : IsOneOf (kept holds.cut.marks) (timed deeds T g d)
    -- it is the first step of its thread that wasn't done
    pub before : List (Mark (Timed (Deed L B Y E)))
    pub step : Timed (Deed L B Y E)
    pub after : List (Mark (Timed (Deed L B Y E)))
    pub was : h.cut.marks ≡ before ++ pending step ∷ after
    pub is_now : holds.cut.marks ≡ before ++ performed step ∷ after
    pub fits : Fits K step.did d
    pub alone : AllOf (λ m. m.done ≡ true → m.step.did.thread ≢ step.did.thread) after
    pub latest : deeds.is_event step.did ≡ true → AllOf (λ m. m.done ≡ true → deeds.is_event m.step.did ≡ false) after

  abbrev NoneLeft : ℕ → List (Mark (Timed (Deed L B Y E))) → Type 0
  NoneLeft u ms = AllOf (λ m. m.done ≡ false → m.step.did.thread ≢ u) ms

  module _ (s : State L' B' Y) (g : ℕ) (h : Holds s g) (u : ℕ) (none : NoneLeft u h.cut.marks) where
    own_low : AllOf (λ x. x.did.thread ≡ u → x.low ≤ g) (times deeds T 0 plan)
    own_low = subst (AllOf (λ x. x.did.thread ≡ u → x.low ≤ g)) h.cut.is_whole (at_steps (λ x. x.did.thread ≡ u → x.low ≤ g) h.cut.marks
        (all_map (λ m k e. one m m.done refl k e) h.cut.marks (both_of (λ m. m.done ≡ false → m.step.did.thread ≢ u) (IsWithin g) h.cut.marks none h.cut.below)))
      where
        one : (m : Mark (Timed (Deed L B Y E))) (b : Bool) → m.done ≡ b → (m.done ≡ false → m.step.did.thread ≢ u) × IsWithin g m → m.step.did.thread ≡ u → m.step.low ≤ g
        one m true w k e = k.1.if_done w
        one m false w k e = absurd (k.0 w e)

    -- a thread of which all steps are done has no turn left of those that the plan does
    pub no_turn_left : (i : ℕ) → g ≤ i → slice_get T i ≡ Some u → turns_done deeds 0 plan ≤ i
    no_turn_left i le o = test (cases_lt i (turns_done deeds 0 plan))
      where
        test : (i < turns_done deeds 0 plan) ⊎ (turns_done deeds 0 plan ≤ i) → turns_done deeds 0 plan ≤ i
        test (inl lt) = let a = last_of_own u T (turns_done deeds 0 plan) i lt o in let c = last_bound deeds T u g 0 plan is_plan.turns (omega arith) own_low in absurd (omega (arith, a, c))
        test (inr ge) = ge

    pub last_local : K.local ((effects z plan).locals u) (s.locals u)
    last_local = subst (λ l. K.local l (s.locals u))
        (agree (local_part u) z z h.cut.marks (all_map (λ m k w. ne_eqb u m.step.did.thread (λ e. k w (sym e))) h.cut.marks none) refl
        ∙ ap (λ l. (effects z (did_of l)).locals u) h.cut.is_whole ∙ ap (λ l. (effects z l).locals u) (did_times deeds T 0 plan)) (h.cut.alike.locals u)

  -- where all turns of the plan are done, its last objects are there
  pub last_objects : (s : State L' B' Y) (g : ℕ) (h : Holds s g) → turns_done deeds 0 plan ≤ g → (effects z plan).objects ≡ s.objects
  last_objects s g h le =
      ap (λ l. (effects z l).objects) (sym (did_times deeds T 0 plan)) ∙ ap (λ l. (effects z (did_of l)).objects) (sym h.cut.is_whole)
      ∙ sym (agree objects_part z z h.cut.marks (all_map
      (λ m k w. false_from_ne_true (deeds.is_event m.step.did) (λ e. let a = k.0 e in let c = k.1.if_open w in absurd (omega (arith, a, c)))) h.cut.marks
      (both_of (λ m. deeds.is_event m.step.did ≡ true → m.step.high < turns_done deeds 0 plan) (IsWithin g) h.cut.marks
      (at_marks (λ x. deeds.is_event x.did ≡ true → x.high < turns_done deeds 0 plan) h.cut.marks
      (subst (AllOf (λ x. deeds.is_event x.did ≡ true → x.high < turns_done deeds 0 plan)) (sym h.cut.is_whole) (events_below deeds T 0 plan is_plan.turns))) h.cut.below)) refl)
      ∙ h.cut.alike.objects

  -- one step of the machine keeps the cut
  pub step_follows : (s : State L' B' Y) (g : ℕ) (d : Deed L' B' Y E') (h : Holds s g) → Move s g d → Stepped s g h d
  unfolding keeps
  step_follows s g d h m = go (find deeds d.thread h.cut.marks)
    where
      go : NoneLeft d.thread h.cut.marks ⊎ First deeds d.thread h.cut.marks → Stepped s g h d
      go (inl a) = absurd (obeys.no_more s g d m h.reached (last_local s g h d.thread a) (no_turn_left s g h d.thread a) (last_objects s g h))
      go (inr f) =
          let is_whole = ap whole (sym f.parts) ∙ h.cut.is_whole in
          let cut = subst (IsCut deeds) f.parts h.cut.is_cut in
          let below = subst (IsBelow g) f.parts h.cut.below in
          let like = subst (λ l. Alike K (effects z (did_of (kept l))) s) f.parts h.cut.alike in
          let early = subst (λ u. AllOf (λ m. m.done ≡ false → m.step.did.thread ≢ u) f.before) (sym f.thread) f.earlier in
          record {
            holds = keeps s g f.before f.after f.step is_whole cut below like h.within h.reached early d m (sym f.thread);
            ordered = λ x k. ordered_new s g f.before f.after f.step is_whole cut below like h.within h.reached early d m (sym f.thread) x (subst (λ l. IsOneOf (kept l) x) f.parts k);
            old = λ x k. still_one s g f.before f.after f.step is_whole cut below like h.within h.reached early d m (sym f.thread) x (subst (λ l. IsOneOf (kept l) x) f.parts k);
            new = new_one s g f.before f.after f.step is_whole cut below like h.within h.reached early d m (sym f.thread);
            before = f.before;
            step = f.step;
            after = f.after;
            was = f.parts;
            is_now = refl;
            fits = step_fits s g f.before f.after f.step is_whole cut below like h.within h.reached early d m (sym f.thread);
            alone = cuts.cut_after deeds T plan is_plan g f.before f.after f.step is_whole cut below early;
            latest = λ v. cuts.done_events deeds T plan is_plan g f.before f.after f.step is_whole cut below early
                (next s g f.before f.after f.step is_whole cut below like h.within h.reached early d m (sym f.thread)) v;
          }

  -- ---- the steps that a run performed

  abbrev done_steps : List (Mark (Timed (Deed L B Y E))) → List (Deed L B Y E)
  done_steps ms = did_of (kept ms)

  done_pending : (before : List (Mark (Timed (Deed L B Y E)))) (p : Timed (Deed L B Y E)) (after : List (Mark (Timed (Deed L B Y E))))
      → done_steps (before ++ pending p ∷ after) ≡ done_steps before ++ done_steps after
  done_pending before p after = ap did_of (kept_append before (pending p ∷ after)) ∙ did_append (kept before) (kept after)

  done_performed : (before : List (Mark (Timed (Deed L B Y E)))) (p : Timed (Deed L B Y E)) (after : List (Mark (Timed (Deed L B Y E))))
      → done_steps (before ++ performed p ∷ after) ≡ done_steps before ++ p.did ∷ done_steps after
  done_performed before p after = ap did_of (kept_append before (performed p ∷ after)) ∙ did_append (kept before) (p ∷ kept after)

  fit_append : (ps : List (Deed L B Y E)) (ds : List (Deed L' B' Y E')) (p : Deed L B Y E) (d : Deed L' B' Y E') → FitEach K ps ds → Fits K p d → FitEach K (ps ++ p ∷ []) (ds ++ d ∷ [])
  fit_append [] [] p d h f = (f, tt)
  fit_append [] (e ∷ ds) p d h f = absurd h
  fit_append (q ∷ ps) [] p d h f = absurd h
  fit_append (q ∷ ps) (e ∷ ds) p d h f = (h.0, fit_append ps ds p d h.1 f)

  -- one more step, chosen by a test on both sides
  chosen : (c : Deed L B Y E → Bool) (e : Deed L' B' Y E' → Bool) (before : List (Mark (Timed (Deed L B Y E)))) (p : Timed (Deed L B Y E)) (after : List (Mark (Timed (Deed L B Y E))))
      (es : List (Deed L' B' Y E')) (d : Deed L' B' Y E') →
      c p.did ≡ e d → Fits K p.did d → (c p.did ≡ true → AllOf (λ m. m.done ≡ true → c m.step.did ≡ false) after) →
      FitEach K (filter c (done_steps (before ++ pending p ∷ after))) (filter e es) → FitEach K (filter c (done_steps (before ++ performed p ∷ after))) (filter e (es ++ d ∷ []))
  chosen c e before p after es d same f late h =
      subst (λ l. FitEach K l (filter e (es ++ d ∷ []))) (sym (ap (filter c) (done_performed before p after) ∙ filter-append c (done_steps before) (p.did ∷ done_steps after)))
      (subst (λ l. FitEach K (filter c (done_steps before) ++ filter c (p.did ∷ done_steps after)) l) (sym (filter-append e es (d ∷ [])))
      (go (c p.did) refl (subst (λ l. FitEach K l (filter e es)) (ap (filter c) (done_pending before p after) ∙ filter-append c (done_steps before) (done_steps after)) h)))
    where
      none_chosen : (ms : List (Mark (Timed (Deed L B Y E)))) → AllOf (λ m. m.done ≡ true → c m.step.did ≡ false) ms → filter c (done_steps ms) ≡ []
      none_chosen ms a = none (done_steps ms) (all_did (λ x. c x ≡ false) (kept ms) (all_kept (λ x. c x.did ≡ false) ms a))
        where
          none : (ps : List (Deed L B Y E)) → AllOf (λ x. c x ≡ false) ps → filter c ps ≡ []
          none [] a = refl
          none (q ∷ ps) a = rw a.0 (none ps a.1)

      go : (b : Bool) → c p.did ≡ b → FitEach K (filter c (done_steps before) ++ filter c (done_steps after)) (filter e es) →
          FitEach K (filter c (done_steps before) ++ cond (c p.did) (p.did ∷ filter c (done_steps after)) (filter c (done_steps after))) (filter e es ++ cond (e d) (d ∷ []) [])
      go true w k =
          let z : filter c (done_steps after) ≡ [] = none_chosen after (late w) in
          let k' : FitEach K (filter c (done_steps before)) (filter e es) = subst (λ l. FitEach K l (filter e es)) (append-nil (filter c (done_steps before))) (rw z at k) in
          rw (w, sym same ∙ w, z) (fit_append (filter c (done_steps before)) (filter e es) p.did d k' f)
      go false w k = rw (w, sym same ∙ w) (subst (FitEach K (filter c (done_steps before) ++ filter c (done_steps after))) (sym (append-nil (filter e es))) k)

  length_one : {A : Type 0} (xs ys : List A) (x : A) → length (xs ++ x ∷ ys) ≡ suc (length (xs ++ ys))
  length_one [] ys x = refl
  length_one (z ∷ xs) ys x = ap suc (length_one xs ys x)

  -- what a step adds to them
  performs_more : (s : State L' B' Y) (g : ℕ) (d : Deed L' B' Y E') (h : Holds s g) (st : Stepped s g h d) (es : List (Deed L' B' Y E')) →
      Performs K (done_steps h.cut.marks) es → Performs K (done_steps st.holds.cut.marks) (es ++ d ∷ [])
  performs_more s g d h st es r =
      let was = subst (λ l. Performs K (done_steps l) es) st.was r in
      subst (λ l. Performs K (done_steps l) (es ++ d ∷ [])) (sym st.is_now) (record {
        threads = λ u. chosen (is_of_thread u) (is_of_thread u) st.before st.step st.after es d (ap (λ t. u == t) (sym st.fits.thread)) st.fits
            (λ v. all_map (λ m k w. ne_eqb u m.step.did.thread (λ q. k w (sym q ∙ eqb-true u st.step.did.thread v))) st.after st.alone) (was.threads u);
        events = chosen deeds.is_event deeds.is_event st.before st.step st.after es d (ap is_some (sym st.fits.objects)) st.fits st.latest was.events;
        number = ap length (done_performed st.before st.step st.after) ∙ length_one (done_steps st.before) (done_steps st.after) st.step.did
            ∙ ap suc (sym (ap length (done_pending st.before st.step st.after)) ∙ was.number)
            ∙ ap suc (sym (ap length (append-nil es))) ∙ sym (length_one es [] d);
      })

  -- ---- a whole run

  abbrev pub AreSettled : List (Timed (Deed L' B' Y E')) → Type 0
  AreSettled xs = EachPair (λ x y. Conflict deeds x.did y.did → AreOrdered x y) xs

  -- a run stands at a cut, has performed what is done there, and is ordered
  pub record Stands (s : State L' B' Y) (g : ℕ) (run : List (Deed L' B' Y E')) (xs : List (Timed (Deed L' B' Y E'))) : Type 0 where
    pub holds : Holds s g
    pub performs : Performs K (done_steps holds.cut.marks) run
    pub settled : AreSettled xs

  pub run_follows : (s : State L' B' Y) (g : ℕ) (ds es : List (Deed L' B' Y E')) (xs : List (Timed (Deed L' B' Y E'))) (h : Holds s g) → Performs K (done_steps h.cut.marks) es →
      AllOf (IsOneOf (kept h.cut.marks)) xs → AreSettled xs → Moves Move s g ds → Stands (effects s ds) (turns_done deeds g ds) (es ++ ds) (xs ++ times deeds T g ds)
  run_follows s g [] es xs h r a o m = record { holds = h; performs = subst (Performs K (done_steps h.cut.marks)) (sym (append-nil es)) r; settled = subst AreSettled (sym (append-nil xs)) o }
  run_follows s g (d ∷ ds) es xs h r a o m =
      let st = step_follows s g d h m.0 in
      let t = timed deeds T g d in
      let g' = done_after (deeds.is_event d) g in
      let next = run_follows (effect s d) g' ds (es ++ d ∷ []) (xs ++ t ∷ []) st.holds (performs_more s g d h st es r)
      (all_join (IsOneOf (kept st.holds.cut.marks)) xs (t ∷ []) (all_map st.old xs a) (st.new, tt))
      (pairs_more (λ x y. Conflict deeds x.did y.did → AreOrdered x y) xs t o (all_map st.ordered xs a)) m.1 in
      record {
        holds = next.holds;
        performs = subst (Performs K (done_steps next.holds.cut.marks)) (append_assoc es (d ∷ []) ds) next.performs;
        settled = subst AreSettled (append_assoc xs (t ∷ []) (times deeds T g' ds)) next.settled;
      }

  -- ---- at the start nothing is done

  all_pending : List (Timed (Deed L B Y E)) → List (Mark (Timed (Deed L B Y E)))
  all_pending [] = []
  all_pending (x ∷ xs) = pending x ∷ all_pending xs

  whole_pending : (xs : List (Timed (Deed L B Y E))) → whole (all_pending xs) ≡ xs
  unfolding all_pending
  whole_pending [] = refl
  whole_pending (x ∷ xs) = ap (λ l. x ∷ l) (whole_pending xs)

  kept_pending : (xs : List (Timed (Deed L B Y E))) → kept (all_pending xs) ≡ []
  unfolding all_pending
  kept_pending [] = refl
  kept_pending (x ∷ xs) = kept_pending xs

  none_done : (u : ℕ) (ys : List (Timed (Deed L B Y E))) → AllOf (λ n. n.done ≡ true → n.step.did.thread ≢ u) (all_pending ys)
  unfolding all_pending
  none_done u [] = tt
  none_done u (y ∷ ys) = ((λ w. absurd (cc)), none_done u ys)

  cut_pending : (xs : List (Timed (Deed L B Y E))) → IsCut deeds (all_pending xs)
  unfolding all_pending
  cut_pending [] = tt
  cut_pending (x ∷ xs) = ((λ w. none_done x.did.thread xs), cut_pending xs)

  below_pending : (xs : List (Timed (Deed L B Y E))) → IsBelow 0 (all_pending xs)
  unfolding all_pending
  below_pending [] = tt
  below_pending (x ∷ xs) = (record { if_done = λ w. absurd (cc); if_open = λ w. omega arith }, below_pending xs)

  pub at_start : (s : State L' B' Y) → Alike K z s → Holds s 0
  at_start s a = record {
    cut = record {
      marks = all_pending (times deeds T 0 plan);
      is_whole = whole_pending (times deeds T 0 plan);
      is_cut = cut_pending (times deeds T 0 plan);
      below = below_pending (times deeds T 0 plan);
      alike = subst (λ l. Alike K (effects z (did_of l)) s) (sym (kept_pending (times deeds T 0 plan))) a;
    };
    within = omega arith;
    reached = omega arith;
  }

  pub performs_none : (s : State L' B' Y) (a : Alike K z s) → Performs K (done_steps (at_start s a).cut.marks) []
  unfolding at_start
  performs_none s a = subst (λ l. Performs K (did_of l) []) (sym (kept_pending (times deeds T 0 plan))) (record { threads = λ u. tt; events = tt; number = refl })

  -- each run of the machine from a state like the plan's stands at a cut of the plan, and is ordered
  pub follows_plan : (s : State L' B' Y) → Alike K z s → (ds : List (Deed L' B' Y E')) → Moves Move s 0 ds → Stands (effects s ds) (turns_done deeds 0 ds) ds (times deeds T 0 ds)
  follows_plan s a ds m = run_follows s 0 ds [] [] (at_start s a) (performs_none s a) tt tt m
