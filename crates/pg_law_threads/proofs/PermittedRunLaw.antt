-- The law of permitted runs, by the law of plans: the plan is the full run itself.
use Rattle.std.proofs.Common.{◌≡◌, ◌≢◌, ℕ, ◌<◌, ◌≤◌, ◌⊎◌, Bool, true, false, cond, List, [], ◌∷◌, ◌++◌, length, map, Some, refl, sym, ap, ◌∙◌}
use Rattle.std.proofs.Common.{subst, arith, suc, inl, inr}
use Rattle.std.specs.Prelude.{slice_get, is_some}
use Rattle.std.specs.List.{AllByRecursion as AllOf, filter}
use Rattle.std.proofs.lemmas.Bool.{true≢false, cases_Bool, or_left}
use Rattle.pg_law_threads.specs.Intervals.{next_from, done_after, turns_done, Timed, times, did_of, AreTurns, IsOrdered}
use Rattle.pg_law_threads.specs.Cuts.{Mark, pending, kept, whole, IsCut, IsWithin, IsBelow}
use Rattle.pg_law_threads.specs.Effects.{State, Deed, deeds, or_old, effect, effects, IsSame}
use Rattle.pg_law_threads.specs.Plans.{IsPlan, is_of_thread, Likeness, Alike, Fits, FitEach, Performs, Obeys, Moves}
use Rattle.pg_law_threads.specs.Machines.{Rules, May, AreDetermined, Takes, IsPermitted, IsFull, Machine, does, IsDeterministic, IsRearranged, EndsAs, IsAtEnd, HasOrdered, IsPart}
use Rattle.pg_law_threads.proofs.DoneLists.{all_map, both_of, all_left, whole_append, did_append, at_steps, First, find, FirstOpen, find_open, kept_all}
use Rattle.pg_law_threads.proofs.LastAndNextTurn.{owner_below, next_is, next_own, next_of_own}
use Rattle.pg_law_threads.proofs.TimedSteps.{did_times, event_low, times_front, turns_left_of}
use Rattle.pg_law_threads.proofs.NextSteps as cuts
use Rattle.pg_law_threads.proofs.EffectsOfSteps.{deed_then, deed_back, objects_part}
use Rattle.pg_law_threads.proofs.StatesAtCuts as places
use Rattle.pg_law_threads.proofs.FirstOfKind.{OpenEvent, find_event, none_behind}
use Rattle.pg_law_threads.proofs.PlanLaw.{Holds, Stands, no_turn_left, last_local, last_objects, follows_plan}

-- equal states are alike
abbrev pub equal : (L B E : Type 0) → Likeness L B E L B E
equal L B E = record { local = λ a b. a ≡ b; cell = λ a b. a ≡ b; told = λ a b. a ≡ b }

module _ {L B Y E : Type 0} where
  fits_of_same : (p d : Deed L B Y E) → IsSame p d → Fits (equal L B E) p d
  fits_of_same p d h = record {
    thread = sym h.thread;
    to = h.to;
    told = h.told;
    objects = sym h.objects;
    cells = λ b v w q. ap (or_old (p.writes b)) q ∙ ap (λ o. or_old o w) (h.writes b);
    reads = λ b r. or_left (p.reads b) (is_some (p.writes b)) (h.reads b ∙ r);
    writes = λ b w. ap is_some (h.writes b) ∙ w;
  }

  fit_told : (ps ds : List (Deed L B Y E)) → FitEach (equal L B E) ps ds → map (λ d. d.told) ds ≡ map (λ d. d.told) ps
  fit_told [] [] h = refl
  fit_told [] (d ∷ ds) h = absurd h
  fit_told (p ∷ ps) [] h = absurd h
  fit_told (p ∷ ps) (d ∷ ds) h = let a = h.0.told in let ih = fit_told ps ds h.1 in cc

  fit_locals : (ps ds : List (Deed L B Y E)) → FitEach (equal L B E) ps ds → map (λ d. d.to) ds ≡ map (λ d. d.to) ps
  fit_locals [] [] h = refl
  fit_locals [] (d ∷ ds) h = absurd h
  fit_locals (p ∷ ps) [] h = absurd h
  fit_locals (p ∷ ps) (d ∷ ds) h = let a = h.0.to in let ih = fit_locals ps ds h.1 in cc

  rearranged : (T : List ℕ) (s : State L B Y) (ps ds : List (Deed L B Y E)) → Performs (equal L B E) ps ds → IsRearranged T s ds ps
  rearranged T s ps ds h = record {
    told = λ u. fit_told (filter (is_of_thread u) ps) (filter (is_of_thread u) ds) (h.threads u);
    locals = λ u. fit_locals (filter (is_of_thread u) ps) (filter (is_of_thread u) ds) (h.threads u);
    events = fit_told (filter deeds.is_event ps) (filter deeds.is_event ds) h.events;
    number = sym h.number;
  }

module _ {L B Y E : Type 0} (R : Rules L Y) (Does : State L B Y → Deed L B Y E → Type 0) (T : List ℕ) (det : AreDetermined R Does) where
  pub takes_event : (s : State L B Y) (g : ℕ) (d : Deed L B Y E) → Takes R Does T s g d → deeds.is_event d ≡ R.is_event (s.locals d.thread)
  takes_event s g d h = det.event s d h.is_step

  moves_of : (s : State L B Y) (g : ℕ) (ds : List (Deed L B Y E)) → IsPermitted R Does T s g ds → Moves (Takes R Does T) s g ds
  moves_of s g [] h = tt
  moves_of s g (d ∷ ds) h = (h.0, moves_of (effect s d) (done_after (deeds.is_event d) g) ds h.1)

  pub turns_of : (s : State L B Y) (g : ℕ) (ds : List (Deed L B Y E)) → IsPermitted R Does T s g ds → AreTurns deeds T g ds
  turns_of s g [] h = tt
  turns_of s g (d ∷ ds) h = ((λ v. h.0.may.next (sym (takes_event s g d h.0) ∙ v)), turns_of (effect s d) (done_after (deeds.is_event d) g) ds h.1)

  -- the step at a place is a permitted one
  takes_at : (s : State L B Y) (g : ℕ) (xs : List (Deed L B Y E)) (p : Deed L B Y E) (ys : List (Deed L B Y E)) → IsPermitted R Does T s g (xs ++ p ∷ ys)
      → Takes R Does T (effects s xs) (turns_done deeds g xs) p
  takes_at s g [] p ys h = h.0
  takes_at s g (x ∷ xs) p ys h = takes_at (effect s x) (done_after (deeds.is_event x) g) xs p ys h.1

  module _ (z : State L B Y) (full : List (Deed L B Y E)) (is_full : IsFull R Does T z full) (ordered : IsOrdered deeds T full) where
    abbrev pub is_plan : IsPlan deeds T full
    is_plan = record { turns = turns_of z 0 full is_full.permitted; ordered = ordered }

    abbrev pub total : ℕ
    total = turns_done deeds 0 full

    pub takes_there : (xs : List (Deed L B Y E)) (p : Deed L B Y E) (ys : List (Deed L B Y E)) → full ≡ xs ++ p ∷ ys → Takes R Does T (effects z xs) (turns_done deeds 0 xs) p
    takes_there xs p ys e = takes_at z 0 xs p ys (subst (IsPermitted R Does T z 0) e is_full.permitted)

    -- the machine takes the full run's step where it sees what the full run saw
    same_step : (xs : List (Deed L B Y E)) (p : Deed L B Y E) (ys : List (Deed L B Y E)) → full ≡ xs ++ p ∷ ys → (s : State L B Y) (g : ℕ) (d : Deed L B Y E) → Takes R Does T s g d
        → d.thread ≡ p.thread →
        (effects z xs).locals p.thread ≡ s.locals p.thread → ((b : ℕ) → p.reads b ≡ true → (effects z xs).cells b ≡ s.cells b)
        → (deeds.is_event p ≡ true → (effects z xs).objects ≡ s.objects) → IsSame p d
    same_step xs p ys e s g d m u l c o =
        det.same (effects z xs) s p d (takes_there xs p ys e).is_step m.is_step u l c o

    -- at the end no thread has a step more
    none_more : (s : State L B Y) (g : ℕ) (d : Deed L B Y E) → Takes R Does T s g d → g ≤ total → (effects z full).locals d.thread ≡ s.locals d.thread →
        ((i : ℕ) → g ≤ i → slice_get T i ≡ Some d.thread → total ≤ i) → (total ≤ g → (effects z full).objects ≡ s.objects) → ⊥
    none_more s g d m reached l none o = is_full.maximal d.thread (record {
      going = not_over (cases_Bool (R.over (effects z full).objects));
      can = ap R.can l ∙ m.may.can;
      turn = m.may.turn;
      left = none m.may.turn m.may.left m.may.own;
      own = m.may.own;
      next = λ v. at_total (ap R.is_event (sym l) ∙ v);
      ready = λ v. ready (ap R.is_event (sym l) ∙ v);
    })
      where
        not_over : (R.over (effects z full).objects ≡ true) ⊎ (R.over (effects z full).objects ≡ false) → R.over (effects z full).objects ≡ false
        not_over (inl v) = let a = is_full.all_turns v in let b = none m.may.turn m.may.left m.may.own in let c = owner_below T m.may.turn d.thread m.may.own in absurd (omega (arith, a, b, c))
        not_over (inr v) = v

        total_is : R.is_event (s.locals d.thread) ≡ true → g ≡ total
        total_is v = let a = none g (omega arith) (m.may.next v) in omega (arith, a, reached)

        at_total : R.is_event (s.locals d.thread) ≡ true → slice_get T total ≡ Some d.thread
        at_total v = ap (slice_get T) (sym (total_is v)) ∙ m.may.next v

        ready : R.is_event (s.locals d.thread) ≡ true → R.ready d.thread ((effects z full).locals d.thread) (effects z full).objects ≡ true
        ready v = let q = total_is v in ap (λ k. R.ready d.thread k (effects z full).objects) l ∙ ap (R.ready d.thread (s.locals d.thread)) (o (omega (arith, q))) ∙ m.may.ready v

    pub the_obeys : Obeys (equal L B E) T z full (Takes R Does T)
    the_obeys = record {
      turn = λ s g d m v. m.may.next (sym (takes_event s g d m) ∙ v);
      kind = λ xs p ys e s g d m u l. takes_event s g d m ∙ ap (λ t. R.is_event (s.locals t)) u ∙ ap R.is_event (sym l)
          ∙ sym (takes_event (effects z xs) (turns_done deeds 0 xs) p (takes_there xs p ys e));
      fits = λ xs p ys e s g d m u l c o. fits_of_same p d (same_step xs p ys e s g d m u l c o);
      no_more = none_more;
    }

    abbrev pub AtCut : State L B Y → ℕ → Type 0
    AtCut s g = Holds (equal L B E) T z full (Takes R Does T) is_plan the_obeys s g

    -- ---- the run isn't over before its last turn

    -- where the events of these steps have their turns below g, so many are done
    turns_below : (g k : ℕ) (xs : List (Deed L B Y E)) → AreTurns deeds T k xs → k ≤ g → AllOf (λ x. deeds.is_event x.did ≡ true → x.low ≤ g) (times deeds T k xs)
        → turns_done deeds k xs ≤ g
    turns_below g k [] t le h = le
    turns_below g k (x ∷ xs) t le h = turns_below g (done_after (deeds.is_event x) k) xs t.1 (go (deeds.is_event x) refl) h.1
      where
        go : (e : Bool) → deeds.is_event x ≡ e → done_after (deeds.is_event x) k ≤ g
        go false v = rw v le
        go true v = let a = h.0 v in let q = event_low deeds T k x t.0 v in rw v (omega (arith, a, q))

    open_event_over : (s : State L B Y) (g : ℕ) (h : AtCut s g) → OpenEvent h.cut.marks → R.over s.objects ≡ false
    open_event_over s g h o = ap R.over objects ∙ there.may.going
      where
        marks_are : whole (o.before ++ pending o.step ∷ o.after) ≡ times deeds T 0 full
        marks_are = ap whole (sym o.parts) ∙ h.cut.is_whole

        split : times deeds T 0 full ≡ whole o.before ++ o.step ∷ whole o.after
        split = sym marks_are ∙ whole_append o.before (pending o.step ∷ o.after)

        there : Takes R Does T (effects z (did_of (whole o.before))) (turns_done deeds 0 (did_of (whole o.before))) o.step.did
        there = takes_there (did_of (whole o.before)) o.step.did (did_of (whole o.after))
            (sym (did_times deeds T 0 full) ∙ ap did_of split ∙ did_append (whole o.before) (o.step ∷ whole o.after))

        below : IsBelow g (o.before ++ pending o.step ∷ o.after)
        below = subst (IsBelow g) o.parts h.cut.below

        objects : s.objects ≡ (effects z (did_of (whole o.before))).objects
        objects = sym h.cut.alike.objects ∙ ap (λ l. (effects z (did_of (kept l))).objects) o.parts
            ∙ places.seen z o.before o.after o.step objects_part o.earlier (none_behind T full is_plan g o.before o.after o.step marks_are below o.event)

    -- before the last turn of the list a run isn't over
    not_over : (s : State L B Y) (g : ℕ) (h : AtCut s g) → g < length T → R.over s.objects ≡ false
    not_over s g h lt = go (find_event h.cut.marks)
      where
        go : AllOf (λ m. m.done ≡ false → deeds.is_event m.step.did ≡ false) h.cut.marks ⊎ OpenEvent h.cut.marks → R.over s.objects ≡ false
        go (inr o) = open_event_over s g h o
        go (inl a) = test (cases_Bool (R.over s.objects))
          where
            all_low : AllOf (λ x. deeds.is_event x.did ≡ true → x.low ≤ g) (times deeds T 0 full)
            all_low = subst (AllOf (λ x. deeds.is_event x.did ≡ true → x.low ≤ g)) h.cut.is_whole (at_steps (λ x. deeds.is_event x.did ≡ true → x.low ≤ g) h.cut.marks
                (all_map (λ m k e. one m m.done refl k e) h.cut.marks (both_of (λ m. m.done ≡ false → deeds.is_event m.step.did ≡ false) (IsWithin g) h.cut.marks a h.cut.below)))
              where
                one : (m : Mark (Timed (Deed L B Y E))) (b : Bool) → m.done ≡ b → (m.done ≡ false → deeds.is_event m.step.did ≡ false) × IsWithin g m
                    → deeds.is_event m.step.did ≡ true → m.step.low ≤ g
                one m true w k e = k.1.if_done w
                one m false w k e = absurd (true≢false (sym e ∙ k.0 w))

            last : (effects z full).objects ≡ s.objects
            last = last_objects (equal L B E) T z full (Takes R Does T) is_plan the_obeys s g h (turns_below g 0 full is_plan.turns (omega arith) all_low)

            test : (R.over s.objects ≡ true) ⊎ (R.over s.objects ≡ false) → R.over s.objects ≡ false
            test (inl v) = let b = is_full.all_turns (ap R.over last ∙ v) in let c = turns_below g 0 full is_plan.turns (omega arith) all_low in absurd (omega (arith, b, c, lt))
            test (inr v) = v

    -- ---- the first step of a thread that isn't done may be taken, where it is no event or the next turn

    module _ (s : State L B Y) (g : ℕ) (h : AtCut s g) (before after : List (Mark (Timed (Deed L B Y E)))) (p : Timed (Deed L B Y E)) (parts : h.cut.marks ≡ before ++ pending p ∷ after)
        (earlier : AllOf (λ m. m.done ≡ false → m.step.did.thread ≢ p.did.thread) before)
        (next : deeds.is_event p.did ≡ true → slice_get T g ≡ Some p.did.thread) where
      abbrev xs : List (Deed L B Y E)
      xs = did_of (whole before)

      marks_are : whole (before ++ pending p ∷ after) ≡ times deeds T 0 full
      marks_are = ap whole (sym parts) ∙ h.cut.is_whole

      is_cut : IsCut deeds (before ++ pending p ∷ after)
      is_cut = subst (IsCut deeds) parts h.cut.is_cut

      below : IsBelow g (before ++ pending p ∷ after)
      below = subst (IsBelow g) parts h.cut.below

      alike : Alike (equal L B E) (effects z (did_of (kept (before ++ pending p ∷ after)))) s
      alike = subst (λ l. Alike (equal L B E) (effects z (did_of (kept l))) s) parts h.cut.alike

      split : full ≡ xs ++ p.did ∷ did_of (whole after)
      split = cuts.split_steps deeds T full is_plan g before after p marks_are is_cut below earlier

      there : Takes R Does T (effects z xs) (turns_done deeds 0 xs) p.did
      there = takes_there xs p.did (did_of (whole after)) split

      local : (effects z xs).locals p.did.thread ≡ s.locals p.did.thread
      local = places.like_local (equal L B E) T z full is_plan s g before after p marks_are is_cut below alike earlier

      event_of : R.is_event (s.locals p.did.thread) ≡ true → deeds.is_event p.did ≡ true
      event_of v = takes_event (effects z xs) (turns_done deeds 0 xs) p.did there ∙ ap R.is_event local ∙ v

      -- its next turn is there
      own_high : slice_get T p.high ≡ Some p.did.thread
      own_high = go (next_is p.did.thread T (turns_done deeds 0 xs))
        where
          high_is : p.high ≡ next_from p.did.thread T (turns_done deeds 0 xs)
          high_is = cuts.p_high_is deeds T full is_plan g before after p marks_are is_cut below earlier

          go : (slice_get T (next_from p.did.thread T (turns_done deeds 0 xs)) ≡ Some p.did.thread) ⊎ (next_from p.did.thread T (turns_done deeds 0 xs) ≡ length T)
              → slice_get T p.high ≡ Some p.did.thread
          go (inl o) = ap (slice_get T) high_is ∙ o
          go (inr e) = let a = next_of_own p.did.thread T (turns_done deeds 0 xs) there.may.turn there.may.left there.may.own in let b =
              owner_below T there.may.turn p.did.thread there.may.own in absurd (omega (arith, a, b, e))

      high : g ≤ p.high
      high = cuts.p_high deeds T full is_plan g before after p marks_are is_cut below earlier

      pub may_here : May R T s g p.did.thread
      may_here = record {
        going = not_over s g h (let a = owner_below T p.high p.did.thread own_high in omega (arith, a, high));
        can = ap R.can (sym local) ∙ there.may.can;
        turn = p.high;
        left = high;
        own = own_high;
        next = λ v. next (event_of v);
        ready = λ v.
            ap (λ l. R.ready p.did.thread l s.objects) (sym local)
            ∙ ap (R.ready p.did.thread ((effects z xs).locals p.did.thread))
            (sym (places.like_objects (equal L B E) T z full is_plan s g before after p marks_are is_cut below alike earlier next (event_of v)))
            ∙ there.may.ready (ap R.is_event local ∙ v);
      }

    -- where the full run has the next turn, its owner may step
    pub owner_may : (s : State L B Y) (g : ℕ) (h : AtCut s g) (t : ℕ) → g < total → slice_get T g ≡ Some t → May R T s g t
    owner_may s g h t lt n = go (find deeds t h.cut.marks)
      where
        go : AllOf (λ m. m.done ≡ false → m.step.did.thread ≢ t) h.cut.marks ⊎ First deeds t h.cut.marks → May R T s g t
        go (inl a) = let b = no_turn_left (equal L B E) T z full (Takes R Does T) is_plan the_obeys s g h t a g (omega arith) n in absurd (omega (arith, b, lt))
        go (inr f) = subst (May R T s g) f.thread (may_here s g h f.before f.after f.step f.parts
            (subst (λ u. AllOf (λ m. m.done ≡ false → m.step.did.thread ≢ u) f.before) (sym f.thread) f.earlier) (λ v. n ∙ ap Some (sym f.thread)))

    pub owner_rests : (run : List (Deed L B Y E)) (h : AtCut (effects z run) (turns_done deeds 0 run)) (t : ℕ) → slice_get T (turns_done deeds 0 run) ≡ Some t
        → May R T (effects z run) (turns_done deeds 0 run) t ⊎ IsAtEnd z full run t
    owner_rests run h t n = go (find deeds t h.cut.marks)
      where
        go : AllOf (λ m. m.done ≡ false → m.step.did.thread ≢ t) h.cut.marks ⊎ First deeds t h.cut.marks → May R T (effects z run) (turns_done deeds 0 run) t ⊎ IsAtEnd z full run t
        go (inl a) =
            let past = no_turn_left (equal L B E) T z full (Takes R Does T) is_plan the_obeys (effects z run) (turns_done deeds 0 run) h t a (turns_done deeds 0 run) (omega arith) n in
            inr (record {
              turns = past;
              local = sym (last_local (equal L B E) T z full (Takes R Does T) is_plan the_obeys (effects z run) (turns_done deeds 0 run) h t a);
              objects = sym (last_objects (equal L B E) T z full (Takes R Does T) is_plan the_obeys (effects z run) (turns_done deeds 0 run) h past);
            })
        go (inr f) = inl (subst (May R T (effects z run) (turns_done deeds 0 run)) f.thread (may_here (effects z run) (turns_done deeds 0 run) h f.before f.after f.step f.parts
            (subst (λ u. AllOf (λ m. m.done ≡ false → m.step.did.thread ≢ u) f.before) (sym f.thread) f.earlier) (λ v. n ∙ ap Some (sym f.thread))))

    -- some thread may step, or all is done
    pub goes_on : (s : State L B Y) (g : ℕ) (h : AtCut s g) → ((t : ℕ) × May R T s g t) ⊎ AllOf (λ m. m.done ≡ true) h.cut.marks
    goes_on s g h = go (find_open h.cut.marks)
      where
        go : AllOf (λ m. m.done ≡ true) h.cut.marks ⊎ FirstOpen h.cut.marks → ((t : ℕ) × May R T s g t) ⊎ AllOf (λ m. m.done ≡ true) h.cut.marks
        go (inl a) = inr a
        go (inr o) = inl (o.step.did.thread, may_here s g h o.before o.after o.step o.parts none next)
          where
            none : AllOf (λ m. m.done ≡ false → m.step.did.thread ≢ o.step.did.thread) o.before
            none = all_map (λ m w v. absurd (true≢false (sym w ∙ v))) o.before o.earlier

            marks_are : whole (o.before ++ pending o.step ∷ o.after) ≡ times deeds T 0 full
            marks_are = ap whole (sym o.parts) ∙ h.cut.is_whole

            split : times deeds T 0 full ≡ whole o.before ++ o.step ∷ whole o.after
            split = sym marks_are ∙ whole_append o.before (pending o.step ∷ o.after)

            steps : full ≡ did_of (whole o.before) ++ o.step.did ∷ did_of (whole o.after)
            steps = sym (did_times deeds T 0 full) ∙ ap did_of split ∙ did_append (whole o.before) (o.step ∷ whole o.after)

            there : Takes R Does T (effects z (did_of (whole o.before))) (turns_done deeds 0 (did_of (whole o.before))) o.step.did
            there = takes_there (did_of (whole o.before)) o.step.did (did_of (whole o.after)) steps

            all_low : AllOf (λ x. deeds.is_event x.did ≡ true → x.low ≤ g) (times deeds T 0 (did_of (whole o.before)))
            all_low = subst (AllOf (λ x. deeds.is_event x.did ≡ true → x.low ≤ g)) (sym (times_front deeds T 0 full (whole o.before) (o.step ∷ whole o.after) split))
                (at_steps (λ x. deeds.is_event x.did ≡ true → x.low ≤ g) o.before
                (all_map (λ m k e. k.1.if_done k.0) o.before
                (both_of (λ m. m.done ≡ true) (IsWithin g) o.before o.earlier (all_left (IsWithin g) o.before (pending o.step ∷ o.after) (subst (IsBelow g) o.parts h.cut.below)))))

            next : deeds.is_event o.step.did ≡ true → slice_get T g ≡ Some o.step.did.thread
            next v =
                let own = there.may.next (sym (takes_event (effects z (did_of (whole o.before))) (turns_done deeds 0 (did_of (whole o.before))) o.step.did there) ∙ v) in
                let low = turns_below g 0 (did_of (whole o.before))
                (turns_left_of deeds T 0 (did_of (whole o.before)) (o.step.did ∷ did_of (whole o.after)) (subst (AreTurns deeds T 0) steps is_plan.turns)) (omega arith) all_low in
                let at = cuts.p_high_is deeds T full is_plan g o.before o.after o.step marks_are (subst (IsCut deeds) o.parts h.cut.is_cut) (subst (IsBelow g) o.parts h.cut.below) none in
                let high = cuts.p_high deeds T full is_plan g o.before o.after o.step marks_are (subst (IsCut deeds) o.parts h.cut.is_cut) (subst (IsBelow g) o.parts h.cut.below) none in
                let turn = next_own o.step.did.thread T (turns_done deeds 0 (did_of (whole o.before))) own in
                let q : turns_done deeds 0 (did_of (whole o.before)) ≡ g = omega (arith, low, at, high, turn) in
                ap (slice_get T) (sym q) ∙ own

    -- ---- the law

    stands : (run : List (Deed L B Y E)) → IsPermitted R Does T z 0 run
        → Stands (equal L B E) T z full (Takes R Does T) is_plan the_obeys (effects z run) (turns_done deeds 0 run) run (times deeds T 0 run)
    stands run perm = follows_plan (equal L B E) T z full (Takes R Does T) is_plan the_obeys z (record { locals = λ u. refl; cells = λ b. refl; objects = refl }) run (moves_of z 0 run perm)

    part : (run : List (Deed L B Y E)) → IsPermitted R Does T z 0 run → IsPart R T z full run
    part run perm = record {
      cut = record {
        marks = st.holds.cut.marks;
        is_whole = st.holds.cut.is_whole;
        is_cut = st.holds.cut.is_cut;
        below = st.holds.cut.below;
        steps = rearranged T z (did_of (kept st.holds.cut.marks)) run st.performs;
        same = record { locals = λ u. sym (st.holds.cut.alike.locals u); cells = λ b. sym (st.holds.cut.alike.cells b); objects = sym st.holds.cut.alike.objects };
      };
      ordered = st.settled;
      short = short;
      goes_on = end (goes_on (effects z run) (turns_done deeds 0 run) st.holds);
      owner = λ t lt n. owner_may (effects z run) (turns_done deeds 0 run) st.holds t lt n;
      rests = λ t n. owner_rests run st.holds t n;
    }
      where
        st : Stands (equal L B E) T z full (Takes R Does T) is_plan the_obeys (effects z run) (turns_done deeds 0 run) run (times deeds T 0 run)
        st = stands run perm

        kept_short : {A : Type 0} (ms : List (Mark (Timed A))) → length (did_of (kept ms)) ≤ length (did_of (whole ms))
        kept_short [] = omega arith
        kept_short (m ∷ ms) = go m.done (kept_short ms)
          where
            go : (b : Bool) → length (did_of (kept ms)) ≤ length (did_of (whole ms)) → length (did_of (cond b (m.step ∷ kept ms) (kept ms))) ≤ suc (length (did_of (whole ms)))
            go true ih = omega (arith, ih)
            go false ih = omega (arith, ih)

        all_steps : did_of (whole st.holds.cut.marks) ≡ full
        all_steps = ap did_of st.holds.cut.is_whole ∙ did_times deeds T 0 full

        short : length run ≤ length full
        short = let a = kept_short st.holds.cut.marks in let b = st.performs.number in let c = ap length all_steps in omega (arith, a, b, c)

        end : ((t : ℕ) × May R T (effects z run) (turns_done deeds 0 run) t) ⊎ AllOf (λ m. m.done ≡ true) st.holds.cut.marks
            → ((t : ℕ) × May R T (effects z run) (turns_done deeds 0 run) t) ⊎ EndsAs T z full run
        end (inl m) = inl m
        end (inr a) =
            let q : did_of (kept st.holds.cut.marks) ≡ full = ap did_of (kept_all st.holds.cut.marks a) ∙ all_steps in
            let like = subst (λ l. Alike (equal L B E) (effects z l) (effects z run)) q st.holds.cut.alike in
            inr (record {
              turns = turns_same a;
              steps = rearranged T z full run (subst (λ l. Performs (equal L B E) l run) q st.performs);
              same = record { locals = λ u. sym (like.locals u); cells = λ b. sym (like.cells b); objects = sym like.objects };
            })
          where
            turns_same : AllOf (λ m. m.done ≡ true) st.holds.cut.marks → turns_done deeds 0 run ≡ total
            turns_same a =
                let low = turns_below (turns_done deeds 0 run) 0 full is_plan.turns (omega arith)
                (subst (AllOf (λ x. deeds.is_event x.did ≡ true → x.low ≤ turns_done deeds 0 run)) st.holds.cut.is_whole
                (at_steps (λ x. deeds.is_event x.did ≡ true → x.low ≤ turns_done deeds 0 run) st.holds.cut.marks
                (all_map (λ m k e. k.1.if_done k.0) st.holds.cut.marks (both_of (λ m. m.done ≡ true) (IsWithin (turns_done deeds 0 run)) st.holds.cut.marks a st.holds.cut.below)))) in
                let up = st.holds.reached in
                omega (arith, low, up)

-- where some full run is ordered, each permitted run is a part of it
pub law_of_steps : {L B Y E : Type 0} (R : Rules L Y) (Does : State L B Y → Deed L B Y E → Type 0) (T : List ℕ) (s : State L B Y) (full : List (Deed L B Y E)) →
    AreDetermined R Does → IsFull R Does T s full → IsOrdered deeds T full → (run : List (Deed L B Y E)) → IsPermitted R Does T s 0 run → IsPart R T s full run
law_of_steps R Does T s full det is_full ordered run perm = part R Does T det s full is_full ordered run perm

determined : {L B Y E : Type 0} (M : Machine L B Y E) → IsDeterministic M → AreDetermined M.rules (does M)
determined M det = record {
  event = λ s d h. ap is_some h.objects ∙ det.event s d.thread;
  same = λ s z p d h k u l c o.
      deed_then h (deed_then
      (det.same s z p.thread l (λ b r. c b (h.reads b ∙ r)) (λ v. o (ap is_some h.objects ∙ det.event s p.thread ∙ v)))
      (deed_back (subst (λ t. IsSame d (M.step z t)) u k)));
}

-- the same for a machine whose steps are a function
pub law_of_runs : {L B Y E : Type 0} (M : Machine L B Y E) (T : List ℕ) (s : State L B Y) (full : List (Deed L B Y E)) → HasOrdered M T s full → (run : List (Deed L B Y E))
    → IsPermitted M.rules (does M) T s 0 run → IsPart M.rules T s full run
law_of_runs M T s full h run perm = law_of_steps M.rules (does M) T s full (determined M h.machine) h.is_full h.ordered run perm
