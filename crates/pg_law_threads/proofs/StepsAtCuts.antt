-- A thread's next step at a cut: the first of its steps that isn't done.
use Rattle.std.proofs.Common.{◌≡◌, ◌≢◌, ℕ, zero, suc, ◌==◌, ◌<◌, ◌≤◌, ◌⊎◌, ◌||◌, ◌&&◌, Bool, true, false, cond, List, [], ◌∷◌, ◌++◌, length, Some, None, refl, sym, ap, ◌∙◌, subst, arith, inl, inr}
use Rattle.std.specs.Prelude.{slice_get, is_some}
use Rattle.std.specs.List.{AllByRecursion as AllOf, filter}
use Rattle.std.proofs.lemmas.Bool.{eqb-true, eq-eqb, ne_eqb, false_from_ne_true}
use Rattle.pg_law_threads.specs.Steps.{View, touches, meet_at}
use Rattle.pg_law_threads.specs.Intervals.{Timed, times, did_of, done_after, turns_done}
use Rattle.pg_law_threads.specs.Cuts.{Mark, pending, performed, kept, whole, IsCut, IsBelow, count_done}
use Rattle.pg_law_threads.specs.Effects.{State, Deed, deeds, effect, effects, Same}
use Rattle.pg_law_threads.specs.Plans.{IsPlan, Alike}
use Rattle.pg_law_threads.proofs.DoneLists.{First, find, cut_at, cut_flip, whole_append, all_map, both_of, all_right}
use Rattle.pg_law_threads.proofs.TimedSteps.{highs_own, events_below, within_end}
use Rattle.pg_law_threads.proofs.NextSteps as cuts
use Rattle.pg_law_threads.proofs.EffectsOfSteps.{cell_part}
use Rattle.pg_law_threads.proofs.StatesAtCuts as places
use Rattle.pg_law_threads.proofs.PermittedRunLaw.{equal}
use Rattle.pg_law_threads.specs.Standing.{own, Stands, done_of, Goes}

module _ {A : Type 0} (V : View A) (u : ℕ) where
  abbrev is_own : Timed A → Bool
  is_own x = u == V.thread x.did

  abbrev Open : List (Mark (Timed A)) → Type 0
  Open ms = AllOf (λ m. m.done ≡ false → V.thread m.step.did ≢ u) ms

  abbrev Alone : List (Mark (Timed A)) → Type 0
  Alone ms = AllOf (λ n. n.done ≡ true → V.thread n.step.did ≢ u) ms

  none_of : (ms : List (Mark (Timed A))) → Alone ms → count_done V ms u ≡ 0
  none_of [] h = refl
  none_of (m ∷ ms) h = go m.done (u == V.thread m.step.did) refl refl (none_of ms h.1)
    where
      go : (b e : Bool) → m.done ≡ b → (u == V.thread m.step.did) ≡ e → count_done V ms u ≡ 0 → cond b (cond e (suc (count_done V ms u)) (count_done V ms u)) (count_done V ms u) ≡ 0
      go true true w v ih = absurd (h.0 w (sym (eqb-true u (V.thread m.step.did) v)))
      go true false w v ih = ih
      go false e w v ih = ih

  -- the number of its steps that are done is the place of its first step that isn't
  pub at_count : (before : List (Mark (Timed A))) (p : Timed A) (after : List (Mark (Timed A))) → V.thread p.did ≡ u → Open before → Alone after
      → slice_get (filter is_own (whole (before ++ pending p ∷ after))) (count_done V (before ++ pending p ∷ after) u) ≡ Some p
  at_count [] p after e o a = rw (eq-eqb u (V.thread p.did) (sym e), none_of after a) refl
  at_count (m ∷ before) p after e o a = go m.done (u == V.thread m.step.did) refl refl (at_count before p after e o.1 a)
    where
      xs : List (Timed A)
      xs = filter is_own (whole (before ++ pending p ∷ after))

      n : ℕ
      n = count_done V (before ++ pending p ∷ after) u

      go : (b i : Bool) → m.done ≡ b → (u == V.thread m.step.did) ≡ i → slice_get xs n ≡ Some p
          → slice_get (cond i (m.step ∷ xs) xs) (cond b (cond i (suc n) n) n) ≡ Some p
      go true true w v ih = ih
      go true false w v ih = ih
      go false true w v ih = absurd (o.0 w (sym (eqb-true u (V.thread m.step.did) v)))
      go false false w v ih = ih

  -- and where all are done there is none at this place
  pub at_end : (ms : List (Mark (Timed A))) → Open ms → slice_get (filter is_own (whole ms)) (count_done V ms u) ≡ None
  at_end [] h = refl
  at_end (m ∷ ms) h = go m.done (u == V.thread m.step.did) refl refl (at_end ms h.1)
    where
      xs : List (Timed A)
      xs = filter is_own (whole ms)

      n : ℕ
      n = count_done V ms u

      go : (b i : Bool) → m.done ≡ b → (u == V.thread m.step.did) ≡ i → slice_get xs n ≡ None → slice_get (cond i (m.step ∷ xs) xs) (cond b (cond i (suc n) n) n) ≡ None
      go true true w v ih = ih
      go true false w v ih = ih
      go false true w v ih = absurd (h.0 w (sym (eqb-true u (V.thread m.step.did) v)))
      go false false w v ih = ih

  -- a step more is counted for its thread alone
  pub count_flip : (before : List (Mark (Timed A))) (p : Timed A) (after : List (Mark (Timed A)))
      → count_done V (before ++ performed p ∷ after) u ≡ cond (u == V.thread p.did) (suc (count_done V (before ++ pending p ∷ after) u)) (count_done V (before ++ pending p ∷ after) u)
  count_flip [] p after = refl
  count_flip (m ∷ before) p after = go m.done (u == V.thread m.step.did) (u == V.thread p.did) (count_flip before p after)
    where
      n : ℕ
      n = count_done V (before ++ pending p ∷ after) u

      k : ℕ
      k = count_done V (before ++ performed p ∷ after) u

      go : (b i j : Bool) → k ≡ cond j (suc n) n → cond b (cond i (suc k) k) k ≡ cond j (suc (cond b (cond i (suc n) n) n)) (cond b (cond i (suc n) n) n)
      go true true true ih = ap suc ih
      go true true false ih = ap suc ih
      go true false true ih = ih
      go true false false ih = ih
      go false i true ih = ih
      go false i false ih = ih

module _ {L B Y E : Type 0} (T : List ℕ) (z : State L B Y) (plan : List (Deed L B Y E)) (is_plan : IsPlan deeds T plan) (g : ℕ) (c : Stands T plan g) (u : ℕ) (x : Timed (Deed L B Y E))
    (at : slice_get (own u (times deeds T 0 plan)) (done_of c u) ≡ Some x) (due : deeds.is_event x.did ≡ true → x.high ≡ g) where
  abbrev there : slice_get (own u (whole c.marks)) (count_done deeds c.marks u) ≡ Some x
  there = subst (λ l. slice_get (own u l) (count_done deeds c.marks u) ≡ Some x) (sym c.is_whole) at

  module _ (before after : List (Mark (Timed (Deed L B Y E)))) (p : Timed (Deed L B Y E)) (parts : c.marks ≡ before ++ pending p ∷ after) (thread : p.did.thread ≡ u)
      (earlier : AllOf (λ m. m.done ≡ false → m.step.did.thread ≢ p.did.thread) before) (same : p ≡ x) where
    whole_is : whole (before ++ pending p ∷ after) ≡ times deeds T 0 plan
    whole_is = ap whole (sym parts) ∙ c.is_whole

    cut_is : IsCut deeds (before ++ pending p ∷ after)
    cut_is = subst (IsCut deeds) parts c.is_cut

    below_is : IsBelow g (before ++ pending p ∷ after)
    below_is = subst (IsBelow g) parts c.below

    abbrev s : State L B Y
    s = effects z (did_of (kept (before ++ pending p ∷ after)))

    alike : Alike (equal L B E) s s
    alike = record { locals = λ t. refl; cells = λ b. refl; objects = refl }

    split_is : times deeds T 0 plan ≡ whole before ++ p ∷ whole after
    split_is = cuts.split deeds T plan is_plan g before after p whole_is cut_is below_is earlier

    -- an event is the turn of its own number
    own_turn : deeds.is_event p.did ≡ true → slice_get T p.high ≡ Some p.did.thread
    own_turn v = go
        (all_right (λ y. (slice_get T y.high ≡ Some y.did.thread) ⊎ (y.high ≡ length T)) (whole before) (p ∷ whole after)
        (subst (AllOf (λ y. (slice_get T y.high ≡ Some y.did.thread) ⊎ (y.high ≡ length T))) split_is (highs_own deeds T 0 plan))).0
      where
        below_end : p.high < turns_done deeds 0 plan
        below_end = (all_right (λ y. deeds.is_event y.did ≡ true → y.high < turns_done deeds 0 plan) (whole before) (p ∷ whole after)
            (subst (AllOf (λ y. deeds.is_event y.did ≡ true → y.high < turns_done deeds 0 plan)) split_is (events_below deeds T 0 plan is_plan.turns))).0 v

        within : turns_done deeds 0 plan ≤ length T
        within = within_end deeds T 0 plan (omega arith) is_plan.turns

        go : (slice_get T p.high ≡ Some p.did.thread) ⊎ (p.high ≡ length T) → slice_get T p.high ≡ Some p.did.thread
        go (inl e) = e
        go (inr q) = let a = below_end in let b = within in absurd (omega arith)

    next : deeds.is_event p.did ≡ true → slice_get T g ≡ Some p.did.thread
    next v = subst (λ n. slice_get T n ≡ Some p.did.thread)
        (ap (λ (y : Timed (Deed L B Y E)). y.high) same ∙ due (subst (λ (y : Timed (Deed L B Y E)). deeds.is_event y.did ≡ true) same v)) (own_turn v)

    or_true : (b : Bool) → (b || true) ≡ true
    or_true true = refl
    or_true false = refl

    meet_wt : (a d : Deed L B Y E) (b : ℕ) → deeds.writes a b ≡ true → touches deeds d b ≡ true → meet_at deeds a d b ≡ true
    meet_wt a d b w t = rw (w, t) refl

    meet_tw : (a d : Deed L B Y E) (b : ℕ) → touches deeds a b ≡ true → deeds.writes d b ≡ true → meet_at deeds a d b ≡ true
    meet_tw a d b t w =
        let k : (touches deeds a b && deeds.writes d b) ≡ true = rw (t, w) refl in
        ap (λ (c : Bool). (deeds.writes a b && touches deeds d b) || c) k ∙ or_true (deeds.writes a b && touches deeds d b)

    -- a cell that it reads or writes is as the plan has it there
    found_at : (b : ℕ) → touches deeds p.did b ≡ true → s.cells b ≡ (effects z (did_of (whole before))).cells b
    found_at b t = places.seen z before after p (cell_part b)
        (all_map (λ m h w. false_from_ne_true (is_some (m.step.did.writes b)) (λ e. h.1 w (record { threads = h.0 w; cell = b; meet = meet_wt m.step.did p.did b e t }))) before
        (both_of (λ m. m.done ≡ false → m.step.did.thread ≢ p.did.thread) _ before earlier
        (cuts.open_apart deeds T plan is_plan g before after p whole_is cut_is below_is earlier next)))
        (all_map (λ m h w. false_from_ne_true (is_some (m.step.did.writes b))
        (λ e. h.1 w (record { threads = λ q. h.0 w (sym q); cell = b; meet = meet_tw p.did m.step.did b t e }))) after
        (both_of (λ m. m.done ≡ true → m.step.did.thread ≢ p.did.thread) _ after
        (cuts.cut_after deeds T plan is_plan g before after p whole_is cut_is below_is earlier)
        (cuts.done_apart deeds T plan is_plan g before after p whole_is cut_is below_is earlier next)))

    goes_p : Goes T z plan g (done_after (deeds.is_event p.did) g) c u p
    goes_p = record {
      thread_is = thread;
      front = did_of (whole before);
      rest = did_of (whole after);
      split = cuts.split_steps deeds T plan is_plan g before after p whole_is cut_is below_is earlier;
      finds = λ b t. ap (λ ms. (effects z (did_of (kept ms))).cells b) parts ∙ found_at b t;
      stands = record {
        marks = before ++ performed p ∷ after;
        is_whole = whole_append before (performed p ∷ after) ∙ sym (whole_append before (pending p ∷ after)) ∙ whole_is;
        is_cut = cut_flip deeds before p after earlier cut_is;
        below = cuts.below_after deeds T plan is_plan g before after p whole_is cut_is below_is earlier next;
      };
      leaves = subst (λ ms. Same (effect (effects z (did_of (kept ms))) p.did) (effects z (did_of (kept (before ++ performed p ∷ after))))) (sym parts)
          (places.same_after (equal L B E) T z plan is_plan s g before after p whole_is cut_is below_is alike earlier next);
      one_more = count_flip deeds p.did.thread before p after ∙ here_one ∙ ap (λ ms. suc (count_done deeds ms p.did.thread)) (sym parts);
      others = λ v ne. count_flip deeds v before p after ∙ other_one v ne ∙ ap (λ ms. count_done deeds ms v) (sym parts);
    }
      where
        here_one : cond (p.did.thread == p.did.thread) (suc (count_done deeds (before ++ pending p ∷ after) p.did.thread)) (count_done deeds (before ++ pending p ∷ after) p.did.thread)
            ≡ suc (count_done deeds (before ++ pending p ∷ after) p.did.thread)
        here_one = rw (eq-eqb p.did.thread p.did.thread refl) refl

        other_one : (v : ℕ) → (v ≡ p.did.thread → ⊥) → cond (v == p.did.thread) (suc (count_done deeds (before ++ pending p ∷ after) v)) (count_done deeds (before ++ pending p ∷ after) v)
            ≡ count_done deeds (before ++ pending p ∷ after) v
        other_one v ne = rw (ne_eqb v p.did.thread ne) refl

    goes_x : Goes T z plan g (done_after (deeds.is_event x.did) g) c u x
    goes_x = subst (λ (y : Timed (Deed L B Y E)). Goes T z plan g (done_after (deeds.is_event y.did) g) c u y) same goes_p

  pub goes : Goes T z plan g (done_after (deeds.is_event x.did) g) c u x
  goes = go (find deeds u c.marks)
    where
      go : AllOf (λ m. m.done ≡ false → m.step.did.thread ≢ u) c.marks ⊎ First deeds u c.marks → Goes T z plan g (done_after (deeds.is_event x.did) g) c u x
      go (inl a) = let e = at_end deeds u c.marks a in let k = there in absurd (cc)
      go (inr f) = goes_x f.before f.after f.step f.parts f.thread (all_map (λ m h w e. h w (e ∙ f.thread)) f.before f.earlier) same
        where
          alone : AllOf (λ n. n.done ≡ true → n.step.did.thread ≢ u) f.after
          alone = all_map (λ n h w e. h w (e ∙ sym f.thread)) f.after (cut_at deeds f.before (pending f.step) f.after (subst (IsCut deeds) f.parts c.is_cut) refl)

          found : slice_get (own u (whole c.marks)) (count_done deeds c.marks u) ≡ Some f.step
          found = subst (λ ms. slice_get (own u (whole ms)) (count_done deeds ms u) ≡ Some f.step) (sym f.parts) (at_count deeds u f.before f.step f.after f.thread f.earlier alone)

          same : f.step ≡ x
          same = let k = there in let j = found in cc

  -- a step that is no event leaves the number of turns, and an event is the next one
  pub goes_plain : deeds.is_event x.did ≡ false → Goes T z plan g g c u x
  goes_plain v = subst (λ e. Goes T z plan g (done_after e g) c u x) v goes

  pub goes_turn : deeds.is_event x.did ≡ true → Goes T z plan g (suc g) c u x
  goes_turn v = subst (λ e. Goes T z plan g (done_after e g) c u x) v goes

-- an event among a thread's steps is a turn of that thread
module _ {L B Y E : Type 0} (T : List ℕ) (plan : List (Deed L B Y E)) (is_plan : IsPlan deeds T plan) (u : ℕ) where
  abbrev Owns : Timed (Deed L B Y E) → Type 0
  Owns y = deeds.is_event y.did ≡ true → (slice_get T y.high ≡ Some y.did.thread) × (y.high < turns_done deeds 0 plan)

  owns_all : AllOf Owns (times deeds T 0 plan)
  owns_all = all_map (λ y h v. go y (h.0) (h.1 v)) (times deeds T 0 plan)
      (both_of (λ y. (slice_get T y.high ≡ Some y.did.thread) ⊎ (y.high ≡ length T)) (λ y. deeds.is_event y.did ≡ true → y.high < turns_done deeds 0 plan) (times deeds T 0 plan)
      (highs_own deeds T 0 plan) (events_below deeds T 0 plan is_plan.turns))
    where
      within : turns_done deeds 0 plan ≤ length T
      within = within_end deeds T 0 plan (omega arith) is_plan.turns

      go : (y : Timed (Deed L B Y E)) → (slice_get T y.high ≡ Some y.did.thread) ⊎ (y.high ≡ length T) → y.high < turns_done deeds 0 plan
          → (slice_get T y.high ≡ Some y.did.thread) × (y.high < turns_done deeds 0 plan)
      go y (inl e) l = (e, l)
      go y (inr q) l = let w = within in absurd (omega arith)

  among : (P : Timed (Deed L B Y E) → Type 0) (ys : List (Timed (Deed L B Y E))) (m : ℕ) (x : Timed (Deed L B Y E)) → AllOf P ys → slice_get (own u ys) m ≡ Some x → P x × (x.did.thread ≡ u)
  among P [] m x h e = absurd (cc)
  among P (y ∷ ys) m x h e = go (u == y.did.thread) refl m e (λ k f. among P ys k x h.1 f)
    where
      go : (b : Bool) → (u == y.did.thread) ≡ b → (m : ℕ) → slice_get (cond b (y ∷ own u ys) (own u ys)) m ≡ Some x → ((k : ℕ) → slice_get (own u ys) k ≡ Some x → P x × (x.did.thread ≡ u))
          → P x × (x.did.thread ≡ u)
      go true q zero e more = let k : y ≡ x = cc in (subst P k h.0, subst (λ (z : Timed (Deed L B Y E)). z.did.thread ≡ u) k (sym (eqb-true u y.did.thread q)))
      go true q (suc m) e more = more m e
      go false q m e more = more m e

  pub turn_of : (m : ℕ) (x : Timed (Deed L B Y E)) → slice_get (own u (times deeds T 0 plan)) m ≡ Some x → deeds.is_event x.did ≡ true
      → (slice_get T x.high ≡ Some u) × (x.high < turns_done deeds 0 plan)
  turn_of m x e v = let a = among Owns (times deeds T 0 plan) m x owns_all e in let k = a.0 v in (subst (λ t. slice_get T x.high ≡ Some t) a.1 k.0, k.1)
