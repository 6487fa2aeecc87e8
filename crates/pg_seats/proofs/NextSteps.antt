-- The next steps of two threads at a cut of a plan: what each finds, and that they meet at no cell where one is the next turn.
use Rattle.std.proofs.Common.{◌≡◌, ◌≢◌, ℕ, zero, suc, ◌==◌, ◌≤◌, ◌⊎◌, ◌||◌, ◌&&◌, Bool, true, false, cond, List, [], ◌∷◌, ◌++◌, Some, refl, sym, ap, ◌∙◌, subst, inl, inr}
use Rattle.std.specs.Prelude.{slice_get, is_some}
use Rattle.std.specs.List.{AllByRecursion as AllOf}
use Rattle.std.proofs.lemmas.Bool.{eqb-true, eq-eqb, false_from_ne_true}
use Rattle.pg_law_course.specs.pg_law_threads.Steps.{Conflict, touches, meet_at}
use Rattle.pg_law_course.specs.pg_law_threads.Intervals.{Timed, times, did_of}
use Rattle.pg_law_course.specs.pg_law_threads.Cuts.{Mark, pending, kept, whole, IsCut, IsBelow, count_done}
use Rattle.pg_law_course.specs.pg_law_threads.Effects.{deeds, effects}
use Rattle.pg_law_course.specs.pg_law_threads.Plans.{IsPlan}
use Rattle.pg_law_course.specs.pg_law_threads.Standing.{own, Stands, done_of, left_by}
use Rattle.pg_law_course.proofs.of_pg_law_threads.DoneLists.{First, find, cut_at, all_map, both_of, cons_head, cons_tail}
use Rattle.pg_law_course.proofs.of_pg_law_threads.TimedSteps.{did_times}
use Rattle.pg_law_course.proofs.of_pg_law_threads.NextSteps as cuts
use Rattle.pg_law_course.proofs.of_pg_law_threads.EffectsOfSteps.{cell_part}
use Rattle.pg_law_course.proofs.of_pg_law_threads.StatesAtCuts as places
use Rattle.pg_law_course.proofs.of_pg_law_threads.StepsAtCuts.{at_count, at_end, turn_of}
use Rattle.pg_law_course.specs.pg_law_runs.Deeds.{Did, Seen}
use Rattle.pg_law_course.specs.Course.{before}

some_same : {A : Type 0} (x y : A) → Some x ≡ Some y → x ≡ y
some_same x y e = cc

-- of two elements that stand in one list, one is before the other, or they are one
two_places : {A : Type 0} (P Q : A → Type 0) (xs : List A) (a : A) (ys : List A) (us : List A) (b : A) (vs : List A) → xs ++ a ∷ ys ≡ us ++ b ∷ vs
    → AllOf P xs → AllOf Q us → P b ⊎ (Q a ⊎ (a ≡ b))
two_places P Q [] a ys [] b vs e p q = inr (inr (cons_head e))
two_places P Q [] a ys (u ∷ us) b vs e p q = inr (inl (subst Q (sym (cons_head e)) q.0))
two_places P Q (x ∷ xs) a ys [] b vs e p q = inl (subst P (cons_head e) p.0)
two_places P Q (x ∷ xs) a ys (u ∷ us) b vs e p q = two_places P Q xs a ys us b vs (cons_tail e) p.1 q.1

module _ (u : ℕ) where
  -- what stands before the first step of thread u that isn't done is what stands before the step of that number
  before_first : (ms : List (Mark (Timed Did))) (p : Timed Did) (ns : List (Mark (Timed Did))) → p.did.thread ≡ u
      → AllOf (λ m. m.done ≡ false → m.step.did.thread ≢ u) ms → AllOf (λ n. n.done ≡ true → n.step.did.thread ≢ u) ns
      → before u (count_done deeds (ms ++ pending p ∷ ns) u) (did_of (whole (ms ++ pending p ∷ ns))) ≡ did_of (whole ms)
  before_first [] p ns e o a = rw (none_of ns a, eq-eqb u p.did.thread (sym e)) refl
    where
      none_of : (ns : List (Mark (Timed Did))) → AllOf (λ n. n.done ≡ true → n.step.did.thread ≢ u) ns → count_done deeds ns u ≡ 0
      none_of [] h = refl
      none_of (n ∷ ns) h = go n.done (u == n.step.did.thread) refl refl (none_of ns h.1)
        where
          go : (b e : Bool) → n.done ≡ b → (u == n.step.did.thread) ≡ e → count_done deeds ns u ≡ 0 → cond b (cond e (suc (count_done deeds ns u)) (count_done deeds ns u)) (count_done deeds ns u) ≡ 0
          go true true w v ih = absurd (h.0 w (sym (eqb-true u n.step.did.thread v)))
          go true false w v ih = ih
          go false e w v ih = ih
  before_first (m ∷ ms) p ns e o a = go m.done (u == m.step.did.thread) refl refl (before_first ms p ns e o.1 a)
    where
      ds : List Did
      ds = did_of (whole (ms ++ pending p ∷ ns))

      n : ℕ
      n = count_done deeds (ms ++ pending p ∷ ns) u

      skip : (k : ℕ) → (u == m.step.did.thread) ≡ false → before u k (m.step.did ∷ ds) ≡ m.step.did ∷ before u k ds
      skip zero v = rw v refl
      skip (suc k) v = rw v refl

      go : (b i : Bool) → m.done ≡ b → (u == m.step.did.thread) ≡ i → before u n ds ≡ did_of (whole ms)
          → before u (cond b (cond i (suc n) n) n) (m.step.did ∷ ds) ≡ m.step.did ∷ did_of (whole ms)
      go true true w v ih = rw v (ap (λ l. m.step.did ∷ l) ih)
      go true false w v ih = skip n v ∙ ap (λ l. m.step.did ∷ l) ih
      go false true w v ih = absurd (o.0 w (sym (eqb-true u m.step.did.thread v)))
      go false false w v ih = skip n v ∙ ap (λ l. m.step.did ∷ l) ih

module _ (T : List ℕ) (plan : List Did) (is_plan : IsPlan deeds T plan) (g : ℕ) (c : Stands T plan g) where
  -- the next step of a thread, with what stands around it
  pub record Next (u : ℕ) (x : Timed Did) : Type 0 where
    pub before : List (Mark (Timed Did))
    pub after : List (Mark (Timed Did))
    pub parts : c.marks ≡ before ++ pending x ∷ after
    pub thread : x.did.thread ≡ u
    pub earlier : AllOf (λ m. m.done ≡ false → m.step.did.thread ≢ x.did.thread) before
    pub later : AllOf (λ n. n.done ≡ true → n.step.did.thread ≢ u) after
    pub whole_is : whole (before ++ pending x ∷ after) ≡ times deeds T 0 plan
    pub cut_is : IsCut deeds (before ++ pending x ∷ after)
    pub below_is : IsBelow g (before ++ pending x ∷ after)

  pub next_at : (u : ℕ) (x : Timed Did) → slice_get (own u (times deeds T 0 plan)) (done_of c u) ≡ Some x → Next u x
  next_at u x at = go (find deeds u c.marks)
    where
      there : slice_get (own u (whole c.marks)) (count_done deeds c.marks u) ≡ Some x
      there = subst (λ l. slice_get (own u l) (count_done deeds c.marks u) ≡ Some x) (sym c.is_whole) at

      go : AllOf (λ m. m.done ≡ false → m.step.did.thread ≢ u) c.marks ⊎ First deeds u c.marks → Next u x
      go (inl a) = let e = at_end deeds u c.marks a in let k = there in absurd (cc)
      go (inr f) = subst (Next u) same (record {
        before = f.before;
        after = f.after;
        parts = f.parts;
        thread = f.thread;
        earlier = all_map (λ m h w e. h w (e ∙ f.thread)) f.before f.earlier;
        later = alone;
        whole_is = ap whole (sym f.parts) ∙ c.is_whole;
        cut_is = subst (IsCut deeds) f.parts c.is_cut;
        below_is = subst (IsBelow g) f.parts c.below;
      })
        where
          alone : AllOf (λ n. n.done ≡ true → n.step.did.thread ≢ u) f.after
          alone = all_map (λ n h w e. h w (e ∙ sym f.thread)) f.after (cut_at deeds f.before (pending f.step) f.after (subst (IsCut deeds) f.parts c.is_cut) refl)

          same : f.step ≡ x
          same = some_same f.step x
              (sym (subst (λ ms. slice_get (own u (whole ms)) (count_done deeds ms u) ≡ Some f.step) (sym f.parts) (at_count deeds u f.before f.step f.after f.thread f.earlier alone)) ∙ there)

  module _ (u : ℕ) (x : Timed Did) (at : slice_get (own u (times deeds T 0 plan)) (done_of c u) ≡ Some x) where
    abbrev n : Next u x
    n = next_at u x at

    -- none of its turns is done
    pub ahead : g ≤ x.high
    ahead = cuts.p_high deeds T plan is_plan g n.before n.after x n.whole_is n.cut_is n.below_is n.earlier

    front : before u (done_of c u) plan ≡ did_of (whole n.before)
    front =
        ap (before u (done_of c u)) (sym (ap did_of n.whole_is ∙ did_times deeds T 0 plan))
        ∙ ap (λ ms. before u (count_done deeds ms u) (did_of (whole (n.before ++ pending x ∷ n.after)))) n.parts
        ∙ before_first u n.before x n.after n.thread (all_map (λ m h w e. h w (e ∙ sym n.thread)) n.before n.earlier) n.later

    pub splits : (rest : List Did) × (plan ≡ before u (done_of c u) plan ++ x.did ∷ rest)
    splits = (did_of (whole n.after), cuts.split_steps deeds T plan is_plan g n.before n.after x n.whole_is n.cut_is n.below_is n.earlier ∙ ap (λ l. l ++ x.did ∷ did_of (whole n.after)) (sym front))

    module _ (due : deeds.is_event x.did ≡ true → x.high ≡ g) where
      next : deeds.is_event x.did ≡ true → slice_get T g ≡ Some x.did.thread
      next v = subst (λ k. slice_get T k ≡ Some x.did.thread) (due v) ((turn_of T plan is_plan u (done_of c u) x at v).0 ∙ ap Some (sym n.thread))

      or_true : (b : Bool) → (b || true) ≡ true
      or_true true = refl
      or_true false = refl

      meet_wt : (a d : Did) (b : ℕ) → deeds.writes a b ≡ true → touches deeds d b ≡ true → meet_at deeds a d b ≡ true
      meet_wt a d b w t = rw (w, t) refl

      meet_tw : (a d : Did) (b : ℕ) → touches deeds a b ≡ true → deeds.writes d b ≡ true → meet_at deeds a d b ≡ true
      meet_tw a d b t w =
          let k : (touches deeds a b && deeds.writes d b) ≡ true = rw (t, w) refl in
          ap (λ (c : Bool). (deeds.writes a b && touches deeds d b) || c) k ∙ or_true (deeds.writes a b && touches deeds d b)

      pub open_apart : AllOf (λ m. m.done ≡ false → Conflict deeds m.step.did x.did → ⊥) n.before
      open_apart = cuts.open_apart deeds T plan is_plan g n.before n.after x n.whole_is n.cut_is n.below_is n.earlier next

      -- a cell that it reads or writes is as the plan has it there
      pub finds : (z : Seen) (b : ℕ) → touches deeds x.did b ≡ true → (left_by z c).cells b ≡ (effects z (before u (done_of c u) plan)).cells b
      finds z b t =
          ap (λ ms. (effects z (did_of (kept ms))).cells b) n.parts
          ∙ places.seen z n.before n.after x (cell_part b)
          (all_map (λ m h w. false_from_ne_true (is_some (m.step.did.writes b)) (λ e. h.1 w (record { threads = h.0 w; cell = b; meet = meet_wt m.step.did x.did b e t }))) n.before
          (both_of (λ m. m.done ≡ false → m.step.did.thread ≢ x.did.thread) _ n.before n.earlier open_apart))
          (all_map (λ m h w. false_from_ne_true (is_some (m.step.did.writes b))
          (λ e. h.1 w (record { threads = λ q. h.0 w (sym q); cell = b; meet = meet_tw x.did m.step.did b t e }))) n.after
          (both_of (λ m. m.done ≡ true → m.step.did.thread ≢ x.did.thread) _ n.after
          (cuts.cut_after deeds T plan is_plan g n.before n.after x n.whole_is n.cut_is n.below_is n.earlier)
          (cuts.done_apart deeds T plan is_plan g n.before n.after x n.whole_is n.cut_is n.below_is n.earlier next)))
          ∙ ap (λ l. (effects z l).cells b) (sym front)

  -- the next steps of two threads write no cell that the other touches, where each is plain or the next turn
  module _ (t u : ℕ) (x y : Timed Did) (at : slice_get (own t (times deeds T 0 plan)) (done_of c t) ≡ Some x) (bt : slice_get (own u (times deeds T 0 plan)) (done_of c u) ≡ Some y)
      (due : deeds.is_event x.did ≡ true → x.high ≡ g) (due' : deeds.is_event y.did ≡ true → y.high ≡ g) (threads : t ≢ u) where
    abbrev n' : Next t x
    n' = next_at t x at

    abbrev k' : Next u y
    k' = next_at u y bt

    pub apart : (b : ℕ) → touches deeds x.did b ≡ true → deeds.writes y.did b ≡ true → ⊥
    apart b h w = go
        (two_places (λ m. m.done ≡ false → Conflict deeds m.step.did x.did → ⊥) (λ m. m.done ≡ false → Conflict deeds m.step.did y.did → ⊥)
        n'.before (pending x) n'.after k'.before (pending y) k'.after (sym n'.parts ∙ k'.parts) (open_apart t x at due) (open_apart u y bt due'))
      where
        go : (false ≡ false → Conflict deeds y.did x.did → ⊥) ⊎ ((false ≡ false → Conflict deeds x.did y.did → ⊥) ⊎ (pending x ≡ pending y)) → ⊥
        go (inl f) = f refl (record { threads = λ e. threads (sym n'.thread ∙ sym e ∙ k'.thread); cell = b; meet = meet_wt t x at due y.did x.did b w h })
        go (inr (inl f)) = f refl (record { threads = λ e. threads (sym n'.thread ∙ e ∙ k'.thread); cell = b; meet = meet_tw t x at due x.did y.did b h w })
        go (inr (inr e)) = threads (sym n'.thread ∙ ap (λ (m : Mark (Timed Did)). m.step.did.thread) e ∙ k'.thread)
