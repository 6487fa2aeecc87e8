-- The steps of a kind that are done at a cut are the first ones of that kind.
use Rattle.std.proofs.Common.{◌≡◌, ◌≢◌, ℕ, ◌≤◌, ◌⊎◌, Bool, true, false, cond, List, [], ◌∷◌, ◌++◌, refl, sym, ap, ◌∙◌, subst, arith, suc, inl, inr}
use Rattle.std.proofs.Common.{append-nil}
use Rattle.std.specs.List.{AllByRecursion as AllOf, filter}
use Rattle.std.proofs.lemmas.List.Elements.{filter-append}
use Rattle.std.proofs.lemmas.Bool.{false_from_ne_true}
use Rattle.pg_law_threads.specs.Steps.{View, EachPair}
use Rattle.pg_law_threads.specs.Intervals.{Timed, times, did_of}
use Rattle.pg_law_threads.specs.Cuts.{Mark, pending, kept, whole, IsCut, IsWithin, IsBelow}
use Rattle.pg_law_threads.specs.Effects.{Deed, deeds}
use Rattle.pg_law_threads.specs.Plans.{IsPlan}
use Rattle.pg_law_threads.proofs.DoneLists.{all_map, both_of, all_right, all_did, all_kept, whole_append, did_append, kept_append, at_marks, pairs_after, First, find, cut_at}
use Rattle.pg_law_threads.proofs.TimedSteps.{events_low, low_high}

-- ---- the steps of a kind

module _ {A : Type 0} (c : A → Bool) where
  -- where no open step is of the kind, all of the kind are done
  pub same_chosen : (ms : List (Mark (Timed A))) → AllOf (λ m. m.done ≡ false → c m.step.did ≡ false) ms → filter c (did_of (kept ms)) ≡ filter c (did_of (whole ms))
  same_chosen [] h = refl
  same_chosen (m ∷ ms) h = go m.done refl (same_chosen ms h.1)
    where
      go : (b : Bool) → m.done ≡ b → filter c (did_of (kept ms)) ≡ filter c (did_of (whole ms))
          → filter c (did_of (cond m.done (m.step ∷ kept ms) (kept ms))) ≡ cond (c m.step.did) (m.step.did ∷ filter c (did_of (whole ms))) (filter c (did_of (whole ms)))
      go true w ih = rw w (ap (λ l. cond (c m.step.did) (m.step.did ∷ l) l) ih)
      go false w ih = rw (w, h.0 w) ih

  none_chosen : (xs : List A) → AllOf (λ x. c x ≡ false) xs → filter c xs ≡ []
  none_chosen [] h = refl
  none_chosen (x ∷ xs) h = rw h.0 (none_chosen xs h.1)

  -- where no step of the kind is open before a place, and none is done behind it, those done are the first ones
  pub first_chosen : (before : List (Mark (Timed A))) (p : Timed A) (after : List (Mark (Timed A))) → AllOf (λ m. m.done ≡ false → c m.step.did ≡ false) before
      → AllOf (λ m. m.done ≡ true → c m.step.did ≡ false) after →
      filter c (did_of (kept (before ++ pending p ∷ after))) ++ filter c (p.did ∷ did_of (whole after)) ≡ filter c (did_of (whole (before ++ pending p ∷ after)))
  first_chosen before p after h k =
      ap (λ l. l ++ filter c (p.did ∷ did_of (whole after)))
      (ap (λ l. filter c (did_of l)) (kept_append before (pending p ∷ after)) ∙ ap (filter c) (did_append (kept before) (kept after))
      ∙ filter-append c (did_of (kept before)) (did_of (kept after))
      ∙ ap (λ l. filter c (did_of (kept before)) ++ l) (none_chosen (did_of (kept after)) (all_did (λ x. c x ≡ false) (kept after) (all_kept (λ x. c x.did ≡ false) after k)))
      ∙ append-nil (filter c (did_of (kept before))) ∙ same_chosen before h)
      ∙ sym (ap (λ l. filter c (did_of l)) (whole_append before (pending p ∷ after)) ∙ ap (filter c) (did_append (whole before) (p ∷ whole after))
      ∙ filter-append c (did_of (whole before)) (p.did ∷ did_of (whole after)))

module _ {A : Type 0} (V : View A) (u : ℕ) (c : A → Bool) (is_own : (x : A) → (V.thread x ≢ u) → c x ≡ false) where
  -- at a cut the steps of a thread that are done are its first ones
  pub own_first : (ms : List (Mark (Timed A))) → IsCut V ms → (rest : List A) × (filter c (did_of (kept ms)) ++ rest ≡ filter c (did_of (whole ms)))
  own_first ms h = go (find V u ms)
    where
      go : AllOf (λ m. m.done ≡ false → V.thread m.step.did ≢ u) ms ⊎ First V u ms → (rest : List A) × (filter c (did_of (kept ms)) ++ rest ≡ filter c (did_of (whole ms)))
      go (inl a) = ([], append-nil (filter c (did_of (kept ms))) ∙ same_chosen c ms (all_map (λ m k w. is_own m.step.did (k w)) ms a))
      go (inr f) =
          let alone = cut_at V f.before (pending f.step) f.after (subst (IsCut V) f.parts h) refl in (
            filter c (f.step.did ∷ did_of (whole f.after)),
            ap (λ l. filter c (did_of (kept l)) ++ filter c (f.step.did ∷ did_of (whole f.after))) f.parts
                ∙ first_chosen c f.before f.step f.after (all_map (λ m k w. is_own m.step.did (k w)) f.before f.earlier)
                (all_map (λ m k w. is_own m.step.did (λ e. k w (e ∙ sym f.thread))) f.after alone)
                ∙ ap (λ l. filter c (did_of (whole l))) (sym f.parts),
          )

module _ {L B Y E : Type 0} where
  -- an event that isn't done, all events before it being done
  pub record OpenEvent (ms : List (Mark (Timed (Deed L B Y E)))) : Type 0 where
    pub before : List (Mark (Timed (Deed L B Y E)))
    pub step : Timed (Deed L B Y E)
    pub after : List (Mark (Timed (Deed L B Y E)))
    pub parts : ms ≡ before ++ pending step ∷ after
    pub event : deeds.is_event step.did ≡ true
    pub earlier : AllOf (λ m. m.done ≡ false → deeds.is_event m.step.did ≡ false) before

  pub find_event : (ms : List (Mark (Timed (Deed L B Y E)))) → AllOf (λ m. m.done ≡ false → deeds.is_event m.step.did ≡ false) ms ⊎ OpenEvent ms
  find_event [] = inl tt
  find_event (m ∷ ms) = go m.done (deeds.is_event m.step.did) refl refl (find_event ms)
    where
      pass : (m.done ≡ false → deeds.is_event m.step.did ≡ false) → AllOf (λ m. m.done ≡ false → deeds.is_event m.step.did ≡ false) ms ⊎ OpenEvent ms
          → AllOf (λ m. m.done ≡ false → deeds.is_event m.step.did ≡ false) (m ∷ ms) ⊎ OpenEvent (m ∷ ms)
      pass h (inl k) = inl (h, k)
      pass h (inr o) = inr (record { before = m ∷ o.before; step = o.step; after = o.after; parts = ap (λ l. m ∷ l) o.parts; event = o.event; earlier = (h, o.earlier) })

      go : (b e : Bool) → m.done ≡ b → deeds.is_event m.step.did ≡ e → AllOf (λ m. m.done ≡ false → deeds.is_event m.step.did ≡ false) ms ⊎ OpenEvent ms
          → AllOf (λ m. m.done ≡ false → deeds.is_event m.step.did ≡ false) (m ∷ ms) ⊎ OpenEvent (m ∷ ms)
      go true e w v k = pass (λ w'. absurd (cc)) k
      go false false w v k = pass (λ w'. v) k
      go false true w v k = inr (record { before = []; step = m.step; after = ms; parts = ap (λ b. (record { done = b; step = m.step }) ∷ ms) w; event = v; earlier = tt })

module _ {L B Y E : Type 0} (T : List ℕ) (plan : List (Deed L B Y E)) (is_plan : IsPlan deeds T plan) (g : ℕ) where
  -- behind an event that isn't done no event is
  pub none_behind : (before after : List (Mark (Timed (Deed L B Y E)))) (e : Timed (Deed L B Y E)) → whole (before ++ pending e ∷ after) ≡ times deeds T 0 plan
      → IsBelow g (before ++ pending e ∷ after) → deeds.is_event e.did ≡ true →
      AllOf (λ m. m.done ≡ true → deeds.is_event m.step.did ≡ false) after
  none_behind before after e is_whole below event =
      all_map (λ m k w. false_from_ne_true (deeds.is_event m.step.did) (λ v. let a = k.0 v in let b = k.1.0.if_done w in let c = k.1.1 in
      let d = (all_right (λ m. deeds.is_event m.step.did ≡ true → m.step.low ≡ suc m.step.high) before (pending e ∷ after) lows).0 event in
      let f = (all_right (IsWithin g) before (pending e ∷ after) below).0.if_open refl in absurd (omega (arith, a, b, c, d, f)))) after
      (both_of (λ m. deeds.is_event m.step.did ≡ true → m.step.low ≡ suc m.step.high) _ after
      (all_right (λ m. deeds.is_event m.step.did ≡ true → m.step.low ≡ suc m.step.high) before (pending e ∷ after) lows).1
      (both_of (IsWithin g) (λ m. e.low ≤ m.step.high) after (all_right (IsWithin g) before (pending e ∷ after) below).1 after_high))
    where
      lows : AllOf (λ m. deeds.is_event m.step.did ≡ true → m.step.low ≡ suc m.step.high) (before ++ pending e ∷ after)
      lows = at_marks (λ x. deeds.is_event x.did ≡ true → x.low ≡ suc x.high) (before ++ pending e ∷ after)
          (subst (AllOf (λ x. deeds.is_event x.did ≡ true → x.low ≡ suc x.high)) (sym is_whole) (events_low deeds T 0 plan is_plan.turns))

      split : times deeds T 0 plan ≡ whole before ++ e ∷ whole after
      split = sym is_whole ∙ whole_append before (pending e ∷ after)

      after_high : AllOf (λ m. e.low ≤ m.step.high) after
      after_high = at_marks (λ x. e.low ≤ x.high) after (pairs_after (λ x y. x.low ≤ y.high) (whole before) e (whole after)
          (subst (EachPair (λ x y. x.low ≤ y.high)) split (low_high deeds T 0 plan (omega arith) is_plan.turns)))

  -- the events that are done are the first ones
  pub events_first : (ms : List (Mark (Timed (Deed L B Y E)))) → whole ms ≡ times deeds T 0 plan → IsBelow g ms
      → (rest : List (Deed L B Y E)) × (filter deeds.is_event (did_of (kept ms)) ++ rest ≡ filter deeds.is_event (did_of (whole ms)))
  events_first ms is_whole below = go (find_event ms)
    where
      go : AllOf (λ m. m.done ≡ false → deeds.is_event m.step.did ≡ false) ms ⊎ OpenEvent ms
          → (rest : List (Deed L B Y E)) × (filter deeds.is_event (did_of (kept ms)) ++ rest ≡ filter deeds.is_event (did_of (whole ms)))
      go (inl a) = ([], append-nil (filter deeds.is_event (did_of (kept ms))) ∙ same_chosen deeds.is_event ms a)
      go (inr o) = (
        filter deeds.is_event (o.step.did ∷ did_of (whole o.after)),
        ap (λ l. filter deeds.is_event (did_of (kept l)) ++ filter deeds.is_event (o.step.did ∷ did_of (whole o.after))) o.parts
            ∙ first_chosen deeds.is_event o.before o.step o.after o.earlier (none_behind o.before o.after o.step (ap whole (sym o.parts) ∙ is_whole) (subst (IsBelow g) o.parts below) o.event)
            ∙ ap (λ l. filter deeds.is_event (did_of (whole l))) (sym o.parts),
      )
