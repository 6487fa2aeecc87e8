-- The first step of a thread that isn't done, at a state that is like what the done steps leave: the state has there
-- what the plan has there.
use Rattle.std.proofs.Common.{◌≡◌, ◌≢◌, ℕ, true, false, List, [], ◌∷◌, ◌++◌, Some, refl, sym, ap, ◌∙◌, subst}
use Rattle.std.specs.Prelude.{slice_get, is_some}
use Rattle.std.specs.List.{AllByRecursion as AllOf}
use Rattle.std.proofs.lemmas.Bool.{ne_eqb, false_from_ne_true}
use Rattle.pg_law_threads.specs.Steps.{Conflict}
use Rattle.pg_law_threads.specs.Intervals.{Timed, times, did_of}
use Rattle.pg_law_threads.specs.Cuts.{Mark, pending, performed, kept, whole, IsCut, IsBelow}
use Rattle.pg_law_threads.specs.Effects.{State, Deed, deeds, effect, effects, Same}
use Rattle.pg_law_threads.specs.Plans.{IsPlan, Likeness, Alike}
use Rattle.pg_law_threads.proofs.DoneLists.{all_map, both_of, did_append, all_did, kept_append, all_kept}
use Rattle.pg_law_threads.proofs.NextSteps as cuts
use Rattle.pg_law_threads.proofs.EffectsOfSteps.{same_back, effects_append, Apart, apart_of, later, Part, local_part, cell_part, objects_part, skips, agree, meet_written_read, meet_read_written}

-- a part of the state at a step that isn't done, where no open step before it and no done step behind it changes it
pub seen : {L B E Y A : Type 0} (z : State L B Y) (before after : List (Mark (Timed (Deed L B Y E)))) (p : Timed (Deed L B Y E)) (P : Part L B Y E A) →
    AllOf (λ m. m.done ≡ false → P.changes m.step.did ≡ false) before → AllOf (λ m. m.done ≡ true → P.changes m.step.did ≡ false) after →
    P.see (effects z (did_of (kept (before ++ pending p ∷ after)))) ≡ P.see (effects z (did_of (whole before)))
seen z before after p P h k =
    ap (λ l. P.see (effects z (did_of l))) (kept_append before (pending p ∷ after)) ∙ ap (λ l. P.see (effects z l)) (did_append (kept before) (kept after))
    ∙ ap P.see (effects_append z (did_of (kept before)) (did_of (kept after)))
    ∙ skips P (effects z (did_of (kept before))) (did_of (kept after)) (all_did (λ d. P.changes d ≡ false) (kept after) (all_kept (λ x. P.changes x.did ≡ false) after k))
    ∙ agree P z z before h refl

module _ {L B E L' B' E' Y : Type 0} (K : Likeness L B E L' B' E') (T : List ℕ) (z : State L B Y) (plan : List (Deed L B Y E)) (is_plan : IsPlan deeds T plan)
    (s : State L' B' Y) (g : ℕ) (before after : List (Mark (Timed (Deed L B Y E)))) (p : Timed (Deed L B Y E))
    (is_whole : whole (before ++ pending p ∷ after) ≡ times deeds T 0 plan)
    (is_cut : IsCut deeds (before ++ pending p ∷ after))
    (below : IsBelow g (before ++ pending p ∷ after))
    (alike : Alike K (effects z (did_of (kept (before ++ pending p ∷ after)))) s)
    (earlier : AllOf (λ m. m.done ≡ false → m.step.did.thread ≢ p.did.thread) before) where
  abbrev pub xs : List (Deed L B Y E)
  xs = did_of (whole before)

  pub split : plan ≡ xs ++ p.did ∷ did_of (whole after)
  split = cuts.split_steps deeds T plan is_plan g before after p is_whole is_cut below earlier

  pub cut_after : AllOf (λ n. n.done ≡ true → n.step.did.thread ≢ p.did.thread) after
  cut_after = cuts.cut_after deeds T plan is_plan g before after p is_whole is_cut below earlier

  pub state_split : effects z (did_of (kept (before ++ pending p ∷ after))) ≡ effects (effects z (did_of (kept before))) (did_of (kept after))
  state_split = ap (λ l. effects z (did_of l)) (kept_append before (pending p ∷ after)) ∙ ap (effects z) (did_append (kept before) (kept after))
      ∙ effects_append z (did_of (kept before)) (did_of (kept after))

  pub like_local : K.local ((effects z xs).locals p.did.thread) (s.locals p.did.thread)
  like_local = subst (λ l. K.local l (s.locals p.did.thread)) (seen z before after p (local_part p.did.thread)
      (all_map (λ m h w. ne_eqb p.did.thread m.step.did.thread (λ e. h w (sym e))) before earlier)
      (all_map (λ m h w. ne_eqb p.did.thread m.step.did.thread (λ e. h w (sym e))) after cut_after)) (alike.locals p.did.thread)

  module _ (next : deeds.is_event p.did ≡ true → slice_get T g ≡ Some p.did.thread) where
    pub open_apart : AllOf (λ m. m.done ≡ false → Conflict deeds m.step.did p.did → ⊥) before
    open_apart = cuts.open_apart deeds T plan is_plan g before after p is_whole is_cut below earlier next

    pub done_apart : AllOf (λ m. m.done ≡ true → Conflict deeds p.did m.step.did → ⊥) after
    done_apart = cuts.done_apart deeds T plan is_plan g before after p is_whole is_cut below earlier next

    pub like_cell : (b : ℕ) → p.did.reads b ≡ true → K.cell ((effects z xs).cells b) (s.cells b)
    like_cell b r = subst (λ v. K.cell v (s.cells b)) (seen z before after p (cell_part b)
        (all_map (λ m h w. false_from_ne_true (is_some (m.step.did.writes b)) (λ e. h.1 w (record { threads = h.0 w; cell = b; meet = meet_written_read deeds m.step.did p.did b e r }))) before
        (both_of (λ m. m.done ≡ false → m.step.did.thread ≢ p.did.thread) _ before earlier open_apart))
        (all_map (λ m h w. false_from_ne_true (is_some (m.step.did.writes b))
        (λ e. h.1 w (record { threads = λ q. h.0 w (sym q); cell = b; meet = meet_read_written deeds p.did m.step.did b r e }))) after
        (both_of (λ m. m.done ≡ true → m.step.did.thread ≢ p.did.thread) _ after cut_after done_apart))) (alike.cells b)

    pub like_objects : deeds.is_event p.did ≡ true → (effects z xs).objects ≡ s.objects
    like_objects v = sym (seen z before after p objects_part
        (cuts.open_events deeds T plan is_plan g before after p is_whole is_cut below earlier next v)
        (cuts.done_events deeds T plan is_plan g before after p is_whole is_cut below earlier next v)) ∙ alike.objects

    apart_after : AllOf (λ m. m.done ≡ true → Apart p.did m.step.did) after
    apart_after = all_map (λ m h w. apart_of p.did m.step.did (h.0 w) (h.1.0 w) (λ v. h.1.1 v w)) after
        (both_of (λ m. m.done ≡ true → m.step.did.thread ≢ p.did.thread) _ after cut_after
        (both_of (λ m. m.done ≡ true → Conflict deeds p.did m.step.did → ⊥) (λ m. deeds.is_event p.did ≡ true → m.done ≡ true → deeds.is_event m.step.did ≡ false) after done_apart
        (swap after (cuts.done_events deeds T plan is_plan g before after p is_whole is_cut below earlier next))))
      where
        swap : (ms : List (Mark (Timed (Deed L B Y E)))) → (deeds.is_event p.did ≡ true → AllOf (λ m. m.done ≡ true → deeds.is_event m.step.did ≡ false) ms)
            → AllOf (λ m. deeds.is_event p.did ≡ true → m.done ≡ true → deeds.is_event m.step.did ≡ false) ms
        swap [] h = tt
        swap (m ∷ ms) h = ((λ v. (h v).0), swap ms (λ v. (h v).1))

    after_state : effects z (did_of (kept (before ++ performed p ∷ after))) ≡ effects (effect (effects z (did_of (kept before))) p.did) (did_of (kept after))
    after_state = ap (λ l. effects z (did_of l)) (kept_append before (performed p ∷ after)) ∙ ap (effects z) (did_append (kept before) (p ∷ kept after))
        ∙ effects_append z (did_of (kept before)) (p.did ∷ did_of (kept after))

    pub same_after : Same (effect (effects z (did_of (kept (before ++ pending p ∷ after)))) p.did) (effects z (did_of (kept (before ++ performed p ∷ after))))
    same_after =
        let k1 = effects z (did_of (kept before)) in
        let two = later k1 p.did (did_of (kept after)) (all_did (Apart p.did) (kept after) (all_kept (λ x. Apart p.did x.did) after apart_after)) in
        subst (λ w. Same (effect (effects z (did_of (kept (before ++ pending p ∷ after)))) p.did) w) (sym after_state)
        (subst (λ w. Same (effect w p.did) (effects (effect k1 p.did) (did_of (kept after)))) (sym state_split) (same_back two))
