-- The steps that a run takes along turns are moves, and are ordered as these are.
use Rattle.std.proofs.Common.{◌≡◌, ◌≢◌, ℕ, ℤ, ◌⊎◌, ◌<◌, ◌^◌, ◌==◌, ◌||◌, ◌&&◌, suc, Bool, true, false, List, [], ◌∷◌, length, drop}
use Rattle.std.proofs.Common.{◌+◌, Option, Some, None, refl, sym, ap, ◌∙◌, subst, inl, inr}
use Rattle.std.specs.Prelude.{is_some, if◌then◌else◌}
use Rattle.std.proofs.lemmas.Bool.{cases_eq, eq-eqb, ne_eqb, true≢false}
use Rattle.pg_ir.specs.WellFormed.{IsProgram}
use Rattle.pg_ir.specs.declared.ids.InstrId.{InstrId}
use Rattle.pg_ir.specs.Program.{NumberedProgram}
use Rattle.pg_law_threads.specs.Effects as plans
use Rattle.pg_law_threads.specs.Effects.{Same, deeds}
use Rattle.pg_law_threads.specs.Intervals.{done_after}
use Rattle.pg_law_threads.specs.Plans.{Moves}
use Rattle.pg_law_threads.specs.Steps.{Conflict}
use Rattle.pg_law_threads.proofs.EffectsOfSteps.{deed_refl}
use Rattle.pg_run_trace.specs.declared.step.Step.{Step}
use Rattle.pg_run_trace.specs.declared.turn.Turn.{Turn}
use Rattle.pg_run_trace.specs.Steps.{event_of}
use Rattle.pg_run.specs.Runs.{Takes}
use Rattle.pg_run.specs.State.{State}
use Rattle.pg_law_effects.specs.Effect as effects
use Rattle.pg_law_effects.specs.Effect.{Effect, RequestEffect, effect, effect_of}
use Rattle.pg_law_effects.specs.PermittedSteps.{PermittedSteps, one_more, turns_behind}
use Rattle.pg_law_effects.specs.Reached.{IsReached}
use Rattle.pg_law_effects.specs.Views.{LeadsTo, cell_written, local_at, objects_of, objects_with}
use Rattle.pg_law_effects.proofs.StepsApart.{left_by}
use Rattle.pg_law_effects.proofs.ReachedStates.{reached_step}
use Rattle.pg_law_effects.proofs.StepViews.{leads_to}
use Rattle.pg_law_runs.specs.Deeds.{Did as Deed'}
use Rattle.pg_law_runs.proofs.RunsAsDeeds.{left_behind}
use Rattle.pg_law_runs.proofs.DeedDependence.{request_event}
use Rattle.pg_law_plan.specs.Likes.{MovedThread}
use Rattle.pg_law_plan.specs.Moves.{IsMove, RunDeed, RunState, deed_moved, moved}
use Rattle.pg_law_plan.proofs.KnownBeforeUnits.{no_if, thread_is, yes_if}
use Rattle.pg_law_plan.proofs.UnitTurns.{is_some_if}

old_as : (o : Option ℕ) (n : ℕ) → plans.or_old o n ≡ effects.or_old o n
old_as None n = refl
old_as (Some m) n = refl

-- two deeds touch the same cells
record TouchSame (d : RunDeed) (e : Deed') : Type 0 where
  thread : d.thread ≡ e.thread
  event : deeds.is_event d ≡ deeds.is_event e
  reads : (c : ℕ) → d.reads c ≡ e.reads c
  writes : (c : ℕ) → is_some (d.writes c) ≡ is_some (e.writes c)

meet_same : (w r v q w2 r2 v2 q2 : Bool) → w ≡ w2 → r ≡ r2 → v ≡ v2 → q ≡ q2 → ((w && (q || v)) || ((r || w) && v)) ≡ ((w2 && (q2 || v2)) || ((r2 || w2) && v2))
meet_same w r v q w2 r2 v2 q2 a b c d = rw (a, b, c, d) refl

conflicts : (d d2 : RunDeed) (e e2 : Deed') → TouchSame d e → TouchSame d2 e2 → Conflict deeds e e2 → Conflict deeds d d2 ⊎ ((deeds.is_event e ≡ true) × (deeds.is_event e2 ≡ true))
conflicts d d2 e e2 h k c = inl (record {
  threads = λ q. c.threads (sym h.thread ∙ q ∙ k.thread);
  cell = c.cell;
  meet = meet_same (is_some (d.writes c.cell)) (d.reads c.cell) (is_some (d2.writes c.cell)) (d2.reads c.cell) (is_some (e.writes c.cell)) (e.reads c.cell) (is_some (e2.writes c.cell))
      (e2.reads c.cell) (h.writes c.cell) (h.reads c.cell) (k.writes c.cell) (k.reads c.cell) ∙ c.meet;
})

module _ (gated : List InstrId) (p : NumberedProgram) (input : List ℤ) where
  -- what these steps do, one after another
  unfoldable pub moved_by : State → (ℕ → ℕ) → List Step → List RunDeed
  moved_by s counts [] = []
  moved_by s counts (x ∷ xs) = deed_moved p input s counts x ∷ moved_by (effect s (effect_of p input s x.thread.0)) (one_more x.thread.0 counts) xs

  -- ---- a step leads to what its move leaves

  module _ (s : State) (counts : ℕ → ℕ) (a : RunState) (x : Step) (reached : IsReached p s) (looks : Same a (moved s counts)) (h : Takes gated p input s x) where
    e : Effect
    e = effect_of p input s x.thread.0

    to : LeadsTo (effect_of p input s x.thread.0) s (effect s (effect_of p input s x.thread.0))
    to = subst (LeadsTo (effect_of p input s x.thread.0) s) (left_by gated p input s h.after x.thread.0 x h.is_step) (leads_to gated p input s h.after x.thread.0 x reached h.is_ready h.is_step)

    move_leads : Same (plans.effect a (deed_moved p input s counts x)) (moved (effect s (effect_of p input s x.thread.0)) (one_more x.thread.0 counts))
    move_leads = record {
      locals = λ v. by_thread v (cases_eq v x.thread.0);
      cells = λ c. old_as (cell_written (effect_of p input s x.thread.0) c) (a.cells c) ∙ ap (effects.or_old (cell_written (effect_of p input s x.thread.0) c)) (looks.cells c) ∙ sym (to.cells c);
      objects = by_event (is_some (event_of x)) refl;
    }
      where
        local_is : (v : ℕ) → local_at (effect s (effect_of p input s x.thread.0)) v ≡ (if v == x.thread.0 then (effect_of p input s x.thread.0).local else local_at s v)
        local_is v = to.locals v ∙ ap (λ (t : ℕ). if v == t then (effect_of p input s x.thread.0).local else local_at s v) (thread_is p input s x.thread.0)

        own : (v : ℕ) → v ≡ x.thread.0 → Path MovedThread (record { local = (effect_of p input s x.thread.0).local; moves = suc (counts x.thread.0) })
            (record { local = local_at (effect s (effect_of p input s x.thread.0)) v; moves = one_more x.thread.0 counts v })
        own v q = ap (λ l. record { local = l; moves = suc (counts x.thread.0) }) (sym (local_is v ∙ yes_if (v == x.thread.0) _ _ (eq-eqb v x.thread.0 q)))
            ∙ ap (λ (k : ℕ). record { local = local_at (effect s (effect_of p input s x.thread.0)) v; moves = k })
            (ap (λ (i : ℕ). suc (counts i)) (sym q) ∙ sym (yes_if (x.thread.0 == v) (suc (counts v)) (counts v) (eq-eqb x.thread.0 v (sym q))))

        by_thread : (v : ℕ) → (v ≡ x.thread.0) ⊎ (v ≢ x.thread.0)
            → (if v == x.thread.0 then (deed_moved p input s counts x).to else a.locals v) ≡ (moved (effect s (effect_of p input s x.thread.0)) (one_more x.thread.0 counts)).locals v
        by_thread v (inl q) = yes_if (v == x.thread.0) (deed_moved p input s counts x).to (a.locals v) (eq-eqb v x.thread.0 q) ∙ own v q
        by_thread v (inr q) = no_if (v == x.thread.0) (deed_moved p input s counts x).to (a.locals v) (ne_eqb v x.thread.0 q) ∙ looks.locals v
            ∙ ap (λ l. record { local = l; moves = counts v }) (sym (local_is v ∙ no_if (v == x.thread.0) _ _ (ne_eqb v x.thread.0 q)))
            ∙ ap (λ (k : ℕ). record { local = local_at (effect s (effect_of p input s x.thread.0)) v; moves = k })
            (sym (no_if (x.thread.0 == v) (suc (counts v)) (counts v) (ne_eqb x.thread.0 v (λ w. q (sym w)))))

        none : is_some (event_of x) ≡ false → (o : Option RequestEffect) → (effect_of p input s x.thread.0).request ≡ o → o ≡ None
        none v None q = refl
        none v (Some k) q = absurd (true≢false (sym (request_event gated p input s x h (ap is_some q)) ∙ v))

        by_event : (b : Bool) → is_some (event_of x) ≡ b → plans.or_old
            (if b then Some (objects_with (effect_of p input s x.thread.0).thread (effect_of p input s x.thread.0).request (objects_of s)) else None) a.objects
            ≡ objects_of (effect s (effect_of p input s x.thread.0))
        by_event true v = sym to.objects
        by_event false v = looks.objects ∙ sym (to.objects
            ∙ ap (λ (o : Option RequestEffect). objects_with (effect_of p input s x.thread.0).thread o (objects_of s)) (none v (effect_of p input s x.thread.0).request refl))

  -- ---- the steps of a permitted run are moves

  pub moves_are : (turns : List Turn) (s : State) (counts : ℕ → ℕ) (a : RunState) (g : ℕ) (xs : List Step) (z : State) → IsProgram p → length input < 2 ^ 64 → IsReached p s
      → Same a (moved s counts) →
      PermittedSteps gated p input s (drop g turns) counts xs z → Moves (IsMove gated p input turns) a g (moved_by s counts xs)
  unfolding moved_by
  moves_are turns s counts a g [] z program small reached looks h = tt
  moves_are turns s counts a g (x ∷ xs) z program small reached looks h =
      let m = h.0 in
      let t = x.thread.0 in
      let d = deed_moved p input s counts x in
      let w : m.takes.after ≡ effect s (effect_of p input s t) = left_by gated p input s m.takes.after t x m.takes.is_step in
      let more : PermittedSteps gated p input (effect s (effect_of p input s t)) (drop (done_after (deeds.is_event d) g) turns) (one_more t counts) xs z =
      subst (λ (us : List Turn). PermittedSteps gated p input (effect s (effect_of p input s t)) us (one_more t counts) xs z)
      (left_behind (event_of x) g turns ∙ ap (λ (b : Bool). drop (done_after b g) turns)
      (sym (is_some_if (is_some (event_of x)) (objects_with (effect_of p input s t).thread (effect_of p input s t).request (objects_of s)))))
      (subst (λ (v : State). PermittedSteps gated p input v (turns_behind (event_of x) (drop g turns)) (one_more t counts) xs z) w h.1) in (
        record {
          state = s;
          moves = counts;
          taken = counts;
          reached = reached;
          looks = record { locals = λ v e. looks.locals v; cells = looks.cells; objects = looks.objects };
          told = x;
          may = m;
          is_deed = deed_refl d;
        },
        moves_are turns (effect s (effect_of p input s t)) (one_more t counts) (plans.effect a d) (done_after (deeds.is_event d) g) xs z program small
            (subst (IsReached p) w (reached_step gated p input s m.takes.after t x program small reached m.takes.is_ready m.takes.is_step)) (move_leads s counts a x reached looks m.takes) more,
      )

  -- they lead to the run's state
  pub moves_lead : (us : List Turn) (s : State) (counts : ℕ → ℕ) (a : RunState) (xs : List Step) (z : State) → IsProgram p → length input < 2 ^ 64 → IsReached p s
      → Same a (moved s counts) →
      PermittedSteps gated p input s us counts xs z → (c : ℕ → ℕ) × Same (plans.effects a (moved_by s counts xs)) (moved z c)
  unfolding moved_by
  moves_lead us s counts a [] z program small reached looks h = (counts, subst (λ (v : State). Same a (moved v counts)) h looks)
  moves_lead us s counts a (x ∷ xs) z program small reached looks h =
      let m = h.0 in
      let t = x.thread.0 in
      let w : m.takes.after ≡ effect s (effect_of p input s t) = left_by gated p input s m.takes.after t x m.takes.is_step in
      moves_lead (turns_behind (event_of x) us) (effect s (effect_of p input s t)) (one_more t counts) (plans.effect a (deed_moved p input s counts x)) xs z program small
      (subst (IsReached p) w (reached_step gated p input s m.takes.after t x program small reached m.takes.is_ready m.takes.is_step)) (move_leads s counts a x reached looks m.takes)
      (subst (λ (v : State). PermittedSteps gated p input v (turns_behind (event_of x) us) (one_more t counts) xs z) w h.1)
