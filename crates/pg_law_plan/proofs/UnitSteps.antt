-- A single step at a unit of the plan: it is an event where the unit is, and fits it.
use Rattle.std.proofs.Common.{◌≡◌, ℕ, ℤ, ◌⊎◌, ◌<◌, ◌≤◌, ◌^◌, ◌+◌, Bool, true, false, List, [], ◌∷◌, ◌++◌, length, map, drop, Option, Some, None}
use Rattle.std.proofs.Common.{refl, sym, ap, ◌∙◌, subst, arith, inl, inr, suc}
use Rattle.std.specs.Prelude.{◌==◌, is_some, slice_get}
use Rattle.std.proofs.lemmas.Bool.{eqb-true}
use Rattle.std.proofs.lemmas.Option.{slice_get_within}
use Rattle.pg_law_threads.specs.Effects.{deeds, effects}
use Rattle.pg_law_threads.specs.Intervals.{turns_done}
use Rattle.pg_law_threads.specs.Plans.{Fits}
use Rattle.pg_run_trace.specs.declared.turn.Turn.{Turn}
use Rattle.pg_run_trace.specs.Steps.{event_of, happening_in}
use Rattle.pg_run.specs.Permitted.{has_turn}
use Rattle.pg_law_effects.specs.Views.{local_at}
use Rattle.pg_law_runs.specs.Deeds.{local_event, owners_of}
use Rattle.pg_law_runs.proofs.DeedDependence.{due_owner, event_seen, get_behind, some_turn}
use Rattle.pg_slice_rules.specs.Closed.{IsClosed, admits}
use Rattle.pg_slice_rules.specs.Known.{Taken, thread_of}
use Rattle.pg_slice_rules.specs.Moments.{thread_in}
use Rattle.pg_law_plan.specs.Fits.{IsRemembered, PlanRemembers, StartsAreFresh, thread_before}
use Rattle.pg_law_plan.specs.Likes.{IsCellLike, IsThreadLike, MovedThread, PlanThread, StandLike, like}
use Rattle.pg_law_plan.specs.Lists.{Has}
use Rattle.pg_law_plan.specs.Moves.{IsMove, RunDeed, RunState}
use Rattle.pg_law_plan.specs.Order.{IsOrderedRun}
use Rattle.pg_law_plan.specs.Units.{ExtentsArePlain, PlanUnit, ReferenceRun, deed_of, is_event_at, is_instance, plan_of, plan_start, reads_cell, reference_of, standing_of, turns_of, units_of}
use Rattle.pg_law_plan.proofs.EachUnit.{IsUnit}
use Rattle.pg_law_plan.proofs.AllTurnsDone as counted
use Rattle.pg_law_plan.proofs.NextEvents.{events_alike}
use Rattle.pg_law_plan.proofs.LocalStepFits.{Pair, can, can0}
use Rattle.pg_law_plan.proofs.ListMembers.{has_right}
use Rattle.pg_law_plan.proofs.AlikeThreads.{Beginning, Both, opened}
use Rattle.pg_law_plan.proofs.StepFits.{unit_at, unit_fits}
use Rattle.pg_law_plan.proofs.UnitTurns.{is_some_if}

owner_in : (t : ℕ) (us : List Turn) → has_turn t us ≡ true → (i : ℕ) × (slice_get (owners_of us) i ≡ Some t)
owner_in t [] h = absurd cc
owner_in t (u ∷ us) h = go (u.thread.0 == t) refl (owner_in t us)
  where
    go : (b : Bool) → (u.thread.0 == t) ≡ b → (has_turn t us ≡ true → (i : ℕ) × (slice_get (owners_of us) i ≡ Some t)) → (i : ℕ) × (slice_get (owners_of (u ∷ us)) i ≡ Some t)
    go true e more = (0, ap Some (eqb-true u.thread.0 t e))
    go false e more = let k = more (rw e at h) in (suc k.0, k.1)

-- a unit at its place, with what is remembered of its thread
module _ (r : ReferenceRun) (d : Taken) (input : List ℤ) (remembers : PlanRemembers r d) (us : List PlanUnit) (u : PlanUnit) (vs : List PlanUnit) (is : units_of r d ≡ us ++ u ∷ vs)
    (s : RunState)
    (like_thread : IsThreadLike input ((effects (plan_start r) (map (deed_of d) us)).locals (thread_in u.seen.moment)) (s.locals (thread_in u.seen.moment))) where
  pub at_unit : record {
    has : Has (units_of r d) u;
    memory : IsRemembered r d us u;
    thread : IsThreadLike input (thread_before u) (s.locals (thread_in u.seen.moment));
  }
  at_unit =
      let memory : IsRemembered r d us u = remembers us u vs is in
      record {
        has = subst (λ (l : List PlanUnit). Has l u) (sym is) (has_right us (u ∷ vs) u (inl refl));
        memory = memory;
        thread = subst (λ (z : PlanThread). IsThreadLike input z (s.locals (thread_in u.seen.moment))) memory.thread like_thread;
      }

module _ (r : ReferenceRun) (d : Taken) (input : List ℤ) (turns : List Turn) (o : IsOrderedRun r) (plain : ExtentsArePlain r d) (fresh : StartsAreFresh r d) (remembers : PlanRemembers r d)
    (closed : IsClosed (reference_of r) d) (admitted : admits (reference_of r) d input ≡ true) (small : length input < 2 ^ 64) (same_turns : owners_of turns ≡ turns_of r) where
  abbrev Move : RunState → ℕ → RunDeed → Type 0
  Move = IsMove r.gated r.program input turns

  -- a move at a unit
  module _ (us : List PlanUnit) (u : PlanUnit) (vs : List PlanUnit) (is : units_of r d ≡ us ++ u ∷ vs) (one : is_instance d u.seen ≡ false) (s : RunState) (g : ℕ) (e : RunDeed)
      (m : IsMove r.gated r.program input turns s g e) (mine : e.thread ≡ thread_in u.seen.moment)
      (like_thread : IsThreadLike input ((effects (plan_start r) (map (deed_of d) us)).locals (thread_in u.seen.moment)) (s.locals (thread_in u.seen.moment))) where
    open at_unit r d input remembers us u vs is s like_thread use {has, memory, thread}

    unit : IsUnit r d u
    unit = unit_at r d input o plain small closed admitted u has

    mine_told : m.told.thread.0 ≡ thread_in u.seen.moment
    mine_told = sym m.is_deed.thread ∙ mine

    stands : StandLike input (standing_of (local_at u.state (thread_in u.seen.moment)) (thread_of u.seen.before (thread_in u.seen.moment)).calls) (local_at m.state (thread_in u.seen.moment))
    stands = subst (λ (l : MovedThread). StandLike input (standing_of (local_at u.state (thread_in u.seen.moment)) (thread_of u.seen.before (thread_in u.seen.moment)).calls) l.local)
        (m.looks.locals (thread_in u.seen.moment) (sym mine_told)) thread.stands

    -- both are events, or neither is
    event_told : is_some (event_of m.told) ≡ local_event r.gated r.program (local_at m.state (thread_in u.seen.moment))
    event_told = event_seen r.gated r.program input m.state m.told m.reached m.may.takes ∙ ap (λ (t : ℕ). local_event r.gated r.program (local_at m.state t)) mine_told

    event_told0 : is_event_at u.seen ≡ local_event r.gated r.program (local_at u.state (thread_in u.seen.moment))
    event_told0 = sym (some_turn u.seen.moment.did.did (happening_in u.seen.moment.did.did.kind)) ∙ event_seen r.gated r.program r.input u.state u.seen.moment.did.did unit.met.reached unit.met.takes

    locals_alike : local_event r.gated r.program (local_at m.state (thread_in u.seen.moment)) ≡ local_event r.gated r.program (local_at u.state (thread_in u.seen.moment))
    locals_alike = go (opened r.gated r.program r.input input u.state m.state u.seen.moment.did.did
        (thread_of u.seen.before (thread_in u.seen.moment)).calls unit.met.reached unit.met.takes m.reached stands)
      where
        go : Both r.program input (thread_in u.seen.moment) u.state m.state (thread_of u.seen.before (thread_in u.seen.moment)).calls
            ⊎ Beginning r.program (thread_in u.seen.moment) u.state m.state →
            local_event r.gated r.program (local_at m.state (thread_in u.seen.moment)) ≡ local_event r.gated r.program (local_at u.state (thread_in u.seen.moment))
        go (inl b) =
            let q : Pair r d input u m.state m.moves m.told =
            record {
              unit = unit;
              plain = one;
              reached = m.reached;
              takes = m.may.takes;
              own = mine_told;
              both = b;
              units = ap (λ (l : MovedThread). l.moves) (sym (m.looks.locals (thread_in u.seen.moment) (sym mine_told))) ∙ thread.moves;
            } in
            events_alike r.gated r.program input (thread_in u.seen.moment) u.state m.state (thread_of u.seen.before (thread_in u.seen.moment)).calls b (can0 r d input u m.state m.moves m.told q)
            (can r d input u m.state m.moves m.told q)
        go (inr b) = ap (local_event r.gated r.program) (b.none ∙ sym (none_of (local_at u.state (thread_in u.seen.moment)) stands_none))
          where
            stands_none : StandLike input (standing_of (local_at u.state (thread_in u.seen.moment)) (thread_of u.seen.before (thread_in u.seen.moment)).calls) None
            stands_none = subst (StandLike input (standing_of (local_at u.state (thread_in u.seen.moment)) (thread_of u.seen.before (thread_in u.seen.moment)).calls)) b.none stands

            none_of : (l : Option Rattle.pg_run_thread.specs.LocalState.LocalState) → StandLike input (standing_of l (thread_of u.seen.before (thread_in u.seen.moment)).calls) None → l ≡ None
            none_of None h = refl
            none_of (Some l) h = absurd h

    pub kind_at : deeds.is_event e ≡ deeds.is_event (deed_of d u)
    kind_at = ap is_some m.is_deed.objects ∙ is_some_if (is_some (event_of m.told)) _ ∙ event_told ∙ locals_alike ∙ sym event_told0 ∙ sym (is_some_if (is_event_at u.seen) u.objects)

    pub fits_at : ((c : ℕ) → reads_cell d u.seen c ≡ true → IsCellLike input ((effects (plan_start r) (map (deed_of d) us)).cells c) (s.cells c)) →
        (deeds.is_event (deed_of d u) ≡ true → (effects (plan_start r) (map (deed_of d) us)).objects ≡ s.objects) → Fits (like input) (deed_of d u) e
    fits_at cells objects = unit_fits r d input o plain small closed admitted u has fresh one turns s g e m (record {
      thread = thread;
      cells = λ c h. subst (λ z. IsCellLike input z (s.cells c)) (memory.cells c) (cells c h);
      objects = λ h. sym memory.objects ∙ objects (is_some_if (is_event_at u.seen) u.objects ∙ h);
    }) mine

  -- ---- turns

  pub turn_at_move : (s : RunState) (g : ℕ) (e : RunDeed) → IsMove r.gated r.program input turns s g e → deeds.is_event e ≡ true → slice_get (turns_of r) g ≡ Some e.thread
  turn_at_move s g e m v =
      let event : is_some (event_of m.told) ≡ true = sym (ap is_some m.is_deed.objects ∙ is_some_if (is_some (event_of m.told)) _) ∙ v in
      let plus : g ≡ g + 0 = omega arith in
      ap (λ (l : List ℕ). slice_get l g) (sym same_turns) ∙ ap (slice_get (owners_of turns)) plus ∙ sym (get_behind r.gated r.program input g turns 0)
      ∙ due_owner r.gated r.program input m.told (happening_in m.told.kind) (drop g turns) event m.may.due ∙ ap (λ (t : ℕ). Some t) (sym m.is_deed.thread)

  -- a thread that has a turn left has a unit left
  pub none_left_by : (t g : ℕ) → has_turn t (drop g turns) ≡ true → ((i : ℕ) → g ≤ i → slice_get (turns_of r) i ≡ Some t → turns_done deeds 0 (plan_of r d) ≤ i) → ⊥
  none_left_by t g owner h =
      let k = owner_in t (drop g turns) owner in
      let at : slice_get (turns_of r) (g + k.0) ≡ Some t = ap (λ (l : List ℕ). slice_get l (g + k.0)) (sym same_turns) ∙ sym (get_behind r.gated r.program input g turns k.0) ∙ k.1 in
      let far = h (g + k.0) (omega arith) at in
      let near = slice_get_within (turns_of r) (g + k.0) t at in
      let all = plan_turns in
      absurd (omega (arith, far, near, all))
    where
      plan_turns : turns_done deeds 0 (plan_of r d) ≡ length (turns_of r)
      plan_turns = counted.plan_turns r d plain

  pub none_left : (s : RunState) (g : ℕ) (e : RunDeed) → IsMove r.gated r.program input turns s g e
      → ((i : ℕ) → g ≤ i → slice_get (turns_of r) i ≡ Some e.thread → turns_done deeds 0 (plan_of r d) ≤ i) → ⊥
  none_left s g e m h = none_left_by m.told.thread.0 g m.may.owner (λ i le at. h i le (at ∙ ap (λ (t : ℕ). Some t) (sym m.is_deed.thread)))
