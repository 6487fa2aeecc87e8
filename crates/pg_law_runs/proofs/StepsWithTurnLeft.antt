-- A run whose events are the first turns: its steps that have a turn left are permitted ones.
use Rattle.std.proofs.Common.{◌≡◌, ℕ, ℤ, ◌+◌, ◌-◌, ◌<◌, ◌≤◌, ◌^◌, List, [], ◌∷◌, ◌++◌, length, drop, Bool, Some, refl, sym, ◌∙◌, ap, subst, arith}
use Rattle.std.specs.Prelude.{slice_get}
use Rattle.pg_num.specs.declared.limits.TheConstants.{GUIDED_STEP_LIMIT}
use Rattle.pg_ir.specs.declared.ids.InstrId.{InstrId}
use Rattle.pg_ir.specs.Program.{NumberedProgram}
use Rattle.pg_ir.specs.WellFormed.{IsProgram}
use Rattle.pg_law_threads.specs.Effects as plans
use Rattle.pg_law_threads.specs.Effects.{Same, deeds}
use Rattle.pg_law_threads.specs.Intervals.{AreTurns, done_after, turns_done}
use Rattle.pg_law_threads.specs.Machines.{Takes as PlanTakes}
use Rattle.pg_law_threads.proofs.EffectsOfSteps.{deed_refl}
use Rattle.pg_law_threads.proofs.DoneLists.{cons_head, cons_tail}
use Rattle.pg_run_trace.specs.declared.turn.Turn.{Turn}
use Rattle.pg_run_trace.specs.declared.step.Step.{Step}
use Rattle.pg_run.specs.State.{State}
use Rattle.pg_run.specs.Permitted.{turns_left}
use Rattle.pg_run.specs.Runs.{IsRun, Takes, event_of, events, steps_of}
use Rattle.pg_law_effects.specs.PermittedSteps.{IsDue, one_more, turns_behind}
use Rattle.pg_law_effects.specs.Reached.{IsReached}
use Rattle.pg_law_effects.proofs.StepsApart.{left_by}
use Rattle.pg_law_effects.proofs.ReachedStates.{reached_step}
use Rattle.pg_run_trace.specs.Steps.{happening_in}
use Rattle.pg_law_runs.specs.Deeds.{Did as Deed', Does, Seen, deed_of, deeds_of, owners_of, rules, seen}
use Rattle.pg_law_runs.proofs.DeedDependence.{deed_event, due_owner, get_behind, may_of}
use Rattle.pg_law_runs.proofs.RunsAsDeeds.{count_more, leads, left_behind, next_state}
use Rattle.pg_law_runs.proofs.MaximalRuns.{turn_there}
use Rattle.pg_law_effects.proofs.PermittedStepByStep.{count_own, first_due}

module _ (gated : List InstrId) (p : NumberedProgram) (input : List ℤ) where
  -- x may be taken but that its thread may have no turn left
  pub record IsFree (s : State) (us : List Turn) (counts : ℕ → ℕ) (x : Step) : Type 0 where
    pub takes : Takes gated p input s x
    pub budget : counts x.thread.0 < GUIDED_STEP_LIMIT
    pub due : IsDue (event_of x) us

  abbrev pub FreeSteps : State → List Turn → (ℕ → ℕ) → List Step → State → Type 0
  FreeSteps s us counts [] z = s ≡ z
  FreeSteps s us counts (x ∷ xs) z = (m : IsFree s us counts x) × FreeSteps m.takes.after (turns_behind (event_of x) us) (one_more x.thread.0 counts) xs z

  pub free_steps : (s z : State) (us : List Turn) (counts : ℕ → ℕ) (xs : List Step) → IsRun gated p input s xs z → events xs ++ turns_left us xs ≡ us
      → ((t : ℕ) → counts t + steps_of t xs ≤ GUIDED_STEP_LIMIT) → FreeSteps s us counts xs z
  free_steps s z us counts [] h e b = h
  free_steps s z us counts (x ∷ xs) h e b =
      let d = first_due (event_of x) us x xs refl e in (
        record { takes = h.0; budget = let k = b x.thread.0 in let c = count_own x xs in omega (arith, k, c); due = d.0 },
        free_steps h.0.after z (turns_behind (event_of x) us) (one_more x.thread.0 counts) xs h.1 d.1 (λ t. subst (λ (n : ℕ). n ≤ GUIDED_STEP_LIMIT) (sym (count_more t counts x xs)) (b t)),
      )

  -- the run behind its first step
  behind_first : (s : State) (counts : ℕ → ℕ) (turns : List Turn) (g : ℕ) (x : Step) (xs : List Step) (z : State) (h : FreeSteps s (drop g turns) counts (x ∷ xs) z) →
      FreeSteps (next_state gated p input s x) (drop (done_after (deeds.is_event (deed_of p input s counts x)) g) turns) (one_more x.thread.0 counts) xs z
  behind_first s counts turns g x xs z h =
      subst (λ (us : List Turn). FreeSteps (next_state gated p input s x) us (one_more x.thread.0 counts) xs z)
      (left_behind (event_of x) g turns ∙ ap (λ (b : Bool). drop (done_after b g) turns) (sym (deed_event gated p input s counts x)))
      (subst (λ (v : State). FreeSteps v (turns_behind (event_of x) (drop g turns)) (one_more x.thread.0 counts) xs z) (left_by gated p input s h.0.takes.after x.thread.0 x h.0.takes.is_step) h.1)

  pub free_turns : (s : State) (counts : ℕ → ℕ) (turns : List Turn) (g : ℕ) (xs : List Step) (z : State) → FreeSteps s (drop g turns) counts xs z
      → AreTurns deeds (owners_of turns) g (deeds_of p input s counts xs)
  unfolding deeds_of
  free_turns s counts turns g [] z h = tt
  free_turns s counts turns g (x ∷ xs) z h = (
    λ v. plus (due_owner gated p input x (happening_in x.kind) (drop g turns) (sym (deed_event gated p input s counts x) ∙ v) h.0.due),
    free_turns (next_state gated p input s x) (one_more x.thread.0 counts) turns (done_after (deeds.is_event (deed_of p input s counts x)) g) xs z (behind_first s counts turns g x xs z h),
  )
    where
      plus : slice_get (owners_of (drop g turns)) 0 ≡ Some x.thread.0 → slice_get (owners_of turns) g ≡ Some x.thread.0
      plus k = let e : g ≡ g + 0 = omega arith in ap (slice_get (owners_of turns)) e ∙ sym (get_behind gated p input g turns 0) ∙ k

  -- a step that has a turn left is a permitted one
  pub takes_at : (s : State) (counts : ℕ → ℕ) (a : Seen) (turns : List Turn) (g : ℕ) (xs : List Step) (z : State) → IsProgram p → length input < 2 ^ 64 → IsReached p s
      → Same a (seen s counts) → FreeSteps s (drop g turns) counts xs z →
      (ds : List Deed') (d : Deed') (es : List Deed') → deeds_of p input s counts xs ≡ ds ++ d ∷ es → (turn : ℕ) → turns_done deeds g ds ≤ turn
      → slice_get (owners_of turns) turn ≡ Some d.thread →
      PlanTakes (rules gated p) (Does gated p input) (owners_of turns) (plans.effects a ds) (turns_done deeds g ds) d
  unfolding deeds_of
  takes_at s counts a turns g [] z program small reached sees h [] d es e turn le own = absurd cc
  takes_at s counts a turns g [] z program small reached sees h (c ∷ ds) d es e turn le own = absurd cc
  takes_at s counts a turns g (x ∷ xs) z program small reached sees h [] d es e turn le own =
      let q : deed_of p input s counts x ≡ d = cons_head e in
      let mine : slice_get (owners_of turns) turn ≡ Some x.thread.0 = own ∙ ap (λ (i : Deed'). Some i.thread) (sym q) in
      let sum : g + (turn - g) ≡ turn = omega (arith, le) in
      subst (PlanTakes (rules gated p) (Does gated p input) (owners_of turns) a g) q (record {
        may = may_of gated p input s counts a reached sees turns g x (record {
          takes = h.0.takes;
          owner = turn_there x.thread.0 (drop g turns) (turn - g) (get_behind gated p input g turns (turn - g) ∙ ap (slice_get (owners_of turns)) sum ∙ mine);
          budget = h.0.budget;
          due = h.0.due;
        });
        is_step = record { state = s; counts = counts; reached = reached; looks = sees; told = x; takes = h.0.takes; is_deed = deed_refl (deed_of p input s counts x) };
      })
  takes_at s counts a turns g (x ∷ xs) z program small reached sees h (c ∷ ds) d es e turn le own =
      let q : deed_of p input s counts x ≡ c = cons_head e in
      let m = h.0 in
      let t = x.thread.0 in
      let w = left_by gated p input s m.takes.after t x m.takes.is_step in
      let next_reached : IsReached p (next_state gated p input s x) = subst (IsReached p) w (reached_step gated p input s m.takes.after t x program small reached m.takes.is_ready m.takes.is_step) in
      subst (λ (i : Deed'). PlanTakes (rules gated p) (Does gated p input) (owners_of turns) (plans.effects (plans.effect a i) ds) (turns_done deeds (done_after (deeds.is_event i) g) ds) d) q
      (takes_at (next_state gated p input s x) (one_more t counts) (plans.effect a (deed_of p input s counts x)) turns
      (done_after (deeds.is_event (deed_of p input s counts x)) g) xs z program small next_reached (leads gated p input s counts a x reached sees m.takes)
      (behind_first s counts turns g x xs z h) ds d es (cons_tail e) turn (subst (λ (i : Deed'). turns_done deeds (done_after (deeds.is_event i) g) ds ≤ turn) (sym q) le) own)
