-- Along a good schedule: the owner of the next turn that stands at an event can take its next step, unless it has spent its steps.
use Rattle.std.proofs.Common.{◌≡◌, ℕ, ℤ, ◌+◌, List, ◌∷◌, length, drop, Bool, true, false, Option, Some, None, refl, sym, ◌∙◌, ap, subst, arith, ◌⊎◌, inl, inr}
use Rattle.std.specs.Prelude.{◌||◌, IfSome, is_some, slice_get, if◌then◌else◌}
use Rattle.pg_law_course.specs.pg_ir.declared.request.Request.{Request}
use Rattle.pg_law_course.specs.pg_ir.declared.request.Request.TheVariants as requests
use Rattle.pg_law_course.specs.pg_ir.declared.request.TrapName.{TrapName}
use Rattle.pg_law_course.specs.pg_ir.Program.{NumberedProgram}
use Rattle.pg_law_course.specs.pg_law_threads.Effects as plans
use Rattle.pg_law_course.specs.pg_law_threads.Effects.{Same, deeds}
use Rattle.pg_law_course.specs.pg_law_threads.Intervals.{turns_done}
use Rattle.pg_law_course.specs.pg_law_threads.Machines.{IsAtEnd, May}
use Rattle.pg_law_course.specs.pg_run_thread.declared.action.Action.{Action}
use Rattle.pg_law_course.specs.pg_run_thread.declared.action.Action.TheVariants as actions
use Rattle.pg_law_course.specs.pg_run_thread.LocalState.{LocalState}
use Rattle.pg_law_course.specs.pg_run_thread.Step.{next}
use Rattle.pg_law_course.specs.pg_run_trace.declared.schedule.Schedule.{Schedule}
use Rattle.pg_law_course.specs.pg_run_trace.declared.step.Step.{Step}
use Rattle.pg_law_course.specs.pg_run_trace.declared.turn.Turn.{Turn}
use Rattle.pg_law_course.specs.pg_run.declared.guided_end.GuidedEnd.TheVariants as ends
use Rattle.pg_law_course.specs.pg_run.State.{State, action_in, initial, instr_of, next_of}
use Rattle.pg_law_course.specs.pg_run.MachineStep.{trap_of}
use Rattle.pg_law_course.specs.pg_run.Permitted.{IsPermitted, end_before, full_end, has_spent, trapped, traps, turns_left}
use Rattle.pg_law_course.specs.pg_run.Runs.{events, steps_of}
use Rattle.pg_law_course.proofs.of_pg_run.StepsBegin.{next_is}
use Rattle.pg_law_course.specs.pg_law_effects.PermittedSteps.{none_taken}
use Rattle.pg_law_course.specs.pg_law_effects.Reached.{IsReached, IsThread}
use Rattle.pg_law_course.specs.pg_law_effects.Views.{begun_in, local_at}
use Rattle.pg_law_course.proofs.of_pg_law_effects.FullGuidedRun.{full_is}
use Rattle.pg_law_course.specs.pg_law_runs.Cuts.{CanRun, CanStep, HasEndedAs, IsOrderedFull}
use Rattle.pg_law_course.specs.pg_law_runs.Deeds.{Did, Seen, Thread, deeds_of, owners_of, rules, seen}
use Rattle.pg_law_course.proofs.of_pg_law_runs.CutRuns as cuts
use Rattle.pg_law_course.proofs.of_pg_law_runs.DeedDependence.{get_behind}
use Rattle.pg_law_course.proofs.of_pg_law_runs.MaximalRuns.{no_traps}
use Rattle.pg_law_course.proofs.of_pg_law_runs.PermittedDeeds as parts
use Rattle.pg_law_course.proofs.of_pg_law_runs.PermittedRuns as law
use Rattle.pg_law_course.proofs.of_pg_law_runs.StepRules.{next_fresh}
use Rattle.pg_law_course.specs.pg_law_order.Good.{IsGoodRun, run_along}
use Rattle.pg_law_course.proofs.of_pg_law_order.GoodRunsServe.{same_end, stays, whole}

-- ---- a thread that traps by itself has begun

unmade : (p : NumberedProgram) (s : State) (t : ℕ) → slice_get s.locals t ≡ None → next_of p s t ≡ actions.Ended
unfolding next_of
unmade p s t e = ap (action_in p) e

module _ (p : NumberedProgram) (s : State) (t : ℕ) (reached : IsReached p s) where
  abbrev Begun : Type 0
  Begun = (l : LocalState) × (local_at s t ≡ Some l) × (next_of p s t ≡ next p l)

  begins : (l : LocalState) → slice_get s.locals t ≡ Some l → l.begun ≡ false → next_of p s t ≡ actions.Event requests.Start
  begins l e b =
      let thread : IsThread p t l = subst (λ (o : Option LocalState). IfSome o (IsThread p t)) e (reached.threads t) in
      let w = thread.waiting b in
      next_is p s t l e ∙ ap (next p) w.1 ∙ next_fresh p t w.0

  pub has_begun : (name : TrapName) → next_of p s t ≡ actions.Trap name → Begun
  has_begun name h = go (slice_get s.locals t) refl
    where
      made : (l : LocalState) → slice_get s.locals t ≡ Some l → (b : Bool) → l.begun ≡ b → Begun
      made l e true b = (l, ap begun_in e ∙ ap (λ (c : Bool). if c then Some l else None) b, next_is p s t l e)
      made l e false b = absurd (let k : Path Action (actions.Event requests.Start) (actions.Trap name) = sym (begins l e b) ∙ h in cc)

      go : (o : Option LocalState) → slice_get s.locals t ≡ o → Begun
      go None e = absurd (let k : Path Action actions.Ended (actions.Trap name) = sym (unmade p s t e) ∙ h in cc)
      go (Some l) e = made l e l.begun refl

-- a thread that has begun does what its local state says
begun_next : (p : NumberedProgram) (s : State) (t : ℕ) (l : LocalState) → local_at s t ≡ Some l → next_of p s t ≡ next p l
begun_next p s t l h = go (slice_get s.locals t) refl
  where
    made : (k : LocalState) → slice_get s.locals t ≡ Some k → (b : Bool) → k.begun ≡ b → next_of p s t ≡ next p l
    made k e true b =
        let same : Path (Option LocalState) (Some k) (Some l) = sym (ap begun_in e ∙ ap (λ (c : Bool). if c then Some k else None) b) ∙ h in
        let q : k ≡ l = cc in
        next_is p s t k e ∙ ap (next p) q
    made k e false b = absurd (let same : Path (Option LocalState) None (Some l) = sym (ap begun_in e ∙ ap (λ (c : Bool). if c then Some k else None) b) ∙ h in cc)

    go : (o : Option LocalState) → slice_get s.locals t ≡ o → next_of p s t ≡ next p l
    go None e = absurd (let same : Path (Option LocalState) None (Some l) = sym (ap begun_in e) ∙ h in cc)
    go (Some k) e = made k e k.begun refl

-- ---- the owner of the next turn

module _ (p : NumberedProgram) (input : List ℤ) (s : Schedule) (can : CanRun p input) (good : IsGoodRun p input s)
    (xs : List Step) (z : State) (h : IsPermitted p input s.turns s.gated xs z)
    (u : Turn) (us : List Turn) (left : turns_left s.turns xs ≡ u ∷ us) where
  abbrev full : List Step
  full = (run_along p input s).trace

  abbrev w : State
  w = (run_along p input s).state

  abbrev first : Seen
  first = seen (initial p) none_taken

  abbrev plan : List Did
  plan = deeds_of p input (initial p) none_taken full

  abbrev done : List Did
  done = deeds_of p input (initial p) none_taken xs

  ordered : IsOrderedFull p input s.turns s.gated (run_along p input s).trace (run_along p input s).state
  ordered = whole p input s good

  reached : IsReached p z
  reached = (cuts.ran p input s.turns s.gated can xs z h).reached

  full_reached : IsReached p (run_along p input s).state
  full_reached = (cuts.ran p input s.turns s.gated can (run_along p input s).trace (run_along p input s).state ordered.permitted).reached

  sees : Same (plans.effects first done) (seen z (λ i. steps_of i xs))
  sees = cuts.looks p input s.turns s.gated can xs z h

  full_sees : Same (plans.effects first plan) (seen (run_along p input s).state (λ i. steps_of i (run_along p input s).trace))
  full_sees = cuts.looks p input s.turns s.gated can (run_along p input s).trace (run_along p input s).state ordered.permitted

  turns_are : turns_done deeds 0 done ≡ length (events xs)
  turns_are = cuts.done_is p input s.turns s.gated can xs

  own : slice_get (owners_of s.turns) (turns_done deeds 0 done) ≡ Some u.thread.0
  own =
      let q : turns_done deeds 0 done ≡ length (events xs) + 0 = let k = turns_are in omega (arith, k) in
      ap (slice_get (owners_of s.turns)) q ∙ sym (get_behind s.gated p input (length (events xs)) s.turns 0) ∙ ap (λ (l : List Turn). slice_get (owners_of l) 0) left

  -- where it traps, it stands where the full run leaves it
  same_local : traps p z u.thread.0 ≡ true → local_at z u.thread.0 ≡ local_at (run_along p input s).state u.thread.0
  same_local e = go ((parts.part p input s.turns s.gated can full w ordered done (cuts.ran p input s.turns s.gated can xs z h).permitted).rests u.thread.0 own)
    where
      go : May (rules s.gated p) (owners_of s.turns) (plans.effects first done) (turns_done deeds 0 done) u.thread.0 ⊎ IsAtEnd first plan done u.thread.0
          → local_at z u.thread.0 ≡ local_at (run_along p input s).state u.thread.0
      go (inl m) =
          let k : May (rules s.gated p) (owners_of s.turns) (plans.effects first done) (length (events xs)) u.thread.0 =
          subst (λ (n : ℕ). May (rules s.gated p) (owners_of s.turns) (plans.effects first done) n u.thread.0) turns_are m in
          absurd (let n : true ≡ false = sym e ∙ no_traps s.gated p input s.turns xs z (plans.effects first done) reached sees u.thread.0 k in cc)
      go (inr r) = ap (λ (l : Thread). l.local) (sym (sees.locals u.thread.0) ∙ r.local ∙ full_sees.locals u.thread.0)

  full_ends : (run_along p input s).end ≡ full_end p s.turns (run_along p input s).trace (run_along p input s).state
  full_ends = same_end p input s ∙ sym ((full_is p input s.turns s.gated).full (stays p input s good)).1

  -- it traps by no check on the objects
  no_check : (r : Request) → next_of p z u.thread.0 ≡ actions.Event r → has_spent xs u.thread.0 ≡ false → traps p z u.thread.0 ≡ true → ⊥
  no_check r asks steps e = go (trap_of z u.thread.0 (next_of p z u.thread.0)) refl
    where
      ended : HasEndedAs p s.turns (run_along p input s).trace (run_along p input s).state xs z
      ended = law.held_ends p input s.turns s.gated can full w ordered xs z h u us left (ap (λ (b : Bool). traps p z u.thread.0 || b) steps ∙ ap (λ (b : Bool). b || false) e)

      full_left : turns_left s.turns (run_along p input s).trace ≡ u ∷ us
      full_left = ap (λ (l : List Turn). drop (length l) s.turns) (sym ended.events) ∙ left

      end_is : full_end p s.turns xs z ≡ trapped z u.thread.0 (trap_of z u.thread.0 (next_of p z u.thread.0))
      end_is =
          ap (λ (l : List Turn). end_before p xs z l) left
          ∙ ap (λ (b : Bool). if b then ends.Budget u.thread else trapped z u.thread.0 (trap_of z u.thread.0 (next_of p z u.thread.0))) steps

      by_name : (name : TrapName) → trap_of z u.thread.0 (next_of p z u.thread.0) ≡ Some name → ⊥
      by_name name q =
          let end : (run_along p input s).end ≡ ends.Trap name (record { 0 = instr_of z u.thread.0 }) = full_ends ∙ sym ended.end ∙ end_is ∙ ap (trapped z u.thread.0) q in
          let itself : next_of p (run_along p input s).state u.thread.0 ≡ actions.Trap name = good.objects u us name (record { 0 = instr_of z u.thread.0 }) full_left end in
          let k = has_begun p (run_along p input s).state u.thread.0 full_reached name itself in
          let here : next_of p z u.thread.0 ≡ next p k.0 = begun_next p z u.thread.0 k.0 (same_local e ∙ k.1) in
          let both : Path Action (actions.Event r) (actions.Trap name) = sym asks ∙ here ∙ sym k.2 ∙ itself in
          absurd cc

      go : (o : Option TrapName) → trap_of z u.thread.0 (next_of p z u.thread.0) ≡ o → ⊥
      go None q = let n : true ≡ false = sym e ∙ ap (λ (o : Option TrapName). is_some o) q in absurd cc
      go (Some name) q = by_name name q

  pub event_goes : (r : Request) → next_of p z u.thread.0 ≡ actions.Event r → has_spent xs u.thread.0 ≡ false → CanStep p input s.turns s.gated xs u.thread.0
  event_goes r asks steps = go (traps p z u.thread.0) refl
    where
      go : (b : Bool) → traps p z u.thread.0 ≡ b → CanStep p input s.turns s.gated xs u.thread.0
      go false e = law.owner_goes p input s.turns s.gated can full w ordered xs z h u us left e steps
      go true e = absurd (no_check r asks steps e)
