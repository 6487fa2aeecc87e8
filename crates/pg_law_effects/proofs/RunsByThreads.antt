-- Runs as functions of their threads.
use Rattle.std.proofs.Common.{◌≡◌, ℕ, ℤ, List, [], ◌∷◌, ◌++◌, ◌<◌, map, Bool, true, false, Option, Some, None, refl, sym, ◌∙◌, ap, subst}
use Rattle.std.specs.Prelude.{◌↔◌, length, not, ◌&&◌, if◌then◌else◌}
use Rattle.pg_num.specs.declared.layout.TheConstants.{GRANULE_COUNT}
use Rattle.pg_ir.specs.declared.ids.InstrId.{InstrId}
use Rattle.pg_ir.specs.Program.{NumberedProgram}
use Rattle.pg_run.specs.pg_run_trace.declared.step.Step.{Step}
use Rattle.pg_run.specs.pg_run_objects.Sync as sync
use Rattle.pg_run.specs.State.{State, next_of}
use Rattle.pg_run.specs.MachineStep.{Stepped, Did, Trapped, may_act, ready, step}
use Rattle.pg_run.specs.Runs.{IsRun, Takes}
use Rattle.pg_run.proofs.StepsBegin.{ready_made}
use Rattle.pg_run.proofs.GuidedRuns.{run_append}
use Rattle.pg_law_effects.specs.Effect.{Effect, effect, effect_of, sync_with}
use Rattle.pg_law_effects.specs.Meets.{AgreeFor, AreApart}
use Rattle.pg_law_effects.specs.StatesAlong.{Ran, after_effects, behind, effects_of, on_stepped, run_of, state_in, threads_of}
use Rattle.pg_law_effects.specs.Told.{tells}
use Rattle.pg_law_effects.proofs.StepsApart.{acts_alike, agree_behind, apart_sym, change_places, did_by, left_by}
use Rattle.pg_law_effects.proofs.TellDependence.{tells_alike}

same_some : {X : Type 0} (x y : X) → Path (Option X) (Some x) (Some y) → x ≡ y
same_some x y e = cc

module _ (gated : List InstrId) (p : NumberedProgram) (input : List ℤ) where
  abbrev ran : List Step → State → Option Ran
  ran xs z = Some (record { steps = xs; state = z })

  pub run_is : (s z : State) (xs : List Step) → IsRun gated p input s xs z → run_of gated p input s (threads_of xs) ≡ ran xs z
  unfolding run_of
  run_is s z [] h = ap (ran []) h
  run_is s z (x ∷ xs) h =
      ap (λ (b : Bool). if b then on_stepped (step gated p input s x.thread.0) (λ v. run_of gated p input v (threads_of xs)) else None) h.0.is_ready
      ∙ ap (λ (o : Stepped). on_stepped o (λ v. run_of gated p input v (threads_of xs))) h.0.is_step
      ∙ ap (behind x) (run_is h.0.after z xs h.1)

  abbrev steps_in : Ran → List Step
  steps_in r = r.steps

  -- the first step and the others
  abbrev head_or : Step → List Step → Step
  head_or d [] = d
  head_or d (x ∷ xs) = x

  abbrev tail_of : List Step → List Step
  tail_of [] = []
  tail_of (x ∷ xs) = xs

  pub is_run : (s z : State) (xs : List Step) → run_of gated p input s (threads_of xs) ≡ ran xs z → IsRun gated p input s xs z
  unfolding run_of
  is_run s z [] h = ap (λ (r : Ran). r.state) (same_some _ _ h)
  is_run s z (x ∷ xs) h = on_ready (ready p s x.thread.0) refl (step gated p input s x.thread.0) refl (λ v k. is_run v z xs k) h
    where
      on_rest : (y : Step) (v : State) (o : Option Ran) → run_of gated p input v (threads_of xs) ≡ o → ready p s x.thread.0 ≡ true → step gated p input s x.thread.0 ≡ Did y v
          → (run_of gated p input v (threads_of xs) ≡ ran xs z → IsRun gated p input v xs z) → behind y o ≡ ran (x ∷ xs) z → IsRun gated p input s (x ∷ xs) z
      on_rest y v None k g d more e = absurd cc
      on_rest y v (Some r) k g d more e =
          let q = same_some _ _ e in
          let first : y ≡ x = ap (λ (w : Ran). head_or x w.steps) q in
          let same : Path (Option Ran) (Some r) (ran xs z) = ap (λ (w : Ran). ran (tail_of w.steps) w.state) q in
          (record { after = v; is_ready = g; is_step = d ∙ ap (λ (w : Step). Did w v) first }, more (k ∙ same))

      on_ready : (b : Bool) → ready p s x.thread.0 ≡ b → (o : Stepped) → step gated p input s x.thread.0 ≡ o
          → ((v : State) → run_of gated p input v (threads_of xs) ≡ ran xs z → IsRun gated p input v xs z) →
          Path (Option Ran) (if ready p s x.thread.0 then on_stepped (step gated p input s x.thread.0) (λ v. run_of gated p input v (threads_of xs)) else None) (ran (x ∷ xs) z)
          → IsRun gated p input s (x ∷ xs) z
      on_ready false g o d more e = let k : Path (Option Ran) None (ran (x ∷ xs) z) = rw g at e in absurd cc
      on_ready true g (Trapped name id) d more e = let k : Path (Option Ran) None (ran (x ∷ xs) z) = rw (g, d) at e in absurd cc
      on_ready true g (Did y v) d more e =
          let k : behind y (run_of gated p input v (threads_of xs)) ≡ ran (x ∷ xs) z = rw (g, d) at e in
          on_rest y v (run_of gated p input v (threads_of xs)) refl g d (more v) k

  pub run_of_is : (s z : State) (xs : List Step) → IsRun gated p input s xs z ↔ (run_of gated p input s (threads_of xs) ≡ ran xs z)
  run_of_is s z xs = (run_is s z xs, is_run s z xs)

  pub same_runs : (s z w : State) (xs ys : List Step) → IsRun gated p input s xs z → IsRun gated p input s ys w → threads_of xs ≡ threads_of ys → (xs ≡ ys) × (z ≡ w)
  same_runs s z w xs ys h k e =
      let q = same_some _ _ (sym (run_is s z xs h) ∙ ap (run_of gated p input s) e ∙ run_is s w ys k) in
      (ap (λ (r : Ran). r.steps) q, ap (λ (r : Ran). r.state) q)

  pub state_is : (s z : State) (xs : List Step) → IsRun gated p input s xs z → state_in (run_of gated p input s (threads_of xs)) ≡ Some z
  state_is s z xs h = ap state_in (run_is s z xs h)

  -- ---- the effects

  pub run_effects : (s z : State) (xs : List Step) → IsRun gated p input s xs z → z ≡ after_effects s (effects_of p input s (threads_of xs))
  unfolding after_effects effects_of
  run_effects s z [] h = sym h
  run_effects s z (x ∷ xs) h =
      run_effects h.0.after z xs h.1
      ∙ ap (λ (v : State). after_effects v (effects_of p input v (threads_of xs))) (left_by gated p input s h.0.after x.thread.0 x h.0.is_step)

  -- ---- one run behind another

  pub run_splits : (s z : State) (xs ys : List Step) → IsRun gated p input s (xs ++ ys) z → (v : State) × IsRun gated p input s xs v × IsRun gated p input v ys z
  run_splits s z [] ys h = (s, refl, h)
  run_splits s z (x ∷ xs) ys h = let k = run_splits h.0.after z xs ys h.1 in (k.0, (h.0, k.1), k.2)

  pub runs_join : (s v z : State) (xs ys : List Step) → IsRun gated p input s xs v → IsRun gated p input v ys z → IsRun gated p input s (xs ++ ys) z
  runs_join s v z xs ys h k = run_append gated p input s v z xs ys h k

-- ---- two steps in the other order

over_not : (o a : Bool) → (not o && a) ≡ true → o ≡ false
over_not true a h = absurd cc
over_not false a h = refl

acts_by : (o a : Bool) → (not o && a) ≡ true → a ≡ true
acts_by true a h = absurd cc
acts_by false a h = h

both_hold : (o a : Bool) → o ≡ false → a ≡ true → (not o && a) ≡ true
both_hold o a h k = rw (h, k) refl

pub is_going : (p : NumberedProgram) (s : State) (t : ℕ) → ready p s t ≡ true → sync.over s.sync ≡ false
unfolding ready
is_going p s t h = over_not (sync.over s.sync) _ h

acts : (p : NumberedProgram) (s : State) (t : ℕ) → ready p s t ≡ true → may_act s t (next_of p s t) ≡ true
unfolding ready
acts p s t h = acts_by (sync.over s.sync) _ h

is_ready_by : (p : NumberedProgram) (s : State) (t : ℕ) → sync.over s.sync ≡ false → may_act s t (next_of p s t) ≡ true → ready p s t ≡ true
unfolding ready
is_ready_by p s t h k = both_hold (sync.over s.sync) _ h k

same_state : (y : Step) (z w : State) → Path Stepped (Did y z) (Did y w) → z ≡ w
same_state y z w e = ap left_in e
  where
    left_in : Stepped → State
    left_in (Did x v) = v
    left_in (Trapped name id) = z

pub runs_cross : (gated : List InstrId) (p : NumberedProgram) (input : List ℤ) (s v : State) (x y : Step) (xs : List Step) → IsRun gated p input s (x ∷ y ∷ xs) v
    → AreApart (effect_of p input s x.thread.0) (effect_of p input s y.thread.0) → y.thread.0 < length s.locals → length s.memory ≡ GRANULE_COUNT
    → sync.over (effect s (effect_of p input s y.thread.0)).sync ≡ false → IsRun gated p input s (y ∷ x ∷ xs) v
runs_cross gated p input s v x y xs h a n g o =
    let t = x.thread.0 in
    let u = y.thread.0 in
    let e = effect_of p input s t in
    let f = effect_of p input s u in
    let z : State = h.0.after in
    let ze : z ≡ effect s e = left_by gated p input s z t x h.0.is_step in
    let made : t < length s.locals = ready_made p s t h.0.is_ready in
    let fa : AgreeFor f s (effect s e) = agree_behind p input s e u a n g in
    let ea : AgreeFor e s (effect s f) = agree_behind p input s f t (apart_sym e f a) made g in
    let d = did_by (step gated p input s u) y (tells_alike gated p input s (effect s e) u fa ∙ ap (λ (w : State). tells (step gated p input w u)) (sym ze) ∙ ap tells h.1.0.is_step) in
    let w : State = d.0 in
    let wf : w ≡ effect s f = left_by gated p input s w u y d.1 in
    let c = change_places gated p input s z w t u x y h.0.is_step d.1 a made n g in
    let last : h.1.0.after ≡ c.last = same_state y h.1.0.after c.last (sym h.1.0.is_step ∙ c.second) in
    let yr : ready p s u ≡ true = is_ready_by p s u (is_going p s t h.0.is_ready)
    (acts_alike p input s (effect s e) u fa ∙ ap (λ (w : State). may_act w u (next_of p w u)) (sym ze) ∙ acts p z u h.1.0.is_ready) in
    let xr : ready p w t ≡ true = is_ready_by p w t (ap (λ (w : State). sync.over w.sync) wf ∙ o)
    (ap (λ (w : State). may_act w t (next_of p w t)) wf ∙ sym (acts_alike p input s (effect s f) t ea) ∙ acts p s t h.0.is_ready) in
    (record { after = w; is_ready = yr; is_step = d.1 }, (record { after = c.last; is_ready = xr; is_step = c.first }, subst (λ (w : State). IsRun gated p input w xs v) last h.1.1))
