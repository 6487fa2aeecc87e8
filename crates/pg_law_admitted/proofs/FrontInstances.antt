-- The front of an unbroken run, and the instance at the front of steps of one thread.
use Rattle.std.specs.List.{AllByRecursion as AllOf}
use Rattle.std.specs.Prelude.{slice_get}
use Rattle.std.proofs.Common.{◌++◌, ◌==◌, ◌∙◌, ◌∷◌, ◌≡◌, ◌⊎◌, Bool, List, Some, [], ap, arith, cond, inl, inr, refl, subst, ℕ, ℤ}
use Rattle.std.proofs.lemmas.Bool.{eq-eqb}
use Rattle.std.proofs.lemmas.List.Sums.{sum_by-cons}
use Rattle.pg_ir.specs.declared.ids.InstrId.{InstrId}
use Rattle.pg_run_thread.specs.LocalState.{LocalState}
use Rattle.pg_run_trace.specs.declared.step.Step.{Step}
use Rattle.pg_run.specs.Runs.{IsRun, steps_of}
use Rattle.pg_run.specs.State.{State}
use Rattle.pg_law_instances.specs.Inside.{Instance, IsAtJoin, IsInside, Joins}
use Rattle.pg_law_instances.specs.Instances.{ChangesLittle}
use Rattle.pg_law_instances.specs.Stays.{AreOf, CanStepInside, IsWithinExtent, StaysInside, TellsWithin}
use Rattle.pg_law_instances.proofs.RunsOfOneThread.{inside_again}
use Rattle.pg_law_instances.proofs.FirstInstance.{changes_then, first_stays, has_instance}
use Rattle.pg_law_plan.specs.Lists.{Has}
use Rattle.pg_law_admitted.specs.Unbroken.{BeginsWith, IsUnbroken}
use Rattle.pg_law_admitted.proofs.EventFreeStretches.{IsQuietStep, no_turn}

-- ---- behind a stretch

pub steps_behind : (xs ys : List Step) → IsUnbroken (xs ++ ys) → IsUnbroken ys
unfolding IsUnbroken
steps_behind [] ys h = h
steps_behind (x ∷ xs) ys h = steps_behind xs ys h.1

-- its thread goes on there, or takes no more steps
pub goes_on : (t : ℕ) (x : Step) (xs ys : List Step) → AreOf t (x ∷ xs) → AllOf IsQuietStep (x ∷ xs) → IsUnbroken (x ∷ (xs ++ ys)) → BeginsWith t ys ⊎ (steps_of t ys ≡ 0)
unfolding IsUnbroken
goes_on t x [] ys own quiet h = subst (λ (u : ℕ). BeginsWith u ys ⊎ (steps_of u ys ≡ 0)) own.0 (h.0 (no_turn x quiet.0))
goes_on t x (y ∷ xs) ys own quiet h = goes_on t y xs ys own.1 quiet.1 h.1

pub none_there : (t : ℕ) (ys : List Step) (y : Step) → Has ys y → y.thread.0 ≡ t → steps_of t ys ≡ 0 → ⊥
none_there t [] y h e n = h
none_there t (x ∷ ys) y (inl q) e n =
    let k = sum_by-cons (λ (z : Step). cond (z.thread.0 == t) 1 0) x ys in
    let one : ◌≡◌ {A = ℕ} (cond (x.thread.0 == t) 1 0) 1 = ap (λ (b : Bool). cond b 1 0) (eq-eqb x.thread.0 t (ap (λ (z : Step). z.thread.0) q ∙ e)) in
    absurd (omega (arith, k, one, n))
none_there t (x ∷ ys) y (inr h) e n =
    let k = sum_by-cons (λ (z : Step). cond (z.thread.0 == t) 1 0) x ys in
    none_there t ys y h e (omega (arith, k, n))

-- ---- the instance at the front of steps of one thread, the first of which is x

module _ (I : Instance) (gated : List InstrId) (input : List ℤ) where
  pub record Part (t : ℕ) (s : State) (x : Step) (ys : List Step) : Type 0 where
    pub inner : List Step
    pub rest : List Step
    pub parts : ys ≡ inner ++ rest
    pub local : LocalState
    pub state : State
    pub is_local : slice_get state.locals t ≡ Some local
    pub run : IsRun gated I.program input s (x ∷ inner) state
    pub ends : IsAtJoin I local ⊎ ((rest ≡ []) × IsWithinExtent I local)
    pub tells : AllOf (λ (y : Step). TellsWithin I y.kind) (x ∷ inner)
    pub changes : ChangesLittle I t s state

  pub part : (t : ℕ) (s z : State) (l : LocalState) (x : Step) (ys : List Step) → CanStepInside I gated s t l → IsRun gated I.program input s (x ∷ ys) z → AreOf t (x ∷ ys)
      → Part t s x ys
  part t s z l x ys c run of = go j.goes_on
    where
      j : StaysInside I t l x s run.0.after
      j = first_stays I gated input s z t l x ys c run of

      here : ChangesLittle I t s run.0.after
      here = record { others = j.others; rest = j.rest; bytes = j.bytes }

      go : IsInside I j.local ⊎ Joins I l j.local → Part t s x ys
      go (inr k) = record {
        inner = [];
        rest = ys;
        parts = refl;
        local = j.local;
        state = run.0.after;
        is_local = j.is_local;
        run = (run.0, refl);
        ends = inl k.there;
        tells = (j.tells, tt);
        changes = here;
      }
      go (inl i) =
          let h = has_instance I gated input run.0.after z t j.local ys (inside_again I gated s run.0.after t l x c j i) run.1 of.1 in
          record {
            inner = h.inner;
            rest = h.rest;
            parts = h.whole;
            local = h.local;
            state = h.state;
            is_local = h.is_local;
            run = (run.0, h.front);
            ends = h.ends;
            tells = (j.tells, h.tells);
            changes = changes_then I t s run.0.after h.state here h.changes;
          }
