-- The instance at the front of a run of one thread alone.
use Rattle.std.proofs.Common.{◌≡◌, ℕ, ℤ, true, List, [], ◌∷◌, refl, ap, ◌∙◌, subst, inl, inr, ◌⊎◌}
use Rattle.pg_ir.specs.declared.ids.InstrId.{InstrId}
use Rattle.pg_run_thread.specs.LocalState.{LocalState}
use Rattle.pg_run_trace.specs.declared.step.Step.{Step}
use Rattle.pg_run.specs.State.{State}
use Rattle.pg_run.specs.MachineStep.{Did, ready, step}
use Rattle.pg_run.specs.Runs.{IsRun}
use Rattle.pg_run.specs.Locality.{LeavesRest}
use Rattle.pg_law_instances.specs.Inside.{Instance, IsInside, Joins}
use Rattle.pg_law_instances.specs.Instances.{ChangesLittle, HasInstance}
use Rattle.pg_law_instances.specs.Stays.{AreOf, CanStepInside, StaysInside}
use Rattle.pg_law_instances.proofs.RunsOfOneThread.{inside_again}
use Rattle.pg_law_instances.proofs.MachineSteps.{step_stays}

rest_then : (s v z : State) → LeavesRest s v → LeavesRest v z → LeavesRest s z
rest_then s v z h k = record { sync = k.sync ∙ h.sync; words = k.words ∙ h.words; printed = k.printed ∙ h.printed; value = k.value ∙ h.value }

pub changes_then : (I : Instance) (t : ℕ) (s v z : State) → ChangesLittle I t s v → ChangesLittle I t v z → ChangesLittle I t s z
changes_then I t s v z h k = record { others = λ u ne. k.others u ne ∙ h.others u ne; rest = rest_then s v z h.rest k.rest; bytes = λ b lt o. k.bytes b lt o ∙ h.bytes b lt o }

-- the first of these steps
pub first_stays : (I : Instance) (gated : List InstrId) (input : List ℤ) (s z : State) (t : ℕ) (l : LocalState) (x : Step) (xs : List Step) → CanStepInside I gated s t l
    → (run : IsRun gated I.program input s (x ∷ xs) z) → AreOf t (x ∷ xs) → StaysInside I t l x s run.0.after
first_stays I gated input s z t l x xs c run of = step_stays I gated input s run.0.after t l x c (subst (λ (u : ℕ). ready I.program s u ≡ true) of.0 run.0.is_ready)
    (subst (λ (u : ℕ). step gated I.program input s u ≡ Did x run.0.after) of.0 run.0.is_step)

pub has_instance : (I : Instance) (gated : List InstrId) (input : List ℤ) (s z : State) (t : ℕ) (l : LocalState) (xs : List Step) → CanStepInside I gated s t l
    → IsRun gated I.program input s xs z → AreOf t xs → HasInstance I gated input t s xs z
has_instance I gated input s z t l [] c run of = record {
  inner = [];
  rest = [];
  whole = refl;
  local = l;
  state = s;
  is_local = c.is_local;
  front = refl;
  behind = run;
  ends = inr (refl, c.within);
  tells = tt;
  changes = record { others = λ u ne. refl; rest = record { sync = refl; words = refl; printed = refl; value = refl }; bytes = λ b lt o. refl };
}
has_instance I gated input s z t l (x ∷ xs) c run of = go j.goes_on (λ i. has_instance I gated input run.0.after z t j.local xs (inside_again I gated s run.0.after t l x c j i) run.1 of.1)
  where
    j : StaysInside I t l x s run.0.after
    j = first_stays I gated input s z t l x xs c run of

    here : ChangesLittle I t s run.0.after
    here = record { others = j.others; rest = j.rest; bytes = j.bytes }

    go : IsInside I j.local ⊎ Joins I l j.local → (IsInside I j.local → HasInstance I gated input t run.0.after xs z) → HasInstance I gated input t s (x ∷ xs) z
    go (inr k) more = record {
      inner = x ∷ [];
      rest = xs;
      whole = refl;
      local = j.local;
      state = run.0.after;
      is_local = j.is_local;
      front = (run.0, refl);
      behind = run.1;
      ends = inl k.there;
      tells = (j.tells, tt);
      changes = here;
    }
    go (inl i) more =
        let h = more i in
        record {
          inner = x ∷ h.inner;
          rest = h.rest;
          whole = ap (λ (ys : List Step). x ∷ ys) h.whole;
          local = h.local;
          state = h.state;
          is_local = h.is_local;
          front = (run.0, h.front);
          behind = h.behind;
          ends = h.ends;
          tells = (j.tells, h.tells);
          changes = changes_then I t s run.0.after h.state here h.changes;
        }
