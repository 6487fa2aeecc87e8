-- A run of one thread alone from a branch step on.
use Rattle.std.proofs.Common.{◌≡◌, ℕ, ℤ, true, List, [], ◌∷◌, subst, inl, inr, ◌⊎◌}
use Rattle.pg_ir.specs.declared.ids.InstrId.{InstrId}
use Rattle.pg_run_thread.specs.LocalState.{LocalState}
use Rattle.pg_run_trace.specs.declared.step.Step.{Step}
use Rattle.pg_run.specs.State.{State}
use Rattle.pg_run.specs.MachineStep.{Did, ready, step}
use Rattle.pg_run.specs.Runs.{IsRun}
use Rattle.pg_law_instances.specs.Inside.{Instance, IsInside, Joins}
use Rattle.pg_law_instances.specs.Stays.{AreOf, CanStepInside, StaysInside, StaysUntilJoin}
use Rattle.pg_law_instances.proofs.MachineSteps.{step_stays}

-- behind a step that leads inside the thread can step inside again
pub inside_again : (I : Instance) (gated : List InstrId) (s z : State) (t : ℕ) (l : LocalState) (x : Step) → CanStepInside I gated s t l → (j : StaysInside I t l x s z)
    → IsInside I j.local → CanStepInside I gated z t j.local
inside_again I gated s z t l x c j i = record { branch = c.branch; gates = c.gates; is_local = j.is_local; within = inr i; cells = j.cells }

pub thread_alone : (I : Instance) (gated : List InstrId) (input : List ℤ) (s z : State) (t : ℕ) (l : LocalState) (xs : List Step) → CanStepInside I gated s t l
    → IsRun gated I.program input s xs z → AreOf t xs → StaysUntilJoin I gated input t l s xs
thread_alone I gated input s z t l [] c run of = tt
thread_alone I gated input s z t l (x ∷ xs) c run of = (
  run.0,
  j,
  go j.goes_on (λ i. thread_alone I gated input run.0.after z t j.local xs (inside_again I gated s run.0.after t l x c j i) run.1 of.1),
)
  where
    j : StaysInside I t l x s run.0.after
    j = step_stays I gated input s run.0.after t l x c (subst (λ (u : ℕ). ready I.program s u ≡ true) of.0 run.0.is_ready)
        (subst (λ (u : ℕ). step gated I.program input s u ≡ Did x run.0.after) of.0 run.0.is_step)

    go : IsInside I j.local ⊎ Joins I l j.local → (IsInside I j.local → StaysUntilJoin I gated input t j.local run.0.after xs)
        → Joins I l j.local ⊎ (IsInside I j.local × StaysUntilJoin I gated input t j.local run.0.after xs)
    go (inl i) more = inr (i, more i)
    go (inr a) more = inl a
