-- A full run can't be prolonged by a step of the machine.
use Rattle.std.proofs.Common.{◌≡◌, ℕ, ℤ, List, [], ◌∷◌, ◌++◌, length, refl, subst}
use Rattle.pg_ir.specs.declared.ids.InstrId.{InstrId}
use Rattle.pg_ir.specs.Program.{NumberedProgram}
use Rattle.pg_law_threads.proofs.EffectsOfSteps.{same_refl}
use Rattle.pg_run_trace.specs.declared.turn.Turn.{Turn}
use Rattle.pg_run_trace.specs.declared.step.Step.{Step}
use Rattle.pg_run.specs.State.{State, initial}
use Rattle.pg_run.specs.Permitted.{IsFull, IsPermitted, turns_left}
use Rattle.pg_run.specs.Runs.{events, steps_of}
use Rattle.pg_law_effects.specs.PermittedSteps.{MayTake}
use Rattle.pg_law_effects.proofs.RunsByThreads.{same_runs}
use Rattle.pg_law_effects.proofs.PermittedStepByStep.{permitted_more}
use Rattle.pg_law_runs.specs.Cuts.{CanRun}
use Rattle.pg_law_runs.specs.Deeds.{seen}
use Rattle.pg_law_runs.proofs.DeedDependence.{may_of}
use Rattle.pg_law_runs.proofs.CutRuns as law
use Rattle.pg_law_runs.proofs.MaximalRuns.{maximal}

pub ends : (p : NumberedProgram) (input : List ℤ) (turns : List Turn) (gated : List InstrId) (xs : List Step) (x : Step) (z w : State) → CanRun p input
    → IsPermitted p input turns gated xs z → IsFull gated p turns xs z → IsPermitted p input turns gated (xs ++ x ∷ []) w → ⊥
ends p input turns gated xs x z w can h full more =
    let k = (permitted_more p input turns gated xs x w).0 more in
    let same : k.0 ≡ z = (same_runs gated p input (initial p) k.0 z xs xs k.1.run h.run refl).1 in
    let m : MayTake gated p input z (turns_left turns xs) (λ t. steps_of t xs) x = subst (λ (s : State). MayTake gated p input s (turns_left turns xs) (λ t. steps_of t xs) x) same k.2.0 in
    let reached = (law.ran p input turns gated can xs z h).reached in
    let counts : (ℕ → ℕ) = λ t. steps_of t xs in
    maximal gated p input turns xs z (seen z (λ t. steps_of t xs)) reached (same_refl (seen z (λ t. steps_of t xs))) full x.thread.0
    (may_of gated p input z (λ t. steps_of t xs) (seen z (λ t. steps_of t xs)) reached (same_refl (seen z (λ t. steps_of t xs))) turns (length (events xs)) x m)
