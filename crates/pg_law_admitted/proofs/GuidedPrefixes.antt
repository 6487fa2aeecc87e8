-- Prefixes of the full guided run on an admitted input.
use Rattle.std.proofs.Common.{◌≡◌, ℕ, ℤ, ◌⊎◌, ◌==◌, ◌++◌, cond, List, [], ◌∷◌, Option, arith, refl, subst, inl, inr}
use Rattle.std.proofs.lemmas.List.Sums.{sum_by-cons}
use Rattle.pg_ir.specs.declared.ids.InstrId.{InstrId}
use Rattle.pg_ir.specs.Program.{NumberedProgram}
use Rattle.pg_run_trace.specs.declared.schedule.Schedule.{Schedule}
use Rattle.pg_run_trace.specs.declared.step.Step.{Step}
use Rattle.pg_run_trace.specs.declared.turn.Turn.{Turn}
use Rattle.pg_run_trace.specs.Steps.{event_of}
use Rattle.pg_region_accesses.specs.Accesses.{RootedList}
use Rattle.pg_run.specs.FullGuided.{full_guided_of}
use Rattle.pg_run.specs.Guided.{GuidedRun}
use Rattle.pg_run.specs.Permitted.{IsPermitted}
use Rattle.pg_run.specs.Runs.{IsRun, steps_of}
use Rattle.pg_run.specs.State.{State, initial}
use Rattle.pg_law_effects.specs.PermittedSteps.{PermittedSteps, none_taken, one_more, turns_behind}
use Rattle.pg_law_effects.proofs.FullGuidedRun.{full_is}
use Rattle.pg_law_effects.proofs.PermittedStepByStep.{permitted_is}
use Rattle.pg_slice_rules.specs.Freeable.{Regions}
use Rattle.pg_slice_rules.specs.Known.{Taken}
use Rattle.pg_law_plan.specs.Units.{ReferenceRun}
use Rattle.pg_law_admitted.specs.Invariant.{Invariant}
use Rattle.pg_law_admitted.specs.Recorded.{Admits, IsOrderedReference, recording}
use Rattle.pg_law_admitted.specs.Unbroken.{BeginsWith, IsUnbroken}
use Rattle.pg_law_admitted.proofs.AdmittedGuidedRun.{is_admitted}
use Rattle.pg_law_admitted.proofs.InvariantKept.{keeps}
use Rattle.pg_law_admitted.proofs.EventFreeStretches.{one_end, run_of}
use Rattle.pg_law_admitted.proofs.GuidedRunsUnbroken.{full_unbroken}

-- ---- fronts of runs

none_in_front : (t : ℕ) (xs ys : List Step) → steps_of t (xs ++ ys) ≡ 0 → steps_of t xs ≡ 0
none_in_front t [] ys h = refl
none_in_front t (x ∷ xs) ys h =
    let a = sum_by-cons (λ (z : Step). cond (z.thread.0 == t) 1 0) x (xs ++ ys) in
    let b = sum_by-cons (λ (z : Step). cond (z.thread.0 == t) 1 0) x xs in
    let k = none_in_front t xs ys (omega (arith, a, h)) in
    omega (arith, a, b, h, k)

unbroken_front : (xs ys : List Step) → IsUnbroken (xs ++ ys) → IsUnbroken xs
unfolding IsUnbroken BeginsWith
unbroken_front [] ys h = tt
unbroken_front (x ∷ []) ys h = ((λ e. inr refl), tt)
unbroken_front (x ∷ y ∷ xs) ys h = ((λ e. go (h.0 e)), unbroken_front (y ∷ xs) ys h.1)
  where
    go : BeginsWith x.thread.0 (y ∷ (xs ++ ys)) ⊎ (steps_of x.thread.0 (y ∷ (xs ++ ys)) ≡ 0) → BeginsWith x.thread.0 (y ∷ xs) ⊎ (steps_of x.thread.0 (y ∷ xs) ≡ 0)
    go (inl k) = inl k
    go (inr k) = inr (none_in_front x.thread.0 (y ∷ xs) ys k)

permitted_front : (gated : List InstrId) (p : NumberedProgram) (input : List ℤ) (us : List Turn) (counts : ℕ → ℕ) (s z : State) (xs ys : List Step)
    → PermittedSteps gated p input s us counts (xs ++ ys) z →
    (m : State) × PermittedSteps gated p input s us counts xs m
permitted_front gated p input us counts s z [] ys h = (s, refl)
permitted_front gated p input us counts s z (x ∷ xs) ys h =
    let k = permitted_front gated p input (turns_behind (event_of x) us) (one_more x.thread.0 counts) h.0.takes.after z xs ys h.1 in
    (k.0, (h.0, k.1))

-- ---- the full guided run

module _ (p : NumberedProgram) (recorded_input input : List ℤ) (s : Schedule) (sums : ℕ → Option RootedList) (regions : Regions) (xs : List Step) (d : Taken)
    (k : IsOrderedReference p recorded_input s sums regions xs) (q : Admits p recorded_input s regions xs d input) where
  abbrev r : ReferenceRun
  r = recording p recorded_input s regions xs

  abbrev f : GuidedRun
  f = full_guided_of p input s.turns s.gated

  module _ (front rest : List Step) (z : State) (is : f.trace ≡ front ++ rest) (run : IsRun s.gated p input (initial p) front z) where
    permitted : IsPermitted p input s.turns s.gated front z
    permitted =
        let whole = (permitted_is p input s.turns s.gated f.trace f.state).0 (full_is p input s.turns s.gated).permitted in
        let h = permitted_front s.gated p input s.turns none_taken (initial p) f.state front rest
        (subst (λ (l : List Step). PermittedSteps s.gated p input (initial p) s.turns none_taken l f.state) is whole) in
        let e : h.0 ≡ z = one_end s.gated p input (initial p) h.0 z front (run_of s.gated p input s.turns none_taken (initial p) h.0 front h.1) run in
        (permitted_is p input s.turns s.gated front z).1 (subst (PermittedSteps s.gated p input (initial p) s.turns none_taken front) e h.1)

    unbroken : IsUnbroken front
    unbroken = unbroken_front front rest (subst IsUnbroken is (full_unbroken p input s.turns s.gated))

    pub prefix_keeps : Invariant r d input sums s.turns front z
    prefix_keeps = keeps r d input sums s.turns (is_admitted p recorded_input input s sums regions xs d k q) front z permitted unbroken
