-- What is said of a slice, by the decisions that are taken in the end.
use Rattle.std.proofs.Common.{◌≡◌, ℕ, ◌<◌, ◌⊎◌, ℤ, List, length, true, sym, ap, subst, ◌∙◌}
use Rattle.std.specs.Prelude.{Contains, Result, Ok, Err, IfOk, ◌↔◌}
use Rattle.pg_ir.specs.declared.ids.InstrId.{InstrId}
use Rattle.pg_ir.specs.Program.{NumberedProgram}
use Rattle.pg_run_trace.specs.declared.step.Step.{Step}
use Rattle.pg_slice_rules.specs.declared.decision.Decision.{Decision}
use Rattle.pg_slice_rules.specs.Closed.{AreWithin, IsClosed, IsSlice, admits, asks}
use Rattle.pg_slice_rules.specs.Freeable.{Regions}
use Rattle.pg_slice_rules.specs.Known.{Taken, has}
use Rattle.pg_slice_rules.specs.Sets.{taken}
use Rattle.pg_slice_decisions.specs.declared.steps.DecisionSet.{DecisionSet}
use Rattle.pg_slice_decisions.specs.Marks.{members_from}
use Rattle.pg_slice_decisions.specs.Steps.{AreOf, step_of, taken_by}
use Rattle.pg_law_demands.specs.pg_law_least.Keeps.{ExtentsKeep}
use Rattle.pg_law_demands.proofs.of_pg_law_least.InLargerClosedSets.{asks_above}
use Rattle.pg_law_demands.proofs.of_pg_law_least.AskedAreMissing.{asks_new}
use Rattle.pg_precondition.specs.Names.{AreNeeded}
use Rattle.pg_precondition.specs.Nodes.{Conditions}
use Rattle.pg_precondition.specs.Values.{is_admitted}
use Rattle.pg_slice_replay.specs.declared.run.ReferenceRun.{ReferenceRun}
use Rattle.pg_slice_passes.specs.declared.slice.Slice.{Slice}
use Rattle.pg_slice_passes.specs.Given.{HasLandmarks, reference_of}
use Rattle.pg_slice_passes.specs.Sliced.{IsSliceOf}
use Rattle.pg_slice_passes.proofs.AllAsked.{as_many}
use Rattle.pg_slice_passes.proofs.Slicing.{all_below, closed_where_none, same_taken, stays_within}

-- what is taken so far is in each closed set, whatever the run's regions, its loads and stores that are turns and its input are
abbrev pub AreBelow : NumberedProgram → List Step → ReferenceRun → DecisionSet → Type 0
AreBelow p xs r d = (regions : Regions) (gated : List InstrId) (input : List ℤ) → HasLandmarks (reference_of p regions gated input xs) r → ExtentsKeep (reference_of p regions gated input xs)
    → (e : Taken) → IsClosed (reference_of p regions gated input xs) e → AreWithin (taken_by d) e

-- a pass told which decisions are missing
abbrev pub Tells : NumberedProgram → List Step → ReferenceRun → DecisionSet → List Decision → Type 0
Tells p xs r d items = (regions : Regions) (gated : List InstrId) (input : List ℤ) → HasLandmarks (reference_of p regions gated input xs) r
    → (x : Decision) → Contains items x ↔ Contains (asks (reference_of p regions gated input xs) (taken_by d)) x

-- where what a pass misses is taken in, what is taken stays below each closed set
pub goes_on : (p : NumberedProgram) (xs : List Step) (r : ReferenceRun) (old new : DecisionSet) (steps : ℕ) (items missing : List Decision) → steps ≡ length xs → missing ≡ items
    → AreOf steps new → ((y : Decision) → has (taken_by new) y ≡ true → (has (taken_by old) y ≡ true) ⊎ Contains missing y) → Tells p xs r old items → AreBelow p xs r old
    → AreOf (length xs) new × AreBelow p xs r new
goes_on p xs r old new steps items missing count same size only told below = (
  subst (λ n. AreOf n new) count size,
  λ regions gated input marks keeps e closed.
      let R = reference_of p regions gated input xs in
      stays_within R (taken_by old) (taken_by new) e missing (asks_above R keeps)
      (λ x. subst (λ (l : List Decision). Contains l x ↔ Contains (asks R (taken_by old)) x) (sym same) (told regions gated input marks x)) only closed
      (below regions gated input marks keeps e closed),
)

-- where all that a pass misses is taken, the decisions are closed
closed_of : (p : NumberedProgram) (regions : Regions) (gated : List InstrId) (input : List ℤ) (xs : List Step) (d : Taken) (missing : List Decision)
    → ((x : Decision) → Contains missing x ↔ Contains (asks (reference_of p regions gated input xs) d) x)
    → ((x : Decision) → Contains missing x → step_of x < length xs → has d x ≡ true) → IsClosed (reference_of p regions gated input xs) d
closed_of p regions gated input xs d missing told all =
    let R = reference_of p regions gated input xs in
    closed_where_none R d missing (length xs) (λ e x h. (asks_new R e x h).0) (λ e x h. (asks_new R e x h).1) (sym (as_many gated p input xs)) told all

-- by the decisions of a set and a precondition, from which a slice is made
slice_of : {E : Type 0} (p : NumberedProgram) (xs : List Step) (r : ReferenceRun) (d : DecisionSet) (c : Conditions) (o : Result Slice E)
    → IfOk o (λ s. (x : Decision) → has (taken s.decisions.pinned.items s.decisions.exact.items) x ≡ has (taken_by d) x)
    → IfOk o (λ s. (s.decisions.pinned.items ≡ members_from 0 d.pinned.items) × (s.decisions.exact.items ≡ members_from 0 d.exact.items))
    → IfOk o (λ s. s.precondition ≡ c) → AreOf (length xs) d → AreNeeded c
    → ((regions : Regions) (gated : List InstrId) (input : List ℤ) → HasLandmarks (reference_of p regions gated input xs) r → ExtentsKeep (reference_of p regions gated input xs)
    → IsSlice (reference_of p regions gated input xs) (taken_by d))
    → ((regions : Regions) (gated : List InstrId) (input other : List ℤ) → HasLandmarks (reference_of p regions gated input xs) r
    → is_admitted other c ≡ admits (reference_of p regions gated input xs) (taken_by d) other)
    → IfOk o (IsSliceOf p xs r)
slice_of p xs r d c (Ok s) same lists conditions size needed slices admitted =
    let alike = sym (same_taken (taken s.decisions.pinned.items s.decisions.exact.items) (taken_by d) same) in
    record {
      slice = λ regions gated input marks keeps. subst (λ (e : Taken). IsSlice (reference_of p regions gated input xs) e) alike (slices regions gated input marks keeps);
      admits = λ regions gated input other marks.
          ap (λ (z : Conditions). is_admitted other z) conditions ∙ admitted regions gated input other marks ∙ ap (λ (e : Taken). admits (reference_of p regions gated input xs) e other) alike;
      pinned = all_below (length xs) d.pinned.items s.decisions.pinned.items size.pinned lists.0;
      exact = all_below (length xs) d.exact.items s.decisions.exact.items size.exact lists.1;
      listed = record {
        pins = d.pinned.items;
        exacts = d.exact.items;
        pinned = lists.0;
        exact = lists.1;
        pin_count = size.pinned;
        exact_count = size.exact;
      };
      needed = subst (λ (z : Conditions). AreNeeded z) (sym conditions) needed;
    }
slice_of p xs r d c (Err e) same lists conditions size needed slices admitted = tt

-- where nothing is missing that isn't taken, the decisions that are taken are the slice
pub slice_at : {E : Type 0} (p : NumberedProgram) (xs : List Step) (r : ReferenceRun) (old new : DecisionSet) (c : Conditions) (o : Result Slice E) (steps : ℕ) (items missing : List Decision)
    → steps ≡ length xs → missing ≡ items → new ≡ old
    → IfOk o (λ s. (x : Decision) → has (taken s.decisions.pinned.items s.decisions.exact.items) x ≡ has (taken_by new) x)
    → IfOk o (λ s. (s.decisions.pinned.items ≡ members_from 0 new.pinned.items) × (s.decisions.exact.items ≡ members_from 0 new.exact.items))
    → IfOk o (λ s. s.precondition ≡ c) → AreOf steps new → AreNeeded c
    → ((x : Decision) → Contains missing x → step_of x < steps → has (taken_by new) x ≡ true) → Tells p xs r old items
    → ((regions : Regions) (gated : List InstrId) (input other : List ℤ) → HasLandmarks (reference_of p regions gated input xs) r
    → is_admitted other c ≡ admits (reference_of p regions gated input xs) (taken_by old) other)
    → AreBelow p xs r old → IfOk o (IsSliceOf p xs r)
slice_at p xs r old new c o steps items missing count listed same alike lists conditions size needed taken told admitted below =
    slice_of p xs r new c o alike lists conditions (subst (λ n. AreOf n new) count size) needed
    (λ regions gated input marks keeps.
    let R = reference_of p regions gated input xs in
    let d = taken_by old in
    let asked = λ (x : Decision). subst (λ (l : List Decision). Contains l x ↔ Contains (asks R d) x) (sym listed) (told regions gated input marks x) in
    let closed = closed_of p regions gated input xs d missing asked (λ x h l. ap (λ (z : DecisionSet). has (taken_by z) x) (sym same) ∙ taken x h (rw count l)) in
    let here : IsSlice R d = record { closed = closed; least = below regions gated input marks keeps } in
    subst (λ (z : DecisionSet). IsSlice R (taken_by z)) (sym same) here)
    (λ regions gated input other marks.
    admitted regions gated input other marks ∙ ap (λ (z : DecisionSet). admits (reference_of p regions gated input xs) (taken_by z) other) (sym same))
