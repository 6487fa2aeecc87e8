use Rattle.std.proofs.Common.{◌≡◌, ℕ, ℤ, List, sym, subst, ◌∙◌, arith}
use Rattle.std.proofs.lemmas.Bool.{false≢true}
use Rattle.pg_ir.specs.declared.ids.InstrId.{InstrId}
use Rattle.pg_ir.specs.Program.{NumberedProgram}
use Rattle.pg_run_trace.specs.declared.step.Step.{Step}
use Rattle.pg_slice_rules.specs.Freeable.{Regions}
use Rattle.pg_slice_decisions.specs.declared.steps.DecisionSet.{DecisionSet}
use Rattle.pg_slice_decisions.specs.Steps.{AreOf, taken_by}
use Rattle.pg_slice_walk.specs.pg_slice_replay.declared.run.ReferenceRun.{ReferenceRun}
use Rattle.pg_slice_walk.specs.pg_slice_passes.Given.{HasLandmarks, reference_of}
use Rattle.pg_slice_walk.proofs.of_pg_slice_passes.SliceOf.{AreBelow, goes_on, slice_at}
use Rattle.pg_slice_walk.specs.pg_slice_back.declared.registers.Counts.{Counts}
use Rattle.pg_slice_walk.specs.pg_slice_back.Counted.{AreCounted}
use Rattle.pg_slice_walk.specs.pg_law_least.Keeps.{ExtentsKeep}
use Rattle.pg_slice_walk.specs.Chains.{Holds}
use Rattle.pg_slice_walk.specs.Walks.{IsTold, Widens}
use Rattle.pg_slice.proofs.slicing.slice.Goals as goal

-- where what is found widens the decisions, they stay below each closed set; by what is handed on of the holders and the counts
found : (p : NumberedProgram) (xs : List Step) (r : ReferenceRun) (old new : DecisionSet) (held inner : List ℕ) (counted counts : List Counts) → inner ≡ held → counts ≡ counted
    → Widens p r inner counts xs (taken_by old) (taken_by new)
    → ((regions : Regions) (gated : List InstrId) (input : List ℤ) → HasLandmarks (reference_of p regions gated input xs) r → ExtentsKeep (reference_of p regions gated input xs)
    → Holds (reference_of p regions gated input xs) r held)
    → ((regions : Regions) (gated : List InstrId) (input : List ℤ) → ExtentsKeep (reference_of p regions gated input xs) → AreCounted (reference_of p regions gated input xs) counted)
    → AreBelow p xs r old → AreBelow p xs r new
found p xs r old new held inner counted counts same alike widens holds counts_are below regions gated input marks keeps e closed =
    let R = reference_of p regions gated input xs in
    let told : IsTold R r inner counts = record {
      landmarks = marks;
      keeps = keeps;
      holds = subst (λ (l : List ℕ). Holds R r l) (sym same) (holds regions gated input marks keeps);
      counted = subst (λ (l : List Counts). AreCounted R l) (sym alike) (counts_are regions gated input keeps);
    } in
    widens.by regions gated input told e closed (below regions gated input marks keeps e closed)

pub loop-decisions-init : goal.loop-decisions-init
loop-decisions-init c = (
  subst (λ n. AreOf n c.in_ok-decisions.decisions) c.len-steps.ensures c.in_ok-decisions.ensures.size,
  λ regions gated input marks keeps e closed.
      λ y h. absurd (false≢true (sym (c.in_ok-decisions.ensures.none y) ∙ h)),
)

pub take_found-requires-clause-size : goal.take_found-requires-clause-size
take_found-requires-clause-size c = c.loop-decisions.invariant.0

pub loop-decisions-preserved : goal.loop-decisions-preserved
loop-decisions-preserved c =
    let k = c.take_new.ensures in
    let p = c.args.run.now.p.now in
    let xs = c.args.run.now.t.now.steps in
    let r = c.args.run.now.r.now in
    let below = found p xs r c.loop-decisions.decisions c.take_found.new.decisions c.in_ok-held.held.items c.as_slice-inner.result.now c.in_ok-counted.counted.items c.as_slice-counts.result.now
    c.as_slice-inner.ensures.value c.as_slice-counts.ensures.value c.in_ok-take_found.ensures.widens (c.in_ok-held.ensures.holds p) c.in_ok-counted.ensures.counted c.loop-decisions.invariant.1 in
    goes_on p xs r c.take_found.new.decisions c.take_new.new.d c.len-steps.result c.in_ok-passed.passed.missing.items c.as_slice-missing.result.now
    c.len-steps.ensures c.as_slice-missing.ensures.value k.size k.only c.in_ok-passed.ensures.missing below

pub loop-decisions-smaller : goal.loop-decisions-smaller
loop-decisions-smaller c = let a = c.in_ok-take_found.ensures.left in let b = c.take_new.ensures.less c.if-not-take_new.false in omega (arith, a, b)

pub returns-then-not-take_new : goal.returns-then-not-take_new
returns-then-not-take_new c =
    let k = c.take_new.ensures in
    let s = c.sliced.ensures in
    let p = c.args.run.now.p.now in
    let xs = c.args.run.now.t.now.steps in
    let r = c.args.run.now.r.now in
    let passed = c.in_ok-passed.passed in
    let below = found p xs r c.loop-decisions.decisions c.take_found.new.decisions c.in_ok-held.held.items c.as_slice-inner.result.now c.in_ok-counted.counted.items c.as_slice-counts.result.now
    c.as_slice-inner.ensures.value c.as_slice-counts.ensures.value c.in_ok-take_found.ensures.widens (c.in_ok-held.ensures.holds p) c.in_ok-counted.ensures.counted c.loop-decisions.invariant.1 in
    slice_at p xs r c.take_found.new.decisions c.take_new.new.d passed.precondition c.sliced.result c.len-steps.result passed.missing.items
    c.as_slice-missing.result.now c.len-steps.ensures c.as_slice-missing.ensures.value (k.same c.if-not-take_new.true) s.same s.lists s.precondition k.size c.in_ok-passed.ensures.needed k.taken
    c.in_ok-passed.ensures.missing c.in_ok-passed.ensures.admits below
