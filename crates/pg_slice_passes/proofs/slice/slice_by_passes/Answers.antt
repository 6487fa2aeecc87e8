use Rattle.std.proofs.Common.{sym, subst, ◌∙◌}
use Rattle.std.proofs.lemmas.Bool.{false≢true}
use Rattle.pg_slice_decisions.specs.Steps.{AreOf}
use Rattle.pg_slice_passes.proofs.SliceOf.{goes_on, slice_at}
use Rattle.pg_slice_passes.proofs.slice.slice_by_passes.Goals as goal

pub loop-d-init : goal.loop-d-init
loop-d-init c = (
  subst (λ n. AreOf n c.in_ok-d.d) c.len-steps.ensures c.in_ok-d.ensures.size,
  λ regions gated input marks keeps e closed. λ y h. absurd (false≢true (sym (c.in_ok-d.ensures.none y) ∙ h)),
)

pub loop-d-preserved : goal.loop-d-preserved
loop-d-preserved c =
    let k = c.take_new.ensures in
    goes_on c.args.run.now.p.now c.args.run.now.t.now.steps c.args.run.now.r.now c.loop-d.d c.take_new.new.d c.len-steps.result c.in_ok-passed.passed.missing.items c.as_slice.result.now
    c.len-steps.ensures c.as_slice.ensures.value k.size k.only c.in_ok-passed.ensures.missing c.loop-d.invariant.1

pub returns-then-not-take_new : goal.returns-then-not-take_new
returns-then-not-take_new c =
    let k = c.take_new.ensures in
    let s = c.sliced.ensures in
    let passed = c.in_ok-passed.passed in
    slice_at c.args.run.now.p.now c.args.run.now.t.now.steps c.args.run.now.r.now c.loop-d.d c.take_new.new.d passed.precondition c.sliced.result c.len-steps.result passed.missing.items
    c.as_slice.result.now c.len-steps.ensures c.as_slice.ensures.value (k.same c.if-not-take_new.true) s.same s.lists s.precondition k.size c.in_ok-passed.ensures.needed k.taken
    c.in_ok-passed.ensures.missing c.in_ok-passed.ensures.admits c.loop-d.invariant.1
