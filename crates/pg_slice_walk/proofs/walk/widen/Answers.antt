use Rattle.std.proofs.Common.{◌≡◌, ◌-◌, ℕ, suc, Some, refl, sym, ap, ◌∙◌, subst, arith}
use Rattle.pg_slice_back.specs.pg_slice_decisions.Steps.{taken_by}
use Rattle.pg_slice_back.specs.pg_slice_passes.Given.{reference_of}
use Rattle.pg_run_trace.specs.declared.step.Step.{Step}
use Rattle.pg_slice_back.specs.pg_law_demands.Along.{known_at}
use Rattle.pg_slice_walk.specs.Words.{AreWordsMet}
use Rattle.pg_slice_walk.specs.Walks.{Walks}
use Rattle.pg_slice_walk.proofs.WalkSteps.{none_met}
use Rattle.pg_slice_walk.proofs.StepMoments.{get_there, has_at}
use Rattle.pg_slice_walk.proofs.SettledWithMore.{none_settled}
use Rattle.pg_slice_walk.proofs.walk.widen.Goals as goal

pub loop-left-init : goal.loop-left-init
loop-left-init c = record {
  number = omega (arith, c.len-left.ensures);
  settled = none_settled c.args.walk.now.holders.now (taken_by c.args.decisions.now) c.in_ok-settled.settled.items _ c.in_ok-settled.ensures;
  size = c.requires.size;
  left = omega arith;
  walks = λ regions gated input told e closed within.
      let R = reference_of c.args.walk.now.program.now regions gated input c.args.walk.now.trace.now.steps in (
        record { met = none_met R e c.len-left.result c.new-demanded.result c.new-demanded.ensures.registers c.new-demanded.ensures.bytes; within = within },
        c.in_ok-words.ensures (known_at R e c.len-left.result),
      );
}

pub loop-left-preserved : goal.loop-left-preserved
loop-left-preserved c =
    let v = c.loop-left.invariant in
    let e = c.in_ok-left.ensures in
    let a = v.number in
    let b = e.fewer in
    let l = v.left in
    let k = e.left in
    let xs = c.args.walk.now.trace.now.steps in
    record {
      number = omega (arith, a, b);
      settled = e.settled;
      size = e.size;
      left = omega (arith, l, k);
      walks = λ regions gated input told d closed within.
          let x = get_there xs (c.loop-left.left - 1) (omega (arith, a, c.loop-left-test.true)) in
          let m = has_at xs gated c.args.walk.now.program.now input (c.loop-left.left - 1) x.0 x.1 in
          let z : c.loop-left.left ≡ suc (c.loop-left.left - 1) = omega (arith, c.loop-left-test.true) in
          let R = reference_of c.args.walk.now.program.now regions gated input xs in
          let before = v.walks regions gated input told d closed within in
          e.walks R d m.0 told refl closed m.1 (x.1 ∙ ap (λ (s : Step). Some s) (sym m.2)) (subst (λ (i : ℕ). AreWordsMet (known_at R d i) c.loop-left.words.items) z before.1)
          (subst (λ (i : ℕ). Walks R d i c.loop-left.demanded (taken_by c.loop-left.decisions)) z before.0);
    }

pub returns-clause-widens : goal.returns-clause-widens
returns-clause-widens c = record { by = λ regions gated input told e closed within. (c.loop-left.invariant.walks regions gated input told e closed within).0.within }
