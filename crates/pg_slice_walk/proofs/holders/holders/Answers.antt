use Rattle.std.proofs.Common.{◌≡◌, ℕ, List, length, sym, ap, ◌∙◌, subst, arith}
use Rattle.std.proofs.lemmas.List.{length-replicate}
use Rattle.pg_run_trace.specs.declared.step.Step.{Step}
use Rattle.pg_slice_back.specs.pg_slice_passes.Given.{reference_of}
use Rattle.pg_slice_back.proofs.of_pg_slice_passes.AllAsked.{as_many}
use Rattle.pg_slice_walk.specs.Chains.{AreHeld, AreOlder}
use Rattle.pg_slice_walk.proofs.OpenExtents.{all_held, held_first, none_older, none_on_top}
use Rattle.pg_slice_walk.proofs.StepMoments.{has_at}
use Rattle.pg_slice_walk.proofs.holders.holders.Goals as goal

pub loop-n-init : goal.loop-n-init
loop-n-init c = (
  ap (λ (xs : List ℕ). length xs) c.in_ok-tops.ensures ∙ length-replicate {A = ℕ} 256 0,
  ap (λ (xs : List ℕ). length xs) c.no_holders-holders.ensures,
  subst AreOlder (sym c.no_holders-holders.ensures) none_older,
  (λ u. let e = none_on_top c.in_ok-tops.tops.items 256 c.in_ok-tops.ensures u in omega (arith, e)),
  λ p regions gated input marks keeps. subst (λ (xs : List ℕ). AreHeld (reference_of p regions gated input c.args.trace.now.steps) c.args.reference.now 0 xs c.in_ok-tops.tops.items)
      (sym c.no_holders-holders.ensures)
      (held_first (reference_of p regions gated input c.args.trace.now.steps) c.args.reference.now c.in_ok-tops.tops.items (none_on_top c.in_ok-tops.tops.items 256 c.in_ok-tops.ensures)),
)

pub loop-n-preserved : goal.loop-n-preserved
loop-n-preserved c =
    let v = c.loop-n.invariant in
    let e = c.in_ok-hold.ensures in
    let xs = c.args.trace.now.steps in (
      e.tops ∙ v.0,
      e.long,
      e.older,
      e.begun,
      λ p regions gated input marks keeps.
          let k = has_at xs gated p input c.loop-n.n c.step.result c.step.ensures in
          e.held (reference_of p regions gated input xs) k.0 marks keeps k.1 (ap (λ (x : Step). x.thread.0) k.2) (v.4 p regions gated input marks keeps),
    )

pub returns-clause-older : goal.returns-clause-older
returns-clause-older c = c.loop-n.invariant.2

pub returns-clause-holds : goal.returns-clause-holds
returns-clause-holds c = λ p regions gated input marks keeps.
    let q : c.loop-n.n ≡ length c.args.trace.now.steps = omega (arith, c.loop-n.auto.n-end, c.loop-n-test.false, c.len-n-end.ensures) in
    let R = reference_of p regions gated input c.args.trace.now.steps in
    all_held R c.args.reference.now (length c.args.trace.now.steps) c.loop-n.holders.items c.loop-n.tops.items (as_many gated p input c.args.trace.now.steps)
    (subst (λ (k : ℕ). AreHeld R c.args.reference.now k c.loop-n.holders.items c.loop-n.tops.items) q (c.loop-n.invariant.4 p regions gated input marks keeps))
