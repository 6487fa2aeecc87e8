use Rattle.std.proofs.Common.{◌≡◌, ◌-◌, Some, rules, arith, ◌∙◌, subst}
use Rattle.std.specs.Prelude.{slice_get}
use Rattle.pg_schedule.proofs.LoopsSoFar.{instrs_more}
use Rattle.pg_schedule.proofs.pairs.instrs_in.Goals as goal

pub loop-k-preserved : goal.loop-k-preserved
loop-k-preserved c = (
  c.greater-bound.ensures ∙ instrs_more c.args.t.now.steps c.loop-k.k c.step-step.result c.loop-k.bound (omega arith)
      (subst (λ n. slice_get c.args.t.now.steps (n - 1 - c.loop-k.k) ≡ Some c.step-step.result) c.len.ensures c.step-step.ensures) c.loop-k.invariant.0,
  first_of (omega arith, search rules),
)
