use Rattle.std.proofs.Common.{refl, ap}
use Rattle.std.proofs.lemmas.Result.{IfOk-weaker}
use Rattle.pg_slice_rules.specs.Known.{is_branch}
use Rattle.pg_slice_passes.specs.Given.{is_op}
use Rattle.pg_slice_back.proofs.live.back_step.Goals as goal

pub returns-in-Access-clause-back : goal.returns-in-Access-clause-back
returns-in-Access-clause-back c = IfOk-weaker c.back_access.result _ _ (λ o h R e m st call met.
    h R e c.args.s.now.program.now c.args.s.now.reference.now c.args.s.now.step.now c.args.s.now.counts m st call c.in-Access.is refl met) c.back_access.ensures.back

pub returns-in_ok-back_event-in-Event-clause-back : goal.returns-in_ok-back_event-in-Event-clause-back
returns-in_ok-back_event-in-Event-clause-back c = λ R e m st call met.
    (c.in_ok-back_event-in-Event.ensures R e c.args.s.now.program.now c.args.s.now.reference.now c.args.s.now.step.now c.args.s.now.counts c.args.s.now.number m st call c.in-Event.is refl met, tt)

pub returns-in-Branch-clause-back : goal.returns-in-Branch-clause-back
returns-in-Branch-clause-back c = IfOk-weaker c.back_branch.result _ _ (λ o h R e m st call met. h R e c.args.s.now.step.now m st call (ap is_branch c.in-Branch.is) met) c.back_branch.ensures.back

pub returns-in-Allocation-clause-back : goal.returns-in-Allocation-clause-back
returns-in-Allocation-clause-back c = IfOk-weaker c.back_plain.result _ _ (λ o h R e m st call met. h R e c.args.s.now.step.now m st call (ap is_op c.in-Allocation.is) met) c.back_plain.ensures.back

pub returns-in-Other-clause-back : goal.returns-in-Other-clause-back
returns-in-Other-clause-back c = IfOk-weaker c.back_plain-in-Other.result _ _ (λ o h R e m st call met.
    h R e c.args.s.now.step.now m st call (ap is_op c.in-Other.is) met) c.back_plain-in-Other.ensures.back
