use Rattle.std.proofs.Common.{◌∙◌}
use Rattle.pg_slice_decisions.specs.Steps.{taken_by}
use Rattle.pg_slice_passes.proofs.AllAsked.{admitted_is, missing_is}
use Rattle.pg_slice_passes.proofs.pass.pass_over.Goals as goal

pub returns-clause-missing : goal.returns-clause-missing
returns-clause-missing c = λ regions gated input marks x.
    missing_is c.args.run.now.p.now regions gated input c.args.run.now.t.now.steps (taken_by c.args.d.now) c.gather.new.nodes c.in_ok-g.g c.in_ok-passed.passed.missing.items
    (c.in_ok-g.ensures.passed regions gated input marks) c.in_ok-passed.ensures.missing x

pub returns-clause-admits : goal.returns-clause-admits
returns-clause-admits c = λ regions gated input other marks.
    c.in_ok-passed.ensures.admits other ∙ admitted_is c.args.run.now.p.now regions gated input c.args.run.now.t.now.steps (taken_by c.args.d.now) c.gather.new.nodes c.in_ok-g.g other
    (c.in_ok-g.ensures.passed regions gated input marks)
