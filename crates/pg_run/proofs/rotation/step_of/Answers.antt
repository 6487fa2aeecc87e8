use Rattle.std.proofs.Common.{[], sym, ◌∙◌}
use Rattle.pg_run.specs.MachineStep.{step}
use Rattle.pg_run.proofs.Rotations.{step_goes, step_ends}
use Rattle.pg_run.proofs.rotation.step_of.Goals as goal

pub returns-in-Some-clause-turn : goal.returns-in-Some-clause-turn
returns-in-Some-clause-turn c = λ more. rw (c.in_ok-name.ensures.trace, c.in_ok-name.ensures.state, c.requires.gated)
    (step_ends c.args.state.now c.args.u (step [] c.args.run.now.program.now c.args.run.now.input.now c.args.state.now c.args.u.thread.0) c.in-Some.name c.in-Some.id c.args.trace.now.steps more
    (sym (rw c.requires.gated at c.in_ok-name.ensures.trap) ∙ c.in-Some.is))

pub returns-in-None-clause-turn : goal.returns-in-None-clause-turn
returns-in-None-clause-turn c = λ more. rw (c.in_ok-name.ensures.trace, c.in_ok-name.ensures.state, c.requires.gated)
    (step_goes c.args.state.now c.args.u (step [] c.args.run.now.program.now c.args.run.now.input.now c.args.state.now c.args.u.thread.0) c.args.trace.now.steps more
    (sym (rw c.requires.gated at c.in_ok-name.ensures.trap) ∙ c.in-None.is))
