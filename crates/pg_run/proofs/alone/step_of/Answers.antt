use Rattle.std.proofs.Common.{[], sym, ◌∙◌}
use Rattle.pg_run.proofs.AloneSteps.{step_left, step_stops}
use Rattle.pg_run.proofs.alone.step_of.Goals as goal

pub returns-in-Some-clause-step : goal.returns-in-Some-clause-step
returns-in-Some-clause-step c = step_stops c.args.run.now.program.now c.args.run.now.input.now c.args.state.now c.step_on.new.state c.args.u c.in-Some.name c.in-Some.id
    (sym (c.in_ok-name.ensures.trap []) ∙ c.in-Some.is) (c.in_ok-name.ensures.state [])

pub returns-in-None-clause-step : goal.returns-in-None-clause-step
returns-in-None-clause-step c = step_left c.args.run.now.program.now c.args.run.now.input.now c.args.state.now c.step_on.new.state c.args.u c.args.action.now c.is_asking-is_event.result
    c.requires.take (sym (c.in_ok-name.ensures.trap []) ∙ c.in-None.is) (c.in_ok-name.ensures.state []) c.is_asking-is_event.ensures
