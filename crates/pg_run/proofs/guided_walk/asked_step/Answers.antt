use Rattle.std.proofs.Common.{sym, ◌∙◌, refl}
use Rattle.pg_run.proofs.WithSteps.{owner_did, never_traps}
use Rattle.pg_run.proofs.guided_walk.asked_step.Goals as goal

pub returns-in-Err-clause-step : goal.returns-in-Err-clause-step
returns-in-Err-clause-step c = (sym c.due.ensures.due ∙ c.in-Err.is, refl, refl)

pub returns-in-Some-clause-step : goal.returns-in-Some-clause-step
returns-in-Some-clause-step c = never_traps c.args.run.now.gated.now c.args.run.now.program.now c.args.run.now.input.now c.args.turn.now c.args.state.now c.take_step.new.state c.args.records
    c.args.trace.now c.take_step.new.trace c.in-Ok.is_due c.due.result _ (c.in-Some.name, c.in-Some.id) _ c.due.ensures.due c.in-Ok.is c.in_ok-name-in-Ok.ensures.trap c.in-Some.is

pub returns-in-None-clause-step : goal.returns-in-None-clause-step
returns-in-None-clause-step c = owner_did c.args.run.now.gated.now c.args.run.now.program.now c.args.run.now.input.now c.args.turn.now c.args.state.now c.take_step.new.state c.args.records
    c.args.trace.now c.take_step.new.trace c.in-Ok.is_due c.due.result c.due.ensures.due c.in-Ok.is c.in_ok-name-in-Ok.ensures.state c.in_ok-name-in-Ok.ensures.trace
