use Rattle.std.proofs.Common.{◌∙◌, ap}
use Rattle.pg_run.specs.Answer.{answer_in}
use Rattle.pg_run.specs.MachineStep.{Stepped}
use Rattle.pg_run.specs.Taken.{state_with, steps_with, trapped_in}
use Rattle.pg_run.proofs.StatesAfterAnswers.{did_is, trapped_step}
use Rattle.pg_run.proofs.ToldTurns.{step_filled}
use Rattle.pg_run.proofs.recording.record_step.Goals as goal

pub returns-in-Err-clause-trap : goal.returns-in-Err-clause-trap
returns-in-Err-clause-trap c = ap trapped_in (trapped_step c.args.run.now.gated.now c.args.run.now.program.now c.args.run.now.input.now c.args.state.now c.take.new.self c.args.t.0
    c.id-id.result.0 c.in-Err.name (answer_in c.in_ok-name.field-0) c.id-id.ensures c.in_ok-name.ensures.state (ap answer_in c.in-Err.is))

pub returns-in-Err-clause-trace : goal.returns-in-Err-clause-trace
returns-in-Err-clause-trace c = ap (λ (o : Stepped). record c.args.trace.now { steps = steps_with c.args.trace.now.steps o })
    (trapped_step c.args.run.now.gated.now c.args.run.now.program.now c.args.run.now.input.now c.args.state.now c.take.new.self c.args.t.0 c.id-id.result.0 c.in-Err.name
    (answer_in c.in_ok-name.field-0) c.id-id.ensures c.in_ok-name.ensures.state (ap answer_in c.in-Err.is))

pub returns-in-Err-clause-state : goal.returns-in-Err-clause-state
returns-in-Err-clause-state c =
    let same = rw c.in-Err.is at c.in_ok-name.ensures.trap in
    same ∙ ap (state_with c.args.state.now) (trapped_step c.args.run.now.gated.now c.args.run.now.program.now c.args.run.now.input.now c.args.state.now c.take.new.self c.args.t.0
    c.id-id.result.0 c.in-Err.name (answer_in c.in_ok-name.field-0) c.id-id.ensures c.in_ok-name.ensures.state (ap answer_in c.in-Err.is))

pub returns-in-Ok-clause-trap : goal.returns-in-Ok-clause-trap
returns-in-Ok-clause-trap c = ap trapped_in (did_is c.args.run.now.gated.now c.args.run.now.program.now c.args.run.now.input.now c.args.state.now c.take.new.self c.args.t.0 c.in-Ok.done.answer _
    (answer_in c.in_ok-name.field-0) (step_filled c.args.run.now.gated.now c.args.run.now.program.now c.args.state.now c.args.t.0 c.id-id.result.0 c.in-Ok.done.answer c.in-Ok.done.number
    c.filled.result c.tell-told.result c.args.action.now c.requires.take.0 c.id-id.ensures c.tell-told.ensures
    (rw c.in-Ok.is at c.in_ok-name.ensures.number) c.filled.ensures) c.in_ok-name.ensures.state (ap answer_in c.in-Ok.is))

pub returns-in-Ok-clause-trace : goal.returns-in-Ok-clause-trace
returns-in-Ok-clause-trace c = c.push.ensures ∙ ap (λ (o : Stepped). record c.args.trace.now { steps = steps_with c.args.trace.now.steps o })
    (did_is c.args.run.now.gated.now c.args.run.now.program.now c.args.run.now.input.now c.args.state.now c.take.new.self c.args.t.0 c.in-Ok.done.answer _ (answer_in c.in_ok-name.field-0)
    (step_filled c.args.run.now.gated.now c.args.run.now.program.now c.args.state.now c.args.t.0 c.id-id.result.0 c.in-Ok.done.answer c.in-Ok.done.number c.filled.result c.tell-told.result
    c.args.action.now c.requires.take.0 c.id-id.ensures c.tell-told.ensures (rw c.in-Ok.is at c.in_ok-name.ensures.number) c.filled.ensures) c.in_ok-name.ensures.state (ap answer_in c.in-Ok.is))

pub returns-in-Ok-clause-state : goal.returns-in-Ok-clause-state
returns-in-Ok-clause-state c =
    ap (state_with c.args.state.now) (did_is c.args.run.now.gated.now c.args.run.now.program.now c.args.run.now.input.now c.args.state.now c.take.new.self c.args.t.0 c.in-Ok.done.answer _
    (answer_in c.in_ok-name.field-0) (step_filled c.args.run.now.gated.now c.args.run.now.program.now c.args.state.now c.args.t.0 c.id-id.result.0 c.in-Ok.done.answer c.in-Ok.done.number
    c.filled.result c.tell-told.result c.args.action.now c.requires.take.0 c.id-id.ensures c.tell-told.ensures
    (rw c.in-Ok.is at c.in_ok-name.ensures.number) c.filled.ensures) c.in_ok-name.ensures.state (ap answer_in c.in-Ok.is))
