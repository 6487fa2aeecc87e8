use Rattle.std.proofs.Common.{ap, sym, refl}
use Rattle.pg_run.specs.Answer.{answer_in}
use Rattle.pg_run.proofs.StatesAfterAnswers.{did_is, trapped_step}
use Rattle.pg_run.proofs.ToldTurns.{step_filled}
use Rattle.pg_run.proofs.state.MachineState.step.Goals as goal

pub returns-in-Err-clause-step : goal.returns-in-Err-clause-step
returns-in-Err-clause-step c = trapped_step c.args.run.now.gated.now c.args.run.now.program.now c.args.run.now.input.now c.args.self.now c.take.new.self c.args.t.0 c.id-id.result.0 c.in-Err.name
    (answer_in c.in_ok-name.field-0) c.id-id.ensures c.in_ok-name.ensures.state (ap answer_in c.in-Err.is)

pub returns-in-Ok-clause-step : goal.returns-in-Ok-clause-step
returns-in-Ok-clause-step c = did_is c.args.run.now.gated.now c.args.run.now.program.now c.args.run.now.input.now c.args.self.now c.take.new.self c.args.t.0 c.in-Ok.done.answer _
    (answer_in c.in_ok-name.field-0) (step_filled c.args.run.now.gated.now c.args.run.now.program.now c.args.self.now c.args.t.0 c.id-id.result.0 c.in-Ok.done.answer c.in-Ok.done.number
    c.filled.result c.tell-told.result c.next-action.result c.next-action.ensures c.id-id.ensures c.tell-told.ensures
    (rw c.in-Ok.is at c.in_ok-name.ensures.number) c.filled.ensures) c.in_ok-name.ensures.state (ap answer_in c.in-Ok.is)
