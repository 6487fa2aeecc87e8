use Rattle.std.proofs.Common.{◌∙◌, ap, refl}
use Rattle.pg_run.specs.Answer.{answer_in}
use Rattle.pg_run.specs.Taken.{state_with, trapped_in}
use Rattle.pg_run.proofs.StatesAfterAnswers.{did_is, trapped_step}
use Rattle.pg_run.proofs.recording.step_on.Goals as goal

pub returns-in-Err-clause-trap : goal.returns-in-Err-clause-trap
returns-in-Err-clause-trap c = λ gated. ap trapped_in (trapped_step gated c.args.run.now.program.now c.args.run.now.input.now c.args.state.now c.take.new.self c.args.t.0 c.id-id.result.0
    c.in-Err.name _ c.id-id.ensures c.in_ok-name.ensures.state (ap answer_in c.in-Err.is))

pub returns-in-Err-clause-state : goal.returns-in-Err-clause-state
returns-in-Err-clause-state c =
    let same = rw c.in-Err.is at c.in_ok-name.ensures.trap in
    λ gated. same ∙ ap (state_with c.args.state.now) (trapped_step gated c.args.run.now.program.now c.args.run.now.input.now c.args.state.now c.take.new.self c.args.t.0 c.id-id.result.0
    c.in-Err.name _ c.id-id.ensures c.in_ok-name.ensures.state (ap answer_in c.in-Err.is))

pub returns-in-Ok-clause-trap : goal.returns-in-Ok-clause-trap
returns-in-Ok-clause-trap c = λ gated. ap trapped_in (did_is gated c.args.run.now.program.now c.args.run.now.input.now c.args.state.now c.take.new.self c.args.t.0 _ _ _ refl
    c.in_ok-name.ensures.state (ap answer_in c.in-Ok.is))

pub returns-in-Ok-clause-state : goal.returns-in-Ok-clause-state
returns-in-Ok-clause-state c = λ gated. ap (state_with c.args.state.now)
    (did_is gated c.args.run.now.program.now c.args.run.now.input.now c.args.state.now c.take.new.self c.args.t.0 _ _ _ refl c.in_ok-name.ensures.state (ap answer_in c.in-Ok.is))
