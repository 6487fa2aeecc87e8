use Rattle.std.proofs.Common.{sym, ◌∙◌}
use Rattle.pg_run.proofs.Rotations.{chosen_stays, turn_stops, turn_from}
use Rattle.pg_run.proofs.rotation.asked_turn.Goals as goal

pub returns-in-Err-clause-turn : goal.returns-in-Err-clause-turn
returns-in-Err-clause-turn c = λ n. turn_stops c.args.run.now.program.now c.args.run.now.input.now c.args.q n c.args.state.now c.args.u c.in-Err.end c.args.trace.now.steps
    (sym c.choose.ensures.chosen ∙ c.in-Err.is)

pub returns-in-Ok-clause-turn : goal.returns-in-Ok-clause-turn
returns-in-Ok-clause-turn c = turn_from c.args.run.now.program.now c.args.run.now.input.now c.args.q c.args.state.now c.step_of-in-Ok.new.state c.args.u c.in-Ok.v c.args.trace.now.steps
    c.step_of-in-Ok.new.trace.steps c.step_of-in-Ok.result (sym c.choose.ensures.chosen ∙ c.in-Ok.is) c.step_of-in-Ok.ensures.turn

-- the thread goes on
pub returns-then-u-gt0-clause-turn : goal.returns-then-u-gt0-clause-turn
returns-then-u-gt0-clause-turn c = turn_from c.args.run.now.program.now c.args.run.now.input.now c.args.q c.args.state.now c.step_of.new.state c.args.u c.args.u c.args.trace.now.steps
    c.step_of.new.trace.steps c.step_of.result (chosen_stays c.args.run.now.program.now c.args.q c.args.state.now c.args.u (sym c.can_take.ensures ∙ c.if-can_take.true) c.if-u-gt0.true)
    c.step_of.ensures.turn
