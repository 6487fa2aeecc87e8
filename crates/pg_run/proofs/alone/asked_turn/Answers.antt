use Rattle.std.proofs.Common.{sym, ◌∙◌}
use Rattle.pg_run.proofs.AloneSteps.{turn_left, turn_over}
use Rattle.pg_run.proofs.Rotations.{chosen_stays}
use Rattle.pg_run.proofs.alone.asked_turn.Goals as goal

pub returns-in-Err-clause-turn : goal.returns-in-Err-clause-turn
returns-in-Err-clause-turn c = turn_over c.args.run.now.program.now c.args.run.now.input.now c.args.q c.args.state.now c.args.u c.in-Err.end (sym c.choose.ensures.chosen ∙ c.in-Err.is)

pub returns-in-Ok-clause-turn : goal.returns-in-Ok-clause-turn
returns-in-Ok-clause-turn c = turn_left c.args.run.now.program.now c.args.run.now.input.now c.args.q c.args.state.now c.step_of-in-Ok.new.state c.args.u c.in-Ok.v
    c.step_of-in-Ok.result (sym c.choose.ensures.chosen ∙ c.in-Ok.is) c.step_of-in-Ok.ensures.step

-- the thread goes on
pub returns-then-u-gt0-clause-turn : goal.returns-then-u-gt0-clause-turn
returns-then-u-gt0-clause-turn c = turn_left c.args.run.now.program.now c.args.run.now.input.now c.args.q c.args.state.now c.step_of.new.state c.args.u c.args.u
    c.step_of.result (chosen_stays c.args.run.now.program.now c.args.q c.args.state.now c.args.u (sym c.can_take.ensures ∙ c.if-can_take.true) c.if-u-gt0.true) c.step_of.ensures.step
