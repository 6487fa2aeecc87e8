use Rattle.std.proofs.Common.{subst, arith}
use Rattle.pg_run.specs.Went.{GoesOn}
use Rattle.pg_run.proofs.AloneSteps.{own_left}
use Rattle.pg_run.proofs.alone.turn.Goals as goal

pub returns-in-Done-clause-turn : goal.returns-in-Done-clause-turn
returns-in-Done-clause-turn c =
    let w = subst (GoesOn c.args.run.now.program.now c.args.state.now c.go_on.new.self c.args.u.thread.0) c.in-Done.is c.go_on.ensures.step in
    own_left c.args.run.now.program.now c.args.run.now.input.now c.args.q c.args.state.now c.go_on.new.self c.args.u _ w (omega arith)

pub asked_turn-requires-in-Asks-clause-next : goal.asked_turn-requires-in-Asks-clause-next
asked_turn-requires-in-Asks-clause-next c =
    let w = subst (GoesOn c.args.run.now.program.now c.args.state.now c.go_on.new.self c.args.u.thread.0) c.in-Asks.is c.go_on.ensures.step in
    rw w.1 w.0

pub returns-in-Asks-clause-turn : goal.returns-in-Asks-clause-turn
returns-in-Asks-clause-turn c =
    let w = subst (GoesOn c.args.run.now.program.now c.args.state.now c.go_on.new.self c.args.u.thread.0) c.in-Asks.is c.go_on.ensures.step in
    rw w.1 at c.asked_turn-in-Asks.ensures.turn
