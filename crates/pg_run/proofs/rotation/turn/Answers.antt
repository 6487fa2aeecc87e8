use Rattle.std.proofs.Common.{sym, ◌∙◌, subst, arith, true}
use Rattle.pg_run.specs.Went.{WentRecorded}
use Rattle.pg_run.proofs.OwnTurns.{own_turn, own_more, own_room}
use Rattle.pg_run.proofs.rotation.turn.Goals as goal

pub returns-in-None-clause-turn : goal.returns-in-None-clause-turn
returns-in-None-clause-turn c =
    let w = subst (WentRecorded c.args.run.now.program.now c.args.state.now c.record_own.new.state c.args.u.thread.0 true c.args.trace.now c.record_own.new.trace) c.in-None.is
    c.record_own.ensures.step in
    λ n. own_turn c.args.run.now.program.now c.args.state.now c.record_own.new.state c.args.run.now.input.now c.args.q n c.args.u c.args.trace.now c.record_own.new.trace w (omega arith)

pub returns-in-None-clause-room : goal.returns-in-None-clause-room
returns-in-None-clause-room c =
    let w = subst (WentRecorded c.args.run.now.program.now c.args.state.now c.record_own.new.state c.args.u.thread.0 true c.args.trace.now c.record_own.new.trace) c.in-None.is
    c.record_own.ensures.step in
    own_room c.args.run.now.program.now c.args.state.now c.record_own.new.state c.args.u.thread.0 c.args.trace.now c.record_own.new.trace w

pub returns-in-None-clause-more : goal.returns-in-None-clause-more
returns-in-None-clause-more c =
    let w = subst (WentRecorded c.args.run.now.program.now c.args.state.now c.record_own.new.state c.args.u.thread.0 true c.args.trace.now c.record_own.new.trace) c.in-None.is
    c.record_own.ensures.step in
    own_more c.args.run.now.program.now c.args.state.now c.record_own.new.state c.args.u.thread.0 c.args.trace.now c.record_own.new.trace w

pub asked_turn-requires-in-Some-clause-next : goal.asked_turn-requires-in-Some-clause-next
asked_turn-requires-in-Some-clause-next c =
    let w = subst (WentRecorded c.args.run.now.program.now c.args.state.now c.record_own.new.state c.args.u.thread.0 true c.args.trace.now c.record_own.new.trace) c.in-Some.is
    c.record_own.ensures.step in
    rw w.1 w.0

pub returns-in-Some-clause-turn : goal.returns-in-Some-clause-turn
returns-in-Some-clause-turn c =
    let w = subst (WentRecorded c.args.run.now.program.now c.args.state.now c.record_own.new.state c.args.u.thread.0 true c.args.trace.now c.record_own.new.trace) c.in-Some.is
    c.record_own.ensures.step in
    rw (w.1, w.2) at c.asked_turn-in-Some.ensures.turn
