use Rattle.std.proofs.Common.{arith, subst}
use Rattle.pg_run.specs.Alone.{TurnLeft}
use Rattle.pg_run.proofs.AloneSteps.{begun, ended, goes}
use Rattle.pg_run.proofs.alone.rotate_within.Goals as goal

pub loop-init : goal.loop-init
loop-init c = begun c.args.p.now c.args.input.now c.args.q c.args.limit c.in_ok-state.state c.in_ok-state.ensures.state c.in_ok-state.ensures.of

pub returns-in-Err : goal.returns-in-Err
returns-in-Err c = record {
  run = ended c.args.p.now c.args.input.now c.args.q c.args.limit c.loop.counter c.loop.state c.turn.new.state c.loop.share c.in-Err.end c.loop.events c.loop.invariant (omega arith)
      (subst (TurnLeft c.args.p.now c.args.input.now c.args.q c.loop.state c.loop.share c.turn.new.state) c.in-Err.is c.in_ok-left.ensures.turn);
}

pub loop-preserved : goal.loop-preserved
loop-preserved c = goes c.args.p.now c.args.input.now c.args.q c.args.limit c.loop.counter c.loop.state c.turn.new.state c.loop.share c.in-Ok.left c.loop.events c.with_event-events.result
    c.loop.invariant (omega arith) (subst (TurnLeft c.args.p.now c.args.input.now c.args.q c.loop.state c.loop.share c.turn.new.state) c.in-Ok.is c.in_ok-left.ensures.turn)
    c.in_ok-left.ensures.of (c.is_alone.ensures c.if-not-is_alone.false) c.with_event-events.ensures
