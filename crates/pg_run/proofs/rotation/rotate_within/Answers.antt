use Rattle.std.proofs.Common.{arith}
use Rattle.pg_run.proofs.Rotations.{loop_ends, loop_goes}
use Rattle.pg_run.proofs.rotation.rotate_within.Goals as goal

pub returns-in-Err-clause-run : goal.returns-in-Err-clause-run
returns-in-Err-clause-run c = loop_ends c.args.p.now c.args.input.now c.args.q c.args.limit c.loop.counter c.loop.state c.turn.new.state c.loop.share c.loop.trace.steps c.turn.new.trace.steps
    c.in_ok-left.field-0 c.in-Err.end _ (omega arith) c.in_ok-left.ensures.turn c.in-Err.is c.loop.invariant.same

pub loop-preserved : goal.loop-preserved
loop-preserved c = record {
  of = c.in_ok-left.ensures.of;
  room = let k = c.in_ok-left.ensures.room in grind (arith, k, c.loop.invariant.room);
  few = let k = c.in_ok-left.ensures.more in omega (arith, k, c.loop.invariant.few);
  same = loop_goes c.args.p.now c.args.input.now c.args.q c.args.limit c.loop.counter c.loop.state c.turn.new.state c.loop.share c.in-Ok.left c.loop.trace.steps c.turn.new.trace.steps
      c.in_ok-left.field-0 _ (omega arith) c.in_ok-left.ensures.turn c.in-Ok.is c.loop.invariant.same;
}
