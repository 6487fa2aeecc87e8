use Rattle.std.proofs.Common.{arith, refl, ◌∙◌}
use Rattle.pg_run.proofs.Walks.{sum_all, sum_less}
use Rattle.pg_run.proofs.WithSteps.{goes_with, stops_with, past_with, ends_with, starts_with}
use Rattle.pg_run.proofs.guided.guide_along.Goals as goal

pub loop-turn-init : goal.loop-turn-init
loop-turn-init c = record {
  of = c.in_ok-state.ensures.of;
  done = refl;
  few = rw c.in_ok-left.ensures (omega (arith, sum_all));
  room = refl;
  fits = c.requires.few;
  along = starts_with c.args.run.now.gated.now c.args.run.now.program.now c.args.run.now.input.now c.args.turns.now c.args.records c.args.trace.now c.in_ok-state.state c.in_ok-left.left.items
      c.in_ok-state.ensures.state c.in_ok-left.ensures;
}

pub returns-in-None-clause-full : goal.returns-in-None-clause-full
returns-in-None-clause-full c =
    let full = rw c.in-None.is at c.in_ok-walked.ensures.full in (
      full.0,
      past_with c.args.run.now.gated.now c.args.run.now.program.now c.args.run.now.input.now c.args.turns.now _ c.args.records c.args.trace.now c.loop-turn.turn-index c.left_of-most.result
          _ c.loop-turn.state c.walk.new.state c.loop-turn.left.items 0 c.loop-turn.trace c.walk.new.trace c.loop-turn-test.true
          (rw c.as_slice.ensures.value at c.left_of-most.ensures) c.args.trace.now.room full.0 (rw c.loop-turn.invariant.room at full.1) c.loop-turn.invariant.along,
    )

pub loop-turn-preserved : goal.loop-turn-preserved
loop-turn-preserved c =
    let walk = rw c.in-Some.is at c.in_ok-walked.ensures.walk in
    record {
      of = c.in_ok-walked.ensures.of;
      done = omega arith;
      few =
          let less = rw c.in_default.is at (rw c.in-Some.is at c.in_ok-walked.ensures.less) in
          let most = rw c.as_slice.ensures.value at c.left_of-most.ensures in
          rw c.set_left.ensures (omega (arith, sum_less c.loop-turn.left.items _ c.in-Some.walked.left (rw most at less), c.loop-turn.invariant.few));
      room = c.in_ok-walked.ensures.room ∙ c.loop-turn.invariant.room;
      fits = c.in_ok-walked.ensures.fits;
      along = goes_with c.args.run.now.gated.now c.args.run.now.program.now c.args.run.now.input.now c.args.turns.now _ c.args.records c.args.trace.now c.loop-turn.turn-index
          c.left_of-most.result _ c.loop-turn.state c.walk.new.state c.loop-turn.left.items c.in-Some.walked.left c.loop-turn.trace c.walk.new.trace c.loop-turn-test.true
          (rw c.as_slice.ensures.value at c.left_of-most.ensures) c.set_left.new.left.items c.in-Some.walked.end walk c.in_default.is c.set_left.ensures c.loop-turn.invariant.along;
    }

pub returns-in-Some-end-clause-run : goal.returns-in-Some-end-clause-run
returns-in-Some-end-clause-run c =
    let walk = rw c.in-Some.is at c.in_ok-walked.ensures.walk in
    stops_with c.args.run.now.gated.now c.args.run.now.program.now c.args.run.now.input.now c.args.turns.now _ c.args.records c.args.trace.now c.loop-turn.turn-index c.left_of-most.result _
    c.loop-turn.state c.walk.new.state c.loop-turn.left.items c.in-Some.walked.left c.loop-turn.trace c.walk.new.trace c.loop-turn-test.true
    (rw c.as_slice.ensures.value at c.left_of-most.ensures) c.loop-turn.done c.in-Some.walked.end c.in-Some-end.end c.loop-turn.invariant.done walk c.in-Some-end.is c.loop-turn.invariant.along

pub returns-clause-run : goal.returns-clause-run
returns-clause-run c = ends_with c.args.run.now.gated.now c.args.run.now.program.now c.args.run.now.input.now c.args.turns.now _ c.args.records c.args.trace.now c.loop-turn.turn-index
    c.loop-turn.done c.loop-turn.state c.loop-turn.left.items c.loop-turn.trace c.end_after-end.result c.loop-turn-test.false c.loop-turn.invariant.done c.end_after-end.ensures
    c.loop-turn.invariant.along
