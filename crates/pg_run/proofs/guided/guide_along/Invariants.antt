use Rattle.std.proofs.Common.{◌≡◌, ◌+◌, ◌*◌, ◌≤◌, length, sum}
use Rattle.pg_run_trace.specs.pg_num.declared.limits.TheConstants.{GUIDED_STEP_LIMIT, THREAD_LIMIT}
use Rattle.pg_run.specs.Machine.{IsMachine}
use Rattle.pg_run.specs.Guided.{guided_of}
use Rattle.pg_run.proofs.WithSteps.{AlongWith}
use Rattle.pg_run.proofs.guided.guide_along.Given as goal

abbrev pub invariant-loop-turn : goal.invariant-loop-turn
invariant-loop-turn l = record {
  of : IsMachine l.run.program.now l.state;
  done : l.done ≡ l.turn-index;
  few : l.done + sum l.left.items ≤ THREAD_LIMIT * GUIDED_STEP_LIMIT;
  room : l.trace.room ≡ l.initial.trace.room;
  fits : length l.trace.steps ≤ l.trace.room;
  along : AlongWith l.run.gated.now l.run.program.now l.run.input.now l.turns
      (guided_of l.run.program.now l.run.input.now l.turns l.run.gated.now) l.records l.initial.trace l.turn-index l.state l.left.items l.trace;
}
