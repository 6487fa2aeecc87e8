use Rattle.std.proofs.Common.{◌≡◌, ◌≤◌, length}
use Rattle.pg_run.specs.Machine.{IsMachine}
use Rattle.pg_run.specs.Guided.{walk}
use Rattle.pg_run.proofs.WithSteps.{OnWith}
use Rattle.pg_run.proofs.guided_walk.walk.Given as goal

abbrev pub invariant-loop-spent : goal.invariant-loop-spent
invariant-loop-spent l = record {
  of : IsMachine l.run.program.now l.state;
  room : l.trace.room ≡ l.initial.trace.room;
  fits : length l.trace.steps ≤ l.trace.room;
  on : OnWith l.run.gated.now l.run.program.now l.run.input.now l.turn l.left l.spent
      (walk l.left l.run.gated.now l.run.program.now l.run.input.now l.turn l.initial.state) l.records l.initial.trace l.state l.trace;
}
