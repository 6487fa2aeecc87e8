use Rattle.std.proofs.Common.{◌≤◌, length}
use Rattle.pg_free.specs.States.{IsFor}
use Rattle.pg_free.proofs.state.FreeState.finish.Given as goal

abbrev pub invariant-loop : goal.invariant-loop
invariant-loop l = record {
  of : IsFor l.fn.self.program l.fn.self.input l.self;
  steps : l.counter ≤ length l.self.steps;
}
