use Rattle.pg_free.specs.States.{IsFor}
use Rattle.pg_free.proofs.state.FreeState.attempts.Given as goal

abbrev pub invariant-loop : goal.invariant-loop
invariant-loop l = IsFor l.fn.self.program l.fn.self.input l.self
