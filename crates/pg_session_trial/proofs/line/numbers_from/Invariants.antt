use Rattle.std.specs.Prelude.{◌≡◌}
use Rattle.pg_session_trial.specs.Lines.{numbers_from}
use Rattle.pg_session_trial.proofs.line.numbers_from.Given as goal

abbrev pub invariant-loop-j : goal.invariant-loop-j
invariant-loop-j l = l.numbers.items ≡ numbers_from l.first l.j
