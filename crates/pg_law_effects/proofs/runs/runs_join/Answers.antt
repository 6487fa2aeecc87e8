use Rattle.pg_law_effects.proofs.RunsByThreads.{run_splits, runs_join}
use Rattle.pg_law_effects.proofs.runs.runs_join.Goals as goal

pub returns : goal.returns
returns c = λ gated p input s z xs ys. (run_splits gated p input s z xs ys, λ h. runs_join gated p input s h.0 z xs ys h.1 h.2)
