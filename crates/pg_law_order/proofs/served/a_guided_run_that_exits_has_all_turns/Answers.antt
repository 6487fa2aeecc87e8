use Rattle.std.proofs.Common.{refl}
use Rattle.pg_run.specs.Guided.{guided_of}
use Rattle.pg_law_order.proofs.ExitsHaveAllTurns.{all_turns}
use Rattle.pg_law_order.proofs.served.a_guided_run_that_exits_has_all_turns.Goals as goal

pub returns : goal.returns
returns c p input s value e = all_turns p input s.turns s.gated (guided_of p input s.turns s.gated).trace (record { steps = refl; value = value; end = e })
