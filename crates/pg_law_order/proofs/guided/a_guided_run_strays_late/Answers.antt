use Rattle.pg_law_order.proofs.LateStraying.{strays_late}
use Rattle.pg_law_order.proofs.guided.a_guided_run_strays_late.Goals as goal

pub returns : goal.returns
returns c p input turns gated full w can o e = strays_late p input turns gated can full w o e
