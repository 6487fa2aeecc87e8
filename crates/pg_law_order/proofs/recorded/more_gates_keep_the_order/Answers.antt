use Rattle.pg_law_order.proofs.MoreGates.{more_gates}
use Rattle.pg_law_order.proofs.recorded.more_gates_keep_the_order.Goals as goal

pub returns : goal.returns
returns c = more_gates
