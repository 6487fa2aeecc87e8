use Rattle.pg_slice_memory.proofs.ByteNodes.{symbolics_kept}
use Rattle.pg_slice_memory.proofs.laws.more_nodes_change_nothing.Goals as goal

pub returns-clause-symbolic : goal.returns-clause-symbolic
returns-clause-symbolic c = λ p old new cs g h. symbolics_kept p old new cs g h
