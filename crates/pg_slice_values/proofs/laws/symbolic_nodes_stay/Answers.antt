use Rattle.std.proofs.Common.{length}
use Rattle.pg_slice_values.proofs.GrowingNodes.{grew_length, symbolic_kept, symbolic_node_more}
use Rattle.pg_slice_values.proofs.laws.symbolic_nodes_stay.Goals as goal

pub returns-clause-same : goal.returns-clause-same
returns-clause-same c old new s g h = symbolic_kept old new s g h

pub returns-clause-is : goal.returns-clause-is
returns-clause-is c old new s g h = symbolic_node_more (length old) (length new) s (grew_length old new g) h
