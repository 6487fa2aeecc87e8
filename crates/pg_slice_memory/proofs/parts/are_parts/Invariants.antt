use Rattle.pg_slice_memory.specs.Loads.{ArePartsOf}
use Rattle.pg_slice_memory.proofs.parts.are_parts.Given as goal

abbrev pub invariant-loop-k : goal.invariant-loop-k
invariant-loop-k l = ArePartsOf l.of l.symbolic_nodes l.k
