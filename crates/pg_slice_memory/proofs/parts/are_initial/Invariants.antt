use Rattle.pg_slice_memory.specs.Loads.{AreInitial}
use Rattle.pg_slice_memory.proofs.parts.are_initial.Given as goal

abbrev pub invariant-loop-k : goal.invariant-loop-k
invariant-loop-k l = AreInitial l.symbolic_nodes l.k
