use Rattle.pg_slice_memory.specs.Loads.{AreKnown}
use Rattle.pg_slice_memory.proofs.parts.first_unknown.Given as goal

abbrev pub invariant-loop-k : goal.invariant-loop-k
invariant-loop-k l = AreKnown l.symbolic_nodes l.k
