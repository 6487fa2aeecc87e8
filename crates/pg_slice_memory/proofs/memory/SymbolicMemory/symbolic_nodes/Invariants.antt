use Rattle.std.proofs.Common.{◌≡◌, ◌+◌, ◌<◌, ℕ, length}
use Rattle.pg_slice_memory.specs.Changes.{symbolic_nodes_of}
use Rattle.pg_slice_memory.specs.Loads.{symbolic_node_in}
use Rattle.pg_slice_memory.specs.SymbolicNodes.{IsPart}
use Rattle.pg_slice_memory.proofs.memory.SymbolicMemory.symbolic_nodes.Given as goal

abbrev pub invariant-loop-k : goal.invariant-loop-k
invariant-loop-k l = record {
  size : length l.symbolic_nodes ≡ 8;
  symbolic_nodes : (j : ℕ) → j < l.k → symbolic_node_in l.symbolic_nodes j ≡ symbolic_nodes_of l.self (l.start + j);
  parts : (j : ℕ) → j < l.k → IsPart (symbolic_node_in l.symbolic_nodes j);
}
