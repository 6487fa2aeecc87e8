use Rattle.std.proofs.Common.{◌≡◌, ◌+◌, ◌<◌, ℕ, length, slice_index}
use Rattle.pg_slice_values.specs.SymbolicNodes.{Grew}
use Rattle.pg_slice_memory.specs.Loads.{IsByteNode, symbolic_node_in}
use Rattle.pg_slice_memory.specs.SymbolicNodes.{byte_symbolic}
use Rattle.pg_slice_memory.proofs.load.number_node.Given as goal

abbrev pub invariant-loop-k : goal.invariant-loop-k
invariant-loop-k l = record {
  size : length l.parts ≡ 8;
  grew : Grew l.fn.nodes l.nodes;
  each : (j : ℕ) → j < l.k → IsByteNode l.nodes (slice_index l.parts j) (byte_symbolic l.p l.fn.nodes (l.start + j) (symbolic_node_in l.symbolic_nodes j));
}
