use Rattle.std.proofs.Common.{◌≡◌, ◌+◌, ◌<◌, ℤ, List, length, drop}
use Rattle.pg_slice_values.specs.SymbolicNodes.{Grew, number_by}
use Rattle.pg_slice_values.specs.Forms.{moved_each, node_at, numbers_from}
use Rattle.pg_slice_values.proofs.pointers.moved_along.Given as goal

abbrev pub invariant-loop-i : goal.invariant-loop-i
invariant-loop-i l = record {
  grew : Grew l.fn.nodes l.nodes;
  is : l.word < length l.nodes;
  value : (input : List ℤ) → moved_each (number_by l.nodes l.word input) (drop l.i l.indices) (drop (l.i + 1) (numbers_from l.fn.nodes l.operands input))
      ≡ moved_each (number_by l.fn.nodes (node_at l.operands 0) input) l.indices (drop 1 (numbers_from l.fn.nodes l.operands input));
}
