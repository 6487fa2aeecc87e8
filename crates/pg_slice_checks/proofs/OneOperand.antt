-- One operand of many.
use Rattle.std.proofs.Common.{◌≡◌, ℕ, zero, suc, ◌<◌, List, [], ◌∷◌, length, map, slice_index_or, refl, arith}
use Rattle.std.specs.List.{AllByRecursion}
use Rattle.pg_precondition.specs.Nodes.{NodeList}
use Rattle.pg_slice_memory.specs.pg_slice_values.declared.symbolic_node.SymbolicNode.{SymbolicNode}
use Rattle.pg_slice_memory.specs.pg_slice_values.SymbolicNodes.{IsSymbolicNode, symbolic_by}
use Rattle.pg_slice_checks.specs.Steps.{at}

pub operand_at : (ns : NodeList) (xs : List SymbolicNode) (k : ℕ) (d : SymbolicNode) → k < length xs → at (map (symbolic_by ns) xs) k ≡ symbolic_by ns (slice_index_or xs k d)
operand_at ns [] k d h = absurd (omega (arith, h))
operand_at ns (x ∷ xs) zero d h = refl
operand_at ns (x ∷ xs) (suc k) d h = operand_at ns xs k d (omega (arith, h))

pub symbolic_node_at : (n : ℕ) (xs : List SymbolicNode) (k : ℕ) (d : SymbolicNode) → k < length xs → AllByRecursion (IsSymbolicNode n) xs → IsSymbolicNode n (slice_index_or xs k d)
symbolic_node_at n [] k d h a = absurd (omega (arith, h))
symbolic_node_at n (x ∷ xs) zero d h a = a.0
symbolic_node_at n (x ∷ xs) (suc k) d h a = symbolic_node_at n xs k d (omega (arith, h)) a.1
