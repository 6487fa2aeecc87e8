-- Symbolic values keep what they stand for while nodes are added.
use Rattle.std.proofs.Common.{◌≡◌, ℕ, ◌≤◌, List, [], ◌∷◌, ◌++◌, length, refl, ap, ◌∙◌}
use Rattle.pg_precondition.specs.Nodes.{NodeList}
use Rattle.pg_slice_rules.specs.SymbolicValues.{Symbolic}
use Rattle.pg_slice_values.specs.declared.symbolic_node.SymbolicNode.{SymbolicNode}
use Rattle.pg_slice_values.specs.SymbolicNodes.{Grew, IsSymbolicNode, symbolic_by}
use Rattle.pg_slice_values.proofs.GrowingNodes.{grew_length, symbolic_kept, symbolic_node_more}
use Rattle.pg_slice_registers.specs.SymbolicRegisterNodes.{AreSymbolicNodes, registers_by}

pub registers_kept : (old new : NodeList) (rs : List SymbolicNode) → Grew old new → AreSymbolicNodes (length old) rs → registers_by new rs ≡ registers_by old rs
registers_kept old new [] g h = refl
registers_kept old new (s ∷ rs) g h = ap (λ (x : Symbolic). x ∷ registers_by new rs) (symbolic_kept old new s g h.0)
    ∙ ap (λ (xs : List Symbolic). symbolic_by old s ∷ xs) (registers_kept old new rs g h.1)

pub symbolic_nodes_up : (m n : ℕ) (rs : List SymbolicNode) → m ≤ n → AreSymbolicNodes m rs → AreSymbolicNodes n rs
symbolic_nodes_up m n [] h a = tt
symbolic_nodes_up m n (s ∷ rs) h a = (symbolic_node_more m n s h a.0, symbolic_nodes_up m n rs h a.1)

pub symbolic_nodes_kept : (old new : NodeList) (rs : List SymbolicNode) → Grew old new → AreSymbolicNodes (length old) rs → AreSymbolicNodes (length new) rs
symbolic_nodes_kept old new rs g a = symbolic_nodes_up (length old) (length new) rs (grew_length old new g) a

pub symbolic_nodes_push : (n : ℕ) (rs : List SymbolicNode) (s : SymbolicNode) → AreSymbolicNodes n rs → IsSymbolicNode n s → AreSymbolicNodes n (rs ++ s ∷ [])
symbolic_nodes_push n [] s a h = (h, tt)
symbolic_nodes_push n (r ∷ rs) s a h = (a.0, symbolic_nodes_push n rs s a.1 h)

pub registers_push : (ns : NodeList) (rs : List SymbolicNode) (s : SymbolicNode) → registers_by ns (rs ++ s ∷ []) ≡ registers_by ns rs ++ symbolic_by ns s ∷ []
registers_push ns [] s = refl
registers_push ns (r ∷ rs) s = ap (λ (xs : List Symbolic). symbolic_by ns r ∷ xs) (registers_push ns rs s)
