-- Registers by what they stand for; one that isn't there was never set.
use Rattle.std.proofs.Common.{◌≡◌, ℕ, zero, suc, List, [], ◌∷◌, map, Some, None, slice_get, slice_index_or, refl, ap, subst, sym}
use Rattle.std.specs.List.{AllByRecursion}
use Rattle.pg_precondition.specs.Nodes.{NodeList}
use Rattle.pg_slice_rules.specs.SymbolicValues.{unset}
use Rattle.pg_slice_values.specs.declared.symbolic_node.SymbolicNode.{SymbolicNode}
use Rattle.pg_slice_values.specs.SymbolicNodes.{IsSymbolicNode, symbolic_by}

pub register_at : (ns : NodeList) (rs : List SymbolicNode) (r : ℕ) (s : SymbolicNode) → slice_get rs r ≡ Some s → symbolic_by ns s ≡ slice_index_or (map (symbolic_by ns) rs) r unset
register_at ns [] zero s e = absurd cc
register_at ns [] (suc r) s e = absurd cc
register_at ns (x ∷ rs) zero s e = let h : s ≡ x = cc in ap (symbolic_by ns) h
register_at ns (x ∷ rs) (suc r) s e = register_at ns rs r s e

pub register_is : (n : ℕ) (rs : List SymbolicNode) (r : ℕ) (s : SymbolicNode) → AllByRecursion (IsSymbolicNode n) rs → slice_get rs r ≡ Some s → IsSymbolicNode n s
register_is n [] zero s a e = absurd cc
register_is n [] (suc r) s a e = absurd cc
register_is n (x ∷ rs) zero s a e = let h : x ≡ s = cc in subst (λ (y : SymbolicNode). IsSymbolicNode n y) h a.0
register_is n (x ∷ rs) (suc r) s a e = register_is n rs r s a.1 e

pub no_register : (ns : NodeList) (rs : List SymbolicNode) (r : ℕ) → slice_get rs r ≡ None → unset ≡ slice_index_or (map (symbolic_by ns) rs) r unset
no_register ns [] zero e = refl
no_register ns [] (suc r) e = refl
no_register ns (x ∷ rs) zero e = absurd cc
no_register ns (x ∷ rs) (suc r) e = no_register ns rs r e
