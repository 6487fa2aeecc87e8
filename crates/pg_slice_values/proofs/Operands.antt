-- Operands that are all known, and what is made of them.
use Rattle.std.proofs.Common.{◌≡◌, ℕ, zero, suc, ◌<◌, ℤ, List, [], ◌∷◌, length, map, Option, Some, None, arith, refl, ap}
use Rattle.std.specs.List.{AllByRecursion}
use Rattle.pg_precondition.specs.Nodes.{NodeList}
use Rattle.pg_precondition.specs.Values.{number_of}
use Rattle.pg_slice_rules.specs.declared.decision.Decision.{Decision}
use Rattle.pg_slice_rules.specs.SymbolicValues.{Symbolic, Unknown, from_all}
use Rattle.pg_slice_values.specs.declared.symbolic_node.SymbolicNode.{SymbolicNode}
use Rattle.pg_slice_values.specs.declared.symbolic_node.SymbolicNode.TheVariants as symbolic_node
use Rattle.pg_slice_values.specs.SymbolicNodes.{IsSymbolicNode, blamed, number_by, symbolic_by}
use Rattle.pg_slice_values.specs.Forms.{node_at, numbers_from}

-- where not all are known, the first that isn't has the blame
pub all_blamed : (ns : NodeList) (ss : List SymbolicNode) (x : Decision) (H : (List ℤ → List (Option ℕ)) → Symbolic) → blamed ss ≡ Some x → from_all (map (symbolic_by ns) ss) H ≡ Unknown x
all_blamed ns [] x H e = absurd cc
all_blamed ns (symbolic_node.Known k j ∷ ss) x H e = all_blamed ns ss x (λ gs. H (λ input. number_by ns k input ∷ gs input)) e
all_blamed ns (symbolic_node.Bounded k y ∷ ss) x H e = let h : y ≡ x = cc in ap (λ z. Unknown z) h
all_blamed ns (symbolic_node.Unknown y ∷ ss) x H e = let h : y ≡ x = cc in ap (λ z. Unknown z) h

-- where all are known, their numbers are those of their nodes
pub all_known : (ns : NodeList) (ss : List SymbolicNode) (H : (List ℤ → List (Option ℕ)) → Symbolic) → blamed ss ≡ None → from_all (map (symbolic_by ns) ss) H ≡ H (numbers_from ns ss)
all_known ns [] H e = refl
all_known ns (symbolic_node.Known k j ∷ ss) H e = all_known ns ss (λ gs. H (λ input. number_by ns k input ∷ gs input)) e
all_known ns (symbolic_node.Bounded k y ∷ ss) H e = absurd cc
all_known ns (symbolic_node.Unknown y ∷ ss) H e = absurd cc

pub known_below : (n : ℕ) (ss : List SymbolicNode) (i : ℕ) → blamed ss ≡ None → AllByRecursion (IsSymbolicNode n) ss → i < length ss → node_at ss i < n
known_below n [] i e a h = absurd (omega arith)
known_below n (symbolic_node.Known k j ∷ ss) zero e a h = a.0.0
known_below n (symbolic_node.Known k j ∷ ss) (suc i) e a h = known_below n ss i e a.1 (omega arith)
known_below n (symbolic_node.Bounded k y ∷ ss) i e a h = absurd cc
known_below n (symbolic_node.Unknown y ∷ ss) i e a h = absurd cc

-- the number of an operand is that of its node
pub number_from : (ns : NodeList) (ss : List SymbolicNode) (input : List ℤ) (i : ℕ) → i < length ss → number_of (numbers_from ns ss input) i ≡ number_by ns (node_at ss i) input
number_from ns [] input i h = absurd (omega arith)
number_from ns (s ∷ ss) input zero h = refl
number_from ns (s ∷ ss) input (suc i) h = number_from ns ss input i (omega arith)

pub numbers_length : (ns : NodeList) (ss : List SymbolicNode) (input : List ℤ) → length (numbers_from ns ss input) ≡ length ss
numbers_length ns [] input = refl
numbers_length ns (s ∷ ss) input = let h = numbers_length ns ss input in omega arith
