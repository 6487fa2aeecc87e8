-- What symbolic values stand for by a list of nodes, and lists of nodes that grow.
use Rattle.std.specs.Prelude.{◌≡◌, ℕ, ◌<◌, ◌++◌, List, [], ◌∷◌, Option, Some, None}
use Rattle.pg_precondition.specs.Nodes.{NodeList}
use Rattle.pg_precondition.specs.Values.{number_of, numbers_of}
use Rattle.pg_slice_rules.specs.declared.decision.Decision.{Decision}
use Rattle.pg_slice_rules.specs.SymbolicValues.{OnInput, Symbolic, Known, Bounded, Unknown}
use Rattle.pg_slice_values.specs.declared.symbolic_node.SymbolicNode.{SymbolicNode}
use Rattle.pg_slice_values.specs.declared.symbolic_node.SymbolicNode.TheVariants as symbolic_node

abbrev pub SymbolicNodeList : Type 0
SymbolicNodeList = List SymbolicNode

-- the number of node k on each input
abbrev pub number_by : NodeList → ℕ → OnInput
number_by ns k = λ input. number_of (numbers_of input ns) k

-- what is known of a value, where the nodes are these
abbrev pub symbolic_by : NodeList → SymbolicNode → Symbolic
symbolic_by ns (symbolic_node.Known k j) = Known (number_by ns k) (number_by ns j)
symbolic_by ns (symbolic_node.Bounded k x) = Bounded (number_by ns k) x
symbolic_by ns (symbolic_node.Unknown x) = Unknown x

-- the symbolic value's nodes are among the first n
abbrev pub IsSymbolicNode : ℕ → SymbolicNode → Type 0
IsSymbolicNode n (symbolic_node.Known k j) = (k < n) × (j < n)
IsSymbolicNode n (symbolic_node.Bounded k x) = k < n
IsSymbolicNode n (symbolic_node.Unknown x) = Unit {0}

-- the new nodes are the old ones with more behind
pub record Grew (old new : NodeList) : Type 0 where
  pub behind : NodeList
  pub same : new ≡ old ++ behind

-- ---- parts of a symbolic value

-- the first decision that is blamed where not all are known
abbrev pub blamed : List SymbolicNode → Option Decision
blamed [] = None
blamed (symbolic_node.Known k j ∷ ss) = blamed ss
blamed (symbolic_node.Bounded k x ∷ ss) = Some x
blamed (symbolic_node.Unknown x ∷ ss) = Some x
