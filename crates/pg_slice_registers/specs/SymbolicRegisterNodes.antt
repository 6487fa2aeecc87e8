-- What the symbolic values of registers and of calls stand for by a list of nodes.
use Rattle.std.specs.Prelude.{ℕ, List, [], ◌∷◌, map, reverse, Bool, true, false, slice_index_or}
use Rattle.std.specs.List.{AllByRecursion}
use Rattle.pg_precondition.specs.Nodes.{NodeList}
use Rattle.pg_ir.specs.declared.instr.Op.{Op}
use Rattle.pg_ir.specs.declared.instr.Op.TheVariants as op
use Rattle.pg_slice_rules.specs.SymbolicValues.{Symbolic, moved, result_of, unset}
use Rattle.pg_slice_values.specs.declared.symbolic_node.SymbolicNode.{SymbolicNode}
use Rattle.pg_slice_values.specs.SymbolicNodes.{IsSymbolicNode, symbolic_by}

-- of the registers of a call
abbrev pub registers_by : NodeList → List SymbolicNode → List Symbolic
registers_by ns rs = map (symbolic_by ns) rs

-- each symbolic value's node is one of the first n
abbrev pub AreSymbolicNodes : ℕ → List SymbolicNode → Type 0
AreSymbolicNodes n rs = AllByRecursion (IsSymbolicNode n) rs

-- the calls of a thread, the present one first
abbrev pub CallList : Type 0
CallList = List (List SymbolicNode)

abbrev pub calls_by : NodeList → CallList → List (List Symbolic)
calls_by ns calls = map (registers_by ns) calls

abbrev pub AreCalls : ℕ → CallList → Type 0
AreCalls n calls = AllByRecursion (AreSymbolicNodes n) calls

-- the registers of the present call
abbrev pub top_symbolic_nodes : CallList → List SymbolicNode
top_symbolic_nodes [] = []
top_symbolic_nodes (rs ∷ calls) = rs

-- the calls under the present one
abbrev pub under_symbolic_nodes : CallList → CallList
under_symbolic_nodes [] = []
under_symbolic_nodes (rs ∷ calls) = calls

-- the calls of a thread, unless it has ended, by the present one and its callers from the first one on
abbrev pub calls_of : List SymbolicNode → CallList → Bool → CallList
calls_of present callers true = []
calls_of present callers false = present ∷ reverse callers

-- the numbers that a table marks
abbrev pub marked : List Bool → ℕ → Bool
marked bs k = slice_index_or bs k false

-- the result of an operation that only computes, by its operands: a moved pointer has the bounds of its base
abbrev pub result_by : Op → List Symbolic → Symbolic
result_by (op.Gep base indices) ss = moved (slice_index_or ss 0 unset) (result_of (op.Gep base indices) ss)
result_by o ss = result_of o ss
