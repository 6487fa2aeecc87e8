-- The symbolic values of bytes after changes of some of them, one after another.
use Rattle.std.specs.Prelude.{ℕ, List, [], ◌∷◌}
use Rattle.pg_num.specs.Places.{ByteRange}
use Rattle.pg_ir.specs.Program.{NumberedProgram}
use Rattle.pg_precondition.specs.Nodes.{NodeList}
use Rattle.pg_slice_values.specs.pg_slice_rules.SymbolicValues.{Symbolic}
use Rattle.pg_slice_memory.specs.declared.symbolic_node.SymbolicByte.{SymbolicByte}
use Rattle.pg_slice_memory.specs.declared.symbolic_node.SymbolicByte.TheVariants as byte
use Rattle.pg_slice_memory.specs.declared.change.Change.{Change}
use Rattle.pg_slice_memory.specs.SymbolicNodes.{IsSymbolicNode, byte_symbolic, changed}

-- the changes of a memory, the first of them first
abbrev pub Changes : Type 0
Changes = List Change

abbrev pub range_of : Change → ByteRange
range_of c = record { start = c.start; bytes = c.bytes }

unfoldable pub symbolic_nodes_after : (ℕ → SymbolicByte) → Changes → ℕ → SymbolicByte
symbolic_nodes_after f [] = f
symbolic_nodes_after f (c ∷ cs) = symbolic_nodes_after (changed (range_of c) c.to f) cs

-- the symbolic value of each byte after these changes; before the first each byte is as at the start
abbrev pub symbolic_nodes_of : Changes → ℕ → SymbolicByte
symbolic_nodes_of cs = symbolic_nodes_after (λ b. byte.Initial) cs

-- what is known of each byte
abbrev pub symbolics_of : NumberedProgram → NodeList → Changes → ℕ → Symbolic
symbolics_of p ns cs = λ b. byte_symbolic p ns b (symbolic_nodes_of cs b)

-- the bytes name only the first n nodes
pub record AreSymbolicNodes (n : ℕ) (cs : Changes) : Type 0 where
  pub names : (b : ℕ) → IsSymbolicNode n (symbolic_nodes_of cs b)
