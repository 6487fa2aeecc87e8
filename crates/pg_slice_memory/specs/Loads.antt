-- Bytes that are read one after another, and the numbers that they make.
use Rattle.std.specs.Prelude.{◌≡◌, ℕ, ◌-◌, ◌==◌, ◌&&◌, ◌<◌, ◌^◌, ℤ, List, Bool, true, false, IfSome, length, slice_index_or}
use Rattle.pg_ir.specs.Program.{NumberedProgram}
use Rattle.pg_precondition.specs.Nodes.{NodeList}
use Rattle.pg_slice_values.specs.pg_slice_rules.SymbolicValues.{Symbolic, valued}
use Rattle.pg_slice_memory.specs.declared.symbolic_node.SymbolicByte.{SymbolicByte}
use Rattle.pg_slice_memory.specs.declared.symbolic_node.SymbolicByte.TheVariants as byte
use Rattle.pg_slice_values.specs.SymbolicNodes.{number_by}
use Rattle.pg_slice_memory.specs.SymbolicNodes.{IsPart, IsSymbolicNode, byte_symbolic}

-- byte k of those that were read
abbrev pub symbolic_node_in : List SymbolicByte → ℕ → SymbolicByte
symbolic_node_in xs k = slice_index_or xs k byte.Initial

-- what is known of each byte, where those from a place on were read
abbrev pub symbolics_from : NumberedProgram → NodeList → ℕ → List SymbolicByte → ℕ → Symbolic
symbolics_from p ns start xs b = byte_symbolic p ns b (symbolic_node_in xs (b - start))

abbrev pub is_known_byte : SymbolicByte → Bool
is_known_byte byte.Initial = true
is_known_byte (byte.Part of at) = true
is_known_byte (byte.Unknown x) = false

abbrev pub is_part : ℕ → ℕ → SymbolicByte → Bool
is_part v k (byte.Part of at) = of == v && at == k
is_part v k s = false

-- the first n bytes are known
pub record AreKnown (xs : List SymbolicByte) (n : ℕ) : Type 0 where
  pub each : (k : ℕ) → k < n → is_known_byte (symbolic_node_in xs k) ≡ true

-- they are as at the start
pub record AreInitial (xs : List SymbolicByte) (n : ℕ) : Type 0 where
  pub each : (k : ℕ) → k < n → symbolic_node_in xs k ≡ byte.Initial

-- they are those of one number, the lowest first
pub record ArePartsOf (v : ℕ) (xs : List SymbolicByte) (n : ℕ) : Type 0 where
  pub each : (k : ℕ) → k < n → symbolic_node_in xs k ≡ byte.Part v k

-- they name only the first m nodes
pub record AreNamed (m : ℕ) (xs : List SymbolicByte) (n : ℕ) : Type 0 where
  pub each : (k : ℕ) → k < n → IsSymbolicNode m (symbolic_node_in xs k) × IsPart (symbolic_node_in xs k)

-- a node whose number is that byte
pub record IsByteNode (ns : NodeList) (k : ℕ) (s : Symbolic) : Type 0 where
  pub below : k < length ns
  pub value : valued (number_by ns k) ≡ s
  pub small : (input : List ℤ) → IfSome (number_by ns k input) (λ n. n < 2 ^ 8)
