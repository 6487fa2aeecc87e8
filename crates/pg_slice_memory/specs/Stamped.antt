-- How many changes there were when each byte was last changed.
use Rattle.std.specs.Prelude.{◌≡◌, ℕ, zero, suc, ◌-◌, ◌<◌, ◌≤◌, Option, Some, None, IfSome, length, slice_get}
use Rattle.pg_stamps.specs.declared.stamps.Stamps.{Stamps}
use Rattle.pg_stamps.specs.declared.stamps.TheConstants.{PLACE_COUNT}
use Rattle.pg_stamps.specs.Marks.{greatest_at}
use Rattle.pg_slice_memory.specs.declared.symbolic_node.SymbolicByte.{SymbolicByte}
use Rattle.pg_slice_memory.specs.declared.symbolic_node.SymbolicByte.TheVariants as byte
use Rattle.pg_slice_memory.specs.declared.change.Change.{Change}
use Rattle.pg_slice_memory.specs.SymbolicNodes.{IsPlaceIn, part_of}
use Rattle.pg_slice_memory.specs.Changes.{Changes, symbolic_nodes_of}

-- the symbolic value that a change gave a byte
abbrev pub symbolic_node_in : Option Change → ℕ → SymbolicByte
symbolic_node_in None b = byte.Initial
symbolic_node_in (Some c) b = part_of c.to (b - c.start)

-- the symbolic value that the last of the first n changes gave a byte
abbrev pub symbolic_node_by : Changes → ℕ → ℕ → SymbolicByte
symbolic_node_by cs zero b = byte.Initial
symbolic_node_by cs (suc i) b = symbolic_node_in (slice_get cs i) b

-- a byte of a change
abbrev pub IsIn : ℕ → Change → Type 0
IsIn b c = (c.start ≤ b) × IsPlaceIn c.to (b - c.start)

abbrev pub IsInLast : Changes → ℕ → ℕ → Type 0
IsInLast cs zero b = Unit {0}
IsInLast cs (suc i) b = IfSome (slice_get cs i) (IsIn b)

-- the change with which there were n was the last of a byte
pub record IsLast (cs : Changes) (n b : ℕ) : Type 0 where
  pub among : n ≤ length cs
  pub symbolic_node : symbolic_nodes_of cs b ≡ symbolic_node_by cs n b
  pub inside : IsInLast cs n b

-- the stamps of these changes
pub record AreStamps (cs : Changes) (s : Stamps) : Type 0 where
  pub last : (b : ℕ) → b < PLACE_COUNT → IsLast cs (greatest_at s b) b
  pub behind : (b : ℕ) → PLACE_COUNT ≤ b → symbolic_nodes_of cs b ≡ byte.Initial
