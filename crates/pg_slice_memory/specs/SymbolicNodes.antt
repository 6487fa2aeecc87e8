-- What the symbolic values of bytes and of numbers stand for, by a list of nodes.
use Rattle.std.specs.Prelude.{ℕ, ◌-◌, ◌<◌, ◌≤◌, if◌then◌else◌}
use Rattle.pg_num.specs.Places.{ByteRange}
use Rattle.pg_ir.specs.Program.{NumberedProgram}
use Rattle.pg_run_memory.specs.Initial.{initial_byte}
use Rattle.pg_precondition.specs.Nodes.{NodeList}
use Rattle.pg_slice_values.specs.pg_slice_rules.SymbolicValues.{Symbolic, Unknown, always, byte_in, is_within, valued}
use Rattle.pg_slice_memory.specs.declared.symbolic_node.SymbolicByte.{SymbolicByte}
use Rattle.pg_slice_memory.specs.declared.symbolic_node.SymbolicByte.TheVariants as byte
use Rattle.pg_slice_memory.specs.declared.symbolic_node.Held.{Held}
use Rattle.pg_slice_memory.specs.declared.symbolic_node.Held.TheVariants as held
use Rattle.pg_slice_values.specs.SymbolicNodes.{number_by}

-- what is known of a number
abbrev pub held_symbolic : NodeList → Held → Symbolic
held_symbolic ns (held.Known k) = valued (number_by ns k)
held_symbolic ns (held.Unknown x) = Unknown x

-- what is known of the byte at a place
abbrev pub byte_symbolic : NumberedProgram → NodeList → ℕ → SymbolicByte → Symbolic
byte_symbolic p ns b byte.Initial = always (initial_byte p.globals b)
byte_symbolic p ns b (byte.Part of at) = byte_in at (valued (number_by ns of))
byte_symbolic p ns b (byte.Unknown x) = Unknown x

-- byte k of a number
abbrev pub part_of : Held → ℕ → SymbolicByte
part_of (held.Known of) k = byte.Part of k
part_of (held.Unknown x) k = byte.Unknown x

-- bytes after those of a range became those of a number
abbrev pub changed : ByteRange → Held → (ℕ → SymbolicByte) → ℕ → SymbolicByte
changed r h f b = if is_within r b then part_of h (b - r.start) else f b

-- ---- which symbolic values there are

-- the node is one of the first n
abbrev pub IsHeld : ℕ → Held → Type 0
IsHeld n (held.Known k) = k < n
IsHeld n (held.Unknown x) = Unit {0}

-- the same of a byte
abbrev pub IsSymbolicNode : ℕ → SymbolicByte → Type 0
IsSymbolicNode n byte.Initial = Unit {0}
IsSymbolicNode n (byte.Part of at) = of < n
IsSymbolicNode n (byte.Unknown x) = Unit {0}

-- which bytes a number has: eight where it is known
abbrev pub IsPlaceIn : Held → ℕ → Type 0
IsPlaceIn (held.Known of) k = k ≤ 7
IsPlaceIn (held.Unknown x) k = Unit {0}

-- the same of a byte that is known
abbrev pub IsPart : SymbolicByte → Type 0
IsPart byte.Initial = Unit {0}
IsPart (byte.Part of at) = at ≤ 7
IsPart (byte.Unknown x) = Unit {0}
