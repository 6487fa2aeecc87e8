-- The root paths of registers, within a set of basic blocks that is known by the registers that it sets.
use Rattle.std.specs.Prelude.{◌≡◌, ℕ, ◌==◌, ◌*ℤ◌, ℤ, pos, List, [], ◌∷◌, Bool, true, false, Option, Some, None, option_and_then, option_map, slice_get, if◌then◌else◌}
use Rattle.pg_ir.specs.pg_num.Numbers.{signed}
use Rattle.pg_ir.specs.pg_num.Pointers.{moved_by}
use Rattle.pg_ir.specs.pg_num.declared.width.Width.{Width}
use Rattle.pg_ir.specs.declared.value.Value.{Value}
use Rattle.pg_ir.specs.declared.value.Value.TheVariants as value
use Rattle.pg_ir.specs.declared.value.Index.{Index}
use Rattle.pg_ir.specs.declared.value.Scalar.{Scalar}
use Rattle.pg_ir.specs.declared.value.Scalar.TheVariants.{Int, Ptr}
use Rattle.pg_ir.specs.declared.value.Scale.{Scale}
use Rattle.pg_ir.specs.declared.value.Scale.TheVariants.{Times, Field}
use Rattle.pg_ir.specs.declared.instr.Instr.{Instr}
use Rattle.pg_ir.specs.declared.instr.Op.{Op}
use Rattle.pg_ir.specs.declared.instr.Op.TheVariants as op
use Rattle.pg_region_paths.specs.declared.path.Root.{Root}
use Rattle.pg_region_paths.specs.declared.path.Root.TheVariants as root
use Rattle.pg_region_paths.specs.declared.path.Path.{Path}
use Rattle.pg_region_paths.specs.Paths.{rooted, loaded}

-- ---- a getelementptr

-- by how many bytes a constant index moves a pointer
abbrev pub constant_bytes : Width → Scale → ℕ → ℤ
constant_bytes w (Times bytes) n = signed w n *ℤ pos bytes
constant_bytes w (Field bytes) n = pos bytes

-- an offset moved by an index, where both are constant; the offset is that of a null pointer's word
abbrev pub added_index : Option ℕ → Width → Scale → Value → Option ℕ
added_index (Some k) w s (value.Const n) = Some (moved_by k (constant_bytes w s n))
added_index k w s v = None

abbrev pub added_indices : Option ℕ → List Index → Option ℕ
added_indices k [] = k
added_indices k (i ∷ is) = added_indices (added_index k i.width i.scale i.value) is

abbrev pub moved : List Index → Path → Path
moved is p = record p { added = added_indices p.added is }

-- ---- the values of a block

abbrev pub is_register : Option ℕ → ℕ → Bool
is_register None r = false
is_register (Some s) r = s == r

abbrev pub is_pointer_type : Option Scalar → Bool
is_pointer_type (Some Ptr) = true
is_pointer_type _ = false

abbrev pub has_pointer : List Scalar → Option ℕ → Bool
has_pointer types None = false
has_pointer types (Some r) = is_pointer_type (slice_get types r)

-- the path of an operand, by those of the registers: a global and a constant are roots, a function's name has none
abbrev pub value_path : (ℕ → Option Path) → Value → Option Path
value_path f (value.Register r) = f r
value_path f (value.Const n) = Some (rooted (root.Const n))
value_path f (value.Global g) = Some (rooted (root.Global g))
value_path f (value.Function g) = None

-- the path of what an instruction sets, by those before it: a getelementptr has that of its base, a load of a pointer
-- that of its address and one load more, and nothing else has one
abbrev pub path_by : (ℕ → Option Path) → Bool → Op → Option Path
path_by f is_pointer (op.Gep base indices) = option_map (moved indices) (value_path f base)
path_by f true (op.Load w from) = option_and_then loaded (value_path f from)
path_by f is_pointer _ = None

-- the path of a register behind the instructions of a block that stand before, the nearest first: where none of them
-- sets it, it is a root unless the set of blocks sets it
abbrev pub register_path : (ℕ → Bool) → List Scalar → List Instr → ℕ → Option Path
register_path is_set types [] r = if is_set r then None else Some (rooted (root.Register r))
register_path is_set types (x ∷ before) r =
    if is_register x.result r then path_by (register_path is_set types before) (has_pointer types x.result) x.op
    else register_path is_set types before r

-- the path of an operand of an instruction, by the instructions of its block that stand before it
abbrev pub path_of : (ℕ → Bool) → List Scalar → List Instr → Value → Option Path
path_of is_set types before v = value_path (register_path is_set types before) v
