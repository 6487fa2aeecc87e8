-- Sizes, alignments and offsets of types, in bytes.
use Rattle.std.specs.Prelude.{ℕ, ◌+◌, ◌-◌, ◌*◌, ◌/◌, max, List, [], ◌∷◌, ◌++◌, Option, Some, None}
pub use Rattle.pg_read_ast.specs.pg_num.Numbers.{bytes_of}
use Rattle.pg_check_types.specs.Resolved.{ResolvedType, IntegerType, PointerType, VoidType, ArrayType, NoFields, MoreFields}

-- the next multiple of an alignment
abbrev pub round_up : ℕ → ℕ → ℕ
round_up n alignment = (n + (alignment - 1)) / alignment * alignment

-- an array has its element's alignment, a structure the greatest of its fields, 1 if it has none
unfoldable pub alignment_of : ResolvedType → ℕ
alignment_of (IntegerType w) = bytes_of w
alignment_of PointerType = 8
alignment_of VoidType = 1
alignment_of (ArrayType n t) = alignment_of t
alignment_of NoFields = 1
alignment_of (MoreFields s t) = max (alignment_of s) (alignment_of t)

-- each field is at the next multiple of its alignment, and a structure's end is rounded up to its own
unfoldable mutual
  pub size_of : ResolvedType → ℕ
  size_of (IntegerType w) = bytes_of w
  size_of PointerType = 8
  size_of VoidType = 0
  size_of (ArrayType n t) = n * size_of t
  size_of NoFields = 0
  size_of (MoreFields s t) = round_up (round_up (fields_end s) (alignment_of t) + size_of t) (max (alignment_of s) (alignment_of t))

  -- where the last field of a structure ends
  pub fields_end : ResolvedType → ℕ
  fields_end (MoreFields s t) = round_up (fields_end s) (alignment_of t) + size_of t
  fields_end _ = 0

-- the offset at which a further field is
abbrev pub next_offset : ResolvedType → ResolvedType → ℕ
next_offset s t = round_up (fields_end s) (alignment_of t)

-- the fields in order, and their offsets
abbrev pub field_list : ResolvedType → List ResolvedType
field_list (MoreFields s t) = field_list s ++ t ∷ []
field_list _ = []

abbrev pub field_offsets : ResolvedType → List ℕ
field_offsets (MoreFields s t) = field_offsets s ++ next_offset s t ∷ []
field_offsets _ = []

-- the size of a type, and 0 of one that is nothing
abbrev pub size_or_none : Option ResolvedType → ℕ
size_or_none (Some t) = size_of t
size_or_none None = 0
