-- A root path followed in memory: registers have numbers or were never set, and each place of eight bytes has a number.
use Rattle.std.specs.Prelude.{ℕ, List, [], ◌∷◌, pos, Option, Some, None, Result, Ok, Err, option_map, option_and_then, slice_get}
use Rattle.pg_ir.specs.pg_num.Places.{ByteRange}
use Rattle.pg_ir.specs.pg_num.Pointers.{pointer_of, moved_by, place_of}
use Rattle.pg_ir.specs.pg_num.declared.places.PlaceFault.{PlaceFault}
pub use Rattle.pg_ir.specs.Program.{pointer_to}
use Rattle.pg_ir.specs.Program.{NumberedProgram}
use Rattle.pg_region_paths.specs.declared.path.Root.{Root}
use Rattle.pg_region_paths.specs.declared.path.Root.TheVariants as root
use Rattle.pg_region_paths.specs.declared.path.RootPath.{RootPath}
use Rattle.pg_region_paths.specs.Paths.{offsets_of}

-- the value of a root; a parameter has one only in a call
abbrev pub root_value : NumberedProgram → (ℕ → Option ℕ) → Root → Option ℕ
root_value p registers (root.Global g) = pointer_to (slice_get p.globals g)
root_value p registers (root.Const n) = Some n
root_value p registers (root.Register r) = registers r
root_value p registers (root.Param k) = None

-- the cell at which a load reads, so many bytes from a pointer; where the access would trap there is none
abbrev pub cell_in : Result ByteRange PlaceFault → Option ByteRange
cell_in (Err fault) = None
cell_in (Ok cell) = Some cell

abbrev pub cell_at : ℕ → ℕ → Option ByteRange
cell_at word k = cell_in (place_of (moved_by word (pos k)) 8)

-- a path that was followed: the pointers from which its loads read, each with its cell, and the last pointer
pub record PathPointers : Type 0 where
  pub pointers : List ℕ
  pub cells : List ByteRange
  pub last : ℕ

abbrev pub behind : ℕ → ByteRange → Option PathPointers → Option PathPointers
behind word cell None = None
behind word cell (Some f) = Some (record { pointers = word ∷ f.pointers; cells = cell ∷ f.cells; last = f.last })

-- the loads from a pointer, none of which traps
abbrev pub followed_from : (ByteRange → ℕ) → ℕ → List ℕ → Option PathPointers
followed_from memory word [] = Some (record { pointers = []; cells = []; last = word })
followed_from memory word (k ∷ ks) = option_and_then (λ cell. behind word cell (followed_from memory (memory cell) ks)) (cell_at word k)

-- a root path, followed in memory as it is
abbrev pub followed : NumberedProgram → (ℕ → Option ℕ) → (ByteRange → ℕ) → RootPath → Option PathPointers
followed p registers memory path = option_and_then (λ word. followed_from memory word (offsets_of path.loads)) (root_value p registers path.root)

-- the bytes within a pointer's bounds, from its start on
pub record Bounds : Type 0 where
  pub start : ℕ
  pub length : ℕ

abbrev pub bounds_of : ℕ → Bounds
bounds_of word = record { start = (pointer_of word).start; length = (pointer_of word).length }
