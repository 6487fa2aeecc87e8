-- Where the paths of a region's accesses lead at a step, as it is kept.
use Rattle.std.specs.Prelude.{◌≡◌, ℕ, pos, List, [], ◌∷◌, ◌++◌, length, take, Bool, true, false, Option, Some, None}
use Rattle.pg_num.specs.Places.{ByteRange}
use Rattle.pg_num.specs.Pointers.{byte_place, moved_by}
use Rattle.pg_ir.specs.Program.{NumberedProgram}
use Rattle.pg_run_memory.specs.Memory.{read}
use Rattle.pg_region_paths.specs.declared.path.RootPath.{RootPath}
use Rattle.pg_region_paths.specs.FollowedPaths.{PathPointers, cell_at, followed}
use Rattle.pg_region_paths.specs.Paths.{offsets_of}
use Rattle.pg_region_accesses.specs.declared.rooted.Rooted.{Rooted}
use Rattle.pg_law_effects.specs.pg_run.Readers.{register_of}
use Rattle.pg_law_effects.specs.pg_run.State.{State}
use Rattle.pg_slice_rules.specs.Freeable.{FreeAccess, one_access}
use Rattle.pg_slice_replay.specs.declared.at.At.{At}
use Rattle.pg_slice_replay.specs.OfRegions.{free_access}

-- the cell of a load, so many bytes from a pointer
abbrev pub cell_of : ℕ → ℕ → ByteRange
cell_of word k = record { start = byte_place (moved_by word (pos k)); bytes = 8 }

-- what a load reads, so many bytes from a pointer, or that it traps
abbrev pub IsLoaded : (ByteRange → ℕ) → ℕ → ℕ → Option ℕ → Type 0
IsLoaded memory word k None = cell_at word k ≡ None
IsLoaded memory word k (Some n) = (cell_at word k ≡ Some (cell_of word k)) × (n ≡ memory (cell_of word k))

-- the cells of loads by their pointers and offsets
abbrev pub cells_of : List ℕ → List ℕ → List ByteRange
cells_of [] ks = []
cells_of (w ∷ ws) [] = []
cells_of (w ∷ ws) (k ∷ ks) = cell_of w k ∷ cells_of ws ks

-- a path with loads at these offsets, as it was followed
abbrev pub along : List ℕ → At → PathPointers
along ks a = record { pointers = take (length ks) a.pointers; cells = cells_of (take (length ks) a.pointers) ks; last = a.last }

-- an access of a region with its path as it was followed
abbrev pub access_at : Rooted → At → FreeAccess
access_at a x = record { writes = a.writes; path = a.path; at = along (offsets_of a.path.loads) x }

-- accesses with their paths, in order
abbrev pub accesses_with : List Rooted → List At → List FreeAccess
accesses_with [] xs = []
accesses_with (a ∷ us) [] = []
accesses_with (a ∷ us) (x ∷ xs) = access_at a x ∷ accesses_with us xs

-- a path followed by a thread's registers and by memory
abbrev pub followed_in : NumberedProgram → State → ℕ → RootPath → Option PathPointers
followed_in p s t path = followed p (register_of s t) (read s.memory) path

-- each access with its path, if each path can be followed
abbrev pub accesses_in : NumberedProgram → State → ℕ → List Rooted → Option (List FreeAccess)
accesses_in p s t [] = Some []
accesses_in p s t (a ∷ us) = one_access (free_access a) (followed_in p s t a.path) (accesses_in p s t us)

-- what is added for accesses, if each path can be followed; else something is
pub record Added (p : NumberedProgram) (s : State) (t : ℕ) (us : List Rooted) (old new xs : List At) : Type 0 where
  pub behind : new ≡ old ++ xs
  pub count : length xs ≡ length us
  pub given : accesses_in p s t us ≡ Some (accesses_with us xs)

pub record NotAdded (p : NumberedProgram) (s : State) (t : ℕ) (us : List Rooted) (old new xs : List At) : Type 0 where
  pub behind : new ≡ old ++ xs
  pub none : accesses_in p s t us ≡ None

abbrev pub Adds : NumberedProgram → State → ℕ → List Rooted → List At → Bool → List At → Type 0
Adds p s t us old true new = (xs : List At) × Added p s t us old new xs
Adds p s t us old false new = (xs : List At) × NotAdded p s t us old new xs
