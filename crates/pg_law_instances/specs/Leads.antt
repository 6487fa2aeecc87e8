-- Where the accesses of a region lead from a state, beside where they are recorded to lead.
use Rattle.std.specs.Prelude.{◌≡◌, ℕ, ◌+◌, ◌≤◌, ◌<◌, List, Bool, Option, Some, None, Contains, pos}
use Rattle.pg_num.specs.Places.{ByteRange}
use Rattle.pg_num.specs.Pointers.{moved_by}
use Rattle.pg_num.specs.declared.layout.TheConstants.{MEMORY_BYTES}
use Rattle.pg_ir.specs.Program.{NumberedProgram}
use Rattle.pg_region_paths.specs.declared.path.Path.{Path}
use Rattle.pg_region_paths.specs.Paths.{root_path_of}
use Rattle.pg_region_paths.specs.FollowedPaths.{PathPointers, followed}
use Rattle.pg_region_accesses.specs.declared.rooted.Rooted.{Rooted}
use Rattle.pg_slice_replay.specs.pg_slice_rules.Freeable.{FreeAccess, bounds_of}

-- ---- recorded bounds

-- bounds from which the path of a recorded access loads
pub record IsLoaded (xs : List FreeAccess) (bounds : ByteRange) : Type 0 where
  pub access : FreeAccess
  pub among : Contains xs access
  pub pointer : ℕ
  pub loads : Contains access.at.pointers pointer
  pub same : bounds_of pointer ≡ bounds

-- the bounds to which a recorded access leads, one that writes or one that reads
pub record IsReached (xs : List FreeAccess) (writes : Bool) (bounds : ByteRange) : Type 0 where
  pub access : FreeAccess
  pub among : Contains xs access
  pub kind : access.writes ≡ writes
  pub same : bounds_of access.at.last ≡ bounds

-- a range of bytes lies in another
pub record IsWithin (r bounds : ByteRange) : Type 0 where
  pub from : bounds.start ≤ r.start
  pub end : r.start + r.bytes ≤ bounds.start + bounds.bytes

-- ---- paths in a state

-- followed from these registers and in this memory, the path of an access loads from recorded bounds alone and leads to the
-- recorded bounds of an access of its kind
pub record Leads (p : NumberedProgram) (registers : ℕ → Option ℕ) (memory : ByteRange → ℕ) (xs : List FreeAccess) (a : Rooted) : Type 0 where
  pub at : PathPointers
  pub is : followed p registers memory a.path ≡ Some at
  pub loads : (w : ℕ) → Contains at.pointers w → IsLoaded xs (bounds_of w)
  pub last : IsReached xs a.writes (bounds_of at.last)

-- a number is a pointer that was moved by a constant; or it has the pointer's bounds, where it was moved by what isn't constant
abbrev pub IsMoved : ℕ → Option ℕ → ℕ → Type 0
IsMoved last (Some k) w = w ≡ moved_by last (pos k)
IsMoved last None w = bounds_of w ≡ bounds_of last

-- a number is what its path says, followed from these registers and in this memory, if it loads from recorded bounds alone
pub record HasPath (p : NumberedProgram) (registers : ℕ → Option ℕ) (memory : ByteRange → ℕ) (xs : List FreeAccess) (q : Path) (w : ℕ) : Type 0 where
  pub value : (at : PathPointers) → followed p registers memory (root_path_of q) ≡ Some at → ((v : ℕ) → Contains at.pointers v → IsLoaded xs (bounds_of v)) → IsMoved at.last q.added w

-- places in the bounds from which recorded paths load hold the numbers that they held in another memory
pub record KeepsCells (xs : List FreeAccess) (before memory : ByteRange → ℕ) : Type 0 where
  pub kept : (bounds r : ByteRange) → IsLoaded xs bounds → IsWithin r bounds → 0 < r.bytes → r.start + r.bytes ≤ MEMORY_BYTES → memory r ≡ before r
