-- The paths of registers as they are kept: an entry counts if it was put since the block was entered.
use Rattle.std.specs.Prelude.{◌≡◌, ℕ, ◌==◌, ◌≤◌, List, [], ◌∷◌, length, Bool, false, Option, Some, None, slice_get, slice_index_or, if◌then◌else◌}
use Rattle.pg_region_paths.specs.declared.entry.Entry.{Entry}
use Rattle.pg_region_paths.specs.declared.path.Root.{Root}
use Rattle.pg_region_paths.specs.declared.path.Root.TheVariants as root
use Rattle.pg_region_paths.specs.declared.path.Path.{Path}
use Rattle.pg_region_paths.specs.Paths.{rooted}

-- the registers that a set of blocks sets, the entries of registers that blocks set, and the number of the present block
pub record KnownPaths : Type 0 where
  pub is_set : List Bool
  pub entries : List Entry
  pub turn : ℕ

-- the path of a register that the present block hasn't set
abbrev pub root_at : (ℕ → Bool) → ℕ → Option Path
root_at is_set r = if is_set r then None else Some (rooted (root.Register r))

abbrev pub entry_path : (ℕ → Bool) → ℕ → Option Entry → ℕ → Option Path
entry_path is_set turn None r = root_at is_set r
entry_path is_set turn (Some e) r = if e.turn == turn then e.path else root_at is_set r

abbrev pub is_in : List Bool → ℕ → Bool
is_in set r = slice_index_or set r false

-- whether the set of blocks sets a register
abbrev pub set_in : KnownPaths → ℕ → Bool
set_in k r = is_in k.is_set r

-- the path of a register
abbrev pub path_in : KnownPaths → ℕ → Option Path
path_in k r = entry_path (set_in k) k.turn (slice_get k.entries r) r

-- how many registers there are
abbrev pub count_in : KnownPaths → ℕ
count_in k = length k.entries

abbrev pub IsPast : ℕ → Option Entry → Type 0
IsPast turn None = Unit {0}
IsPast turn (Some e) = e.turn ≤ turn

pub record ArePast (entries : List Entry) (turn : ℕ) : Type 0 where
  pub past : (r : ℕ) → IsPast turn (slice_get entries r)
