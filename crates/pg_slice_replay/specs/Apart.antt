-- No store of a region meets what its paths load.
use Rattle.std.specs.Prelude.{◌≡◌, ℕ, ◌&&◌, List, ◌++◌, length, Bool, true, false, Option, Some, None, if◌then◌else◌}
use Rattle.std.specs.List.{list_any}
use Rattle.pg_ir.specs.Program.{NumberedProgram}
use Rattle.pg_region_accesses.specs.declared.rooted.Rooted.{Rooted}
use Rattle.pg_run_trace.specs.Races.{share}
use Rattle.pg_law_effects.specs.pg_run.State.{State}
use Rattle.pg_slice_rules.specs.Freeable.{FreeAccess, bounds_of, stores_on}
use Rattle.pg_slice_replay.specs.declared.at.At.{At}
use Rattle.pg_slice_replay.specs.Paths.{accesses_in, accesses_with}

-- an access writes, and its bounds share a byte with those of a pointer
abbrev pub stores_to : ℕ → FreeAccess → Bool
stores_to word a = a.writes && share (bounds_of a.at.last) (bounds_of word)

abbrev pub is_stored : List FreeAccess → ℕ → Bool
is_stored xs word = list_any (stores_to word) xs

-- accesses, unless a store's bounds meet those from which a path loads
abbrev pub apart : Option (List FreeAccess) → Option (List FreeAccess)
apart None = None
apart (Some xs) = if list_any (stores_on xs) xs then None else Some xs

-- what is added for a region's accesses, if they are apart
pub record AddedApart (p : NumberedProgram) (s : State) (t : ℕ) (us : List Rooted) (old new xs : List At) : Type 0 where
  pub behind : new ≡ old ++ xs
  pub count : length xs ≡ length us
  pub given : apart (accesses_in p s t us) ≡ Some (accesses_with us xs)

-- what is added where they aren't
pub record AddedInVain (p : NumberedProgram) (s : State) (t : ℕ) (us : List Rooted) (old new xs : List At) : Type 0 where
  pub behind : new ≡ old ++ xs
  pub none : apart (accesses_in p s t us) ≡ None

abbrev pub TriesApart : NumberedProgram → State → ℕ → List Rooted → List At → Bool → List At → Type 0
TriesApart p s t us old true new = (xs : List At) × AddedApart p s t us old new xs
TriesApart p s t us old false new = (xs : List At) × AddedInVain p s t us old new xs

abbrev pub AddsApart : NumberedProgram → State → ℕ → List Rooted → List At → Bool → List At → Type 0
AddsApart p s t us old true new = (xs : List At) × AddedApart p s t us old new xs
AddsApart p s t us old false new = (new ≡ old) × (apart (accesses_in p s t us) ≡ None)

-- a store's bounds share a byte with those of a pointer from which the access loads
abbrev pub loads_stored : List FreeAccess → FreeAccess → Bool
loads_stored xs b = list_any (is_stored xs) b.at.pointers
