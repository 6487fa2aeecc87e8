-- What the paths of a quiet set's accesses load is read by accesses of the set.
use Rattle.std.specs.Prelude.{◌≡◌, ℕ, List, Bool, false, Option, Some, None, Contains}
use Rattle.pg_ir.specs.Program.{NumberedProgram}
use Rattle.pg_ir.specs.WellFormed.{IsProgram}
use Rattle.pg_region_paths.specs.declared.path.Loads.{Loads}
use Rattle.pg_region_paths.specs.declared.path.Loads.TheVariants.{Never, Once, Twice, Thrice, FourTimes}
use Rattle.pg_region_paths.specs.declared.path.Root.{Root}
use Rattle.pg_region_accesses.specs.declared.rooted.Rooted.{Rooted}
use Rattle.pg_region_accesses.specs.Accesses.{RootedList, set_accesses}
use Rattle.pg_region_summaries.specs.Summaries.{AreSummaries}

-- the loads but the last
abbrev pub before_last : Loads → Option Loads
before_last Never = None
before_last (Once a) = Some Never
before_last (Twice a b) = Some (Once a)
before_last (Thrice a b c) = Some (Twice a b)
before_last (FourTimes a b c d) = Some (Thrice a b c)

-- one of the accesses reads at the end of the path with this root and these loads
abbrev pub HasLoad : RootedList → Root → Loads → Type 0
HasLoad xs g l = (b : Rooted) × Contains xs b × (b.writes ≡ false) × (b.path ≡ record { root = g; loads = l })

-- of each access's path that loads, the last load is itself one of the accesses
abbrev pub IsCovered : RootedList → Type 0
IsCovered xs = (a : Rooted) → Contains xs a → (l : Loads) → before_last a.path.loads ≡ Some l → HasLoad xs a.path.root l

abbrev pub QuietSetsAreCovered : Type 0
QuietSetsAreCovered = (p : NumberedProgram) (gated : ℕ → Bool) (sums : ℕ → Option RootedList) (may_return : Bool) (blocks : List ℕ) (xs : RootedList) → IsProgram p
    → AreSummaries p gated sums → set_accesses may_return p gated sums blocks ≡ Some xs → IsCovered xs
