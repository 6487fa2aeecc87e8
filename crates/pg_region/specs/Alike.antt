-- Branches that are alike: those of which it was found that they have the same region.
use Rattle.std.specs.Prelude.{◌≡◌, ℕ, ◌<◌, length, Bool, true, Option}
use Rattle.pg_cfg.specs.Alike.{AreAlike, IsAlike}
use Rattle.pg_ir.specs.Program.{NumberedProgram}
use Rattle.pg_region.specs.declared.alike.Alike.{Alike}
use Rattle.pg_region.specs.declared.alike.Found.{Found}
use Rattle.pg_region.specs.declared.alike.Found.TheVariants as found
use Rattle.pg_region.specs.declared.region.Region.{Region}
use Rattle.pg_region_accesses.specs.Accesses.{RootedList}
use Rattle.pg_region_accesses.specs.Tables.{in_table}
use Rattle.pg_region.specs.Finders.{FinderParts}
use Rattle.pg_region.specs.Regions.{RegionOf}

-- where there is a block before their join, the branches of the marked blocks that aren't loud are like the first one
abbrev pub AreKept : FinderParts → Alike → Type 0
AreKept f a = (x : ℕ) → in_table a.before.items x ≡ true → AreAlike f.flow f.loud a.first a.join a.before.items a.marks.items

-- two branches with the same nearest join and the same blocks before it
abbrev pub AreBothLike : FinderParts → ℕ → ℕ → Type 0
AreBothLike f b c = (j : ℕ) × IsAlike f.flow f.loud b j b × IsAlike f.flow f.loud b j c

-- the region of the branch of b, if it has one, is that of the branch of c
abbrev pub HasRegionOf : NumberedProgram → (ℕ → Bool) → (ℕ → Option RootedList) → ℕ → ℕ → Type 0
HasRegionOf p gated sums b c = (b < length p.blocks) × ((o : Option Region) → RegionOf p gated sums b o → RegionOf p gated sums c o)

-- what is found of the branch of c: its region, or another block whose branch has the same
abbrev pub IsFound : NumberedProgram → (ℕ → Bool) → (ℕ → Option RootedList) → ℕ → Found → Type 0
IsFound p gated sums c (found.Of o) = RegionOf p gated sums c o
IsFound p gated sums c (found.Like b) = HasRegionOf p gated sums b c
