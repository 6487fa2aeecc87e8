-- The regions of a program's branches, as closed decisions see them.
use Rattle.std.specs.Prelude.{◌≡◌, ℕ, ◌||◌, map, Bool, Option, Some, None}
use Rattle.std.specs.List.{list_any}
use Rattle.pg_ir.specs.declared.instr.Instr.{Instr}
use Rattle.pg_ir.specs.Edges.{phis_of}
use Rattle.pg_ir.specs.Program.{NumberedProgram}
use Rattle.pg_region_paths.specs.Registers.{is_register}
use Rattle.pg_region_accesses.specs.declared.rooted.Rooted.{Rooted}
use Rattle.pg_region_accesses.specs.Accesses.{RootedList, sets}
use Rattle.pg_region.specs.declared.region.Region.{Region}
use Rattle.pg_region.specs.Regions.{RegionOf}
use Rattle.pg_slice_rules.specs.Freeable.{BranchRegion, RegionAccess, Regions}

abbrev pub free_access : Rooted → RegionAccess
free_access a = record { writes = a.writes; path = a.path }

-- a phi of a block sets this register
abbrev pub phis_set : NumberedProgram → ℕ → ℕ → Bool
phis_set p b k = list_any (λ (x : Instr). is_register x.result k) (phis_of p b)

-- registers that an instruction or a phi of the region sets, or a phi of the join
abbrev pub may_set : NumberedProgram → Region → ℕ → Bool
may_set p r k = sets p r.blocks.items k || phis_set p r.join k

abbrev pub branch_region : NumberedProgram → Option Region → Option BranchRegion
branch_region p None = None
branch_region p (Some r) = Some (record { join = r.join; sets = may_set p r; accesses = map free_access r.accesses.items })

-- each block's branch has this region
pub record AreRegions (p : NumberedProgram) (gated : ℕ → Bool) (sums : ℕ → Option RootedList) (regions : Regions) : Type 0 where
  pub found : ℕ → Option Region
  pub right : (c : ℕ) → RegionOf p gated sums c (found c)
  pub given : (c : ℕ) → regions c ≡ branch_region p (found c)
