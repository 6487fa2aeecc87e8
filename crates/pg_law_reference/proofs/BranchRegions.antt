-- The regions of a program's branches, as closed decisions see them.
use Rattle.std.proofs.Common.{ℕ, Bool, Option, refl}
use Rattle.pg_region_accesses.specs.Accesses.{RootedList}
use Rattle.pg_slice_passes.specs.pg_slice_rules.Freeable.{Regions}
use Rattle.pg_ir.specs.Program.{NumberedProgram}
use Rattle.pg_ir.specs.WellFormed.{IsProgram}
use Rattle.pg_region_summaries.specs.Summaries.{AreSummaries}
use Rattle.pg_slice_passes.specs.pg_slice_replay.OfRegions.{AreRegions, branch_region}
use Rattle.pg_law_reference.proofs.RegionsExist.{region_of}
use Rattle.pg_law_reference.proofs.ShortSummaries.{short_calls}

pub regions_are : (p : NumberedProgram) (gated : ℕ → Bool) (sums : ℕ → Option RootedList) → IsProgram p → AreSummaries p gated sums
    → (regions : Regions) × AreRegions p gated sums regions
regions_are p gated sums program h =
    let short = short_calls p program gated sums h in (
      λ c. branch_region p (region_of p program gated sums short c).0,
      record {
        found = λ c. (region_of p program gated sums short c).0;
        right = λ c. (region_of p program gated sums short c).1;
        given = λ c. refl;
      },
    )
