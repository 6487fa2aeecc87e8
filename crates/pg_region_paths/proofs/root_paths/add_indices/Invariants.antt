use Rattle.std.proofs.Common.{◌≡◌, drop}
use Rattle.std.specs.List.{AllByRecursion}
use Rattle.pg_region_paths.specs.Registers.{added_indices}
use Rattle.pg_region_paths.specs.Fits.{FitsConstant}
use Rattle.pg_region_paths.proofs.root_paths.add_indices.Given as goal

abbrev pub invariant-loop-index : goal.invariant-loop-index
invariant-loop-index l = record {
  value : added_indices l.added (drop l.index-index l.indices) ≡ added_indices l.fn.offset l.indices;
  fits : AllByRecursion FitsConstant (drop l.index-index l.indices);
}
