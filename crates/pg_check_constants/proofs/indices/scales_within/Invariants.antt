use Rattle.std.proofs.Common.{◌≡◌, ◌++◌, drop, IfSome}
use Rattle.pg_check_types.specs.Known.{denoted, IsWithin}
use Rattle.pg_check_types.specs.NumberedTypes.{table_of}
use Rattle.pg_check_constants.specs.Indices.{scales_within}
use Rattle.pg_check_constants.specs.Sizes.{AllFit}
use Rattle.pg_check_constants.proofs.indices.scales_within.Given as goal

abbrev pub invariant-loop-index : goal.invariant-loop-index
invariant-loop-index l = record {
  within : IsWithin (table_of l.types) l.current;
  fits : IfSome (denoted (table_of l.types) l.current) AllFit;
  whole : l.scales.items ++ scales_within (denoted (table_of l.types) l.current) (drop l.index-index l.indices) ≡ scales_within (denoted (table_of l.types) l.fn.number) l.indices;
}
