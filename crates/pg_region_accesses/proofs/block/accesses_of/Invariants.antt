use Rattle.std.proofs.Common.{◌≡◌, drop, []}
use Rattle.pg_region_paths.specs.RootPaths.{set_in, count_in}
use Rattle.pg_region_accesses.specs.Accesses.{gathered, block_accesses, summary_of}
use Rattle.pg_region_accesses.specs.Appends.{behind}
use Rattle.pg_region_accesses.specs.Tables.{in_table}
use Rattle.pg_region_accesses.proofs.block.accesses_of.Given as goal

abbrev pub invariant-loop-b : goal.invariant-loop-b
invariant-loop-b l = record {
  is_set : l.known.is_set ≡ l.initial.known.is_set;
  count : count_in l.known ≡ count_in l.initial.known;
  accesses :
      behind [] (gathered (block_accesses l.may_return l.p (in_table l.gated) (summary_of l.sums) (set_in l.initial.known)) l.blocks)
      ≡ behind l.accesses.items (gathered (block_accesses l.may_return l.p (in_table l.gated) (summary_of l.sums) (set_in l.initial.known)) (drop l.b-index l.blocks));
}
