use Rattle.std.proofs.Common.{◌≡◌, ◌+◌, ◌≤◌, drop}
use Rattle.pg_region_accesses.specs.Accesses.{summary_of}
use Rattle.pg_region_summaries.specs.declared.limits.TheConstants.{SUMMARY_LIMIT}
use Rattle.pg_region_summaries.specs.Counts.{blocks_count}
use Rattle.pg_region_summaries.proofs.count.has_few.Given as goal

abbrev pub invariant-loop-b : goal.invariant-loop-b
invariant-loop-b l = record {
  few : l.count ≤ SUMMARY_LIMIT;
  count : blocks_count l.p (summary_of l.sums) l.blocks ≡ l.count + blocks_count l.p (summary_of l.sums) (drop l.b-index l.blocks);
}
