use Rattle.std.proofs.Common.{◌≡◌, ◌+◌, ◌≤◌, drop}
use Rattle.pg_ir.specs.Edges.{instrs_of}
use Rattle.pg_region_accesses.specs.Accesses.{summary_of}
use Rattle.pg_region_summaries.specs.declared.limits.TheConstants.{SUMMARY_LIMIT}
use Rattle.pg_region_summaries.specs.Counts.{instrs_count}
use Rattle.pg_region_summaries.proofs.count.count_block.Given as goal

abbrev pub invariant-loop-k : goal.invariant-loop-k
invariant-loop-k l = record {
  few : l.count ≤ SUMMARY_LIMIT;
  count : l.before + instrs_count (summary_of l.sums) (instrs_of l.p l.fn.b.0) ≡ l.count + instrs_count (summary_of l.sums) (drop l.k (instrs_of l.p l.fn.b.0));
}
