use Rattle.std.proofs.Common.{◌≡◌, length}
use Rattle.pg_region_accesses.specs.Accesses.{summary_of}
use Rattle.pg_region_accesses.specs.Tables.{in_table}
use Rattle.pg_region_summaries.specs.Work.{AreWorked, is_done}
use Rattle.pg_region_summaries.proofs.summary.summaries.Given as goal

abbrev pub invariant-loop-size : goal.invariant-loop-size
invariant-loop-size l = record {
  count : length l.sums.items ≡ length l.p.functions;
  sums : AreWorked l.p (in_table l.work.gated.items) (summary_of l.sums.items) (is_done l.p l.work.started.items l.work.reaches.items l.size 0);
}
