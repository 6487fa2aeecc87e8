use Rattle.std.proofs.Common.{◌≡◌, length}
use Rattle.pg_region_accesses.specs.Accesses.{summary_of}
use Rattle.pg_region_accesses.specs.Tables.{in_table}
use Rattle.pg_region_summaries.specs.Work.{AreWorked, is_done}
use Rattle.pg_region_summaries.proofs.summary.Work.work_all.Given as goal

abbrev pub invariant-loop-f : goal.invariant-loop-f
invariant-loop-f l = record {
  count : length l.sums.items ≡ length l.p.functions;
  sums : AreWorked l.p (in_table l.self.gated.items) (summary_of l.sums.items) (is_done l.p l.self.started.items l.self.reaches.items l.size l.f);
}
