use Rattle.std.proofs.Common.{◌≡◌, ◌≤◌, length}
use Rattle.pg_region_summaries.specs.Callees.{calls_below}
use Rattle.pg_region_summaries.proofs.callees.calls.Given as goal

abbrev pub invariant-loop-f : goal.invariant-loop-f
invariant-loop-f l = record {
  upto : l.f ≤ length l.p.functions;
  graph : l.graph ≡ calls_below l.p l.f;
}
