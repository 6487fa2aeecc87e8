use Rattle.std.proofs.Common.{◌≡◌, ◌<◌, ℕ, length}
use Rattle.pg_region_summaries.specs.Spans.{span_at, Covers}
use Rattle.pg_region_summaries.proofs.span.spans.Given as goal

abbrev pub invariant-loop-b : goal.invariant-loop-b
invariant-loop-b l = record {
  size : length l.spans.items ≡ length l.p.functions;
  covers : (f : ℕ) → f < length l.p.functions → Covers l.p l.b f (span_at l.spans.items f);
}
