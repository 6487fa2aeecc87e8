use Rattle.std.proofs.Common.{◌≡◌, ◌≤◌, ℕ, length, None}
use Rattle.pg_region_accesses.specs.Accesses.{summary_of}
use Rattle.pg_region_summaries.proofs.summary.none_of.Given as goal

abbrev pub invariant-loop : goal.invariant-loop
invariant-loop l = record {
  upto : l.counter ≤ l.count;
  count : length l.sums.items ≡ l.counter;
  none : (f : ℕ) → summary_of l.sums.items f ≡ None;
}
