use Rattle.std.proofs.Common.{◌<◌, ◌≤◌, ℕ}
use Rattle.pg_region_summaries.specs.Reaches.{reach_at}
use Rattle.pg_region_summaries.proofs.reaches.largest.Given as goal

abbrev pub invariant-loop-reach : goal.invariant-loop-reach
invariant-loop-reach l = (f : ℕ) → f < l.reach-index → (reach_at l.reaches f).size ≤ l.largest
