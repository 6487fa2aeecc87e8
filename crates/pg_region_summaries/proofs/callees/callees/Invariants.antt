use Rattle.std.proofs.Common.{◌≡◌, ◌++◌, drop}
use Rattle.pg_region_summaries.specs.Callees.{blocks_calls}
use Rattle.pg_region_summaries.proofs.callees.callees.Given as goal

abbrev pub invariant-loop-b : goal.invariant-loop-b
invariant-loop-b l = blocks_calls l.p l.blocks ≡ l.callees.items ++ blocks_calls l.p (drop l.b-index l.blocks)
