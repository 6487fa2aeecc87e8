use Rattle.std.proofs.Common.{◌≡◌, ◌<◌, ◌≤◌, length}
use Rattle.std.specs.Prelude.{All}
use Rattle.pg_region_summaries.specs.Blocks.{blocks_below}
use Rattle.pg_region_summaries.proofs.blocks.blocks_of.Given as goal

abbrev pub invariant-loop-b : goal.invariant-loop-b
invariant-loop-b l = record {
  upto : l.b ≤ length l.p.blocks;
  blocks : l.blocks.items ≡ blocks_below l.p l.f l.b;
  within : All (λ b. b < length l.p.blocks) l.blocks.items;
}
