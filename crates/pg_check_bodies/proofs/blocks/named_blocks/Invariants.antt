use Rattle.std.proofs.Common.{◌≡◌, ◌++◌, map, drop}
use Rattle.pg_check_bodies.specs.BodyBlocks.{named_block, bare_blocks}
use Rattle.pg_check_bodies.proofs.blocks.named_blocks.Given as goal

abbrev pub invariant-loop-index : goal.invariant-loop-index
invariant-loop-index l = map named_block l.all.items ++ bare_blocks (drop l.index l.labels) (drop l.index l.blocks) ≡ bare_blocks l.labels l.blocks
