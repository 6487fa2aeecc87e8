use Rattle.std.proofs.Common.{◌≡◌, ◌+◌, ◌++◌, length, map, drop, sum_by}
use Rattle.pg_read_ast.specs.Syntax.{Block}
use Rattle.pg_read_ast.specs.Views.{block_of}
use Rattle.pg_check_rules.specs.Numbered.{blocks_from}
use Rattle.pg_check_program.proofs.block_rows.add_blocks.Given as goal

abbrev pub invariant-loop-block : goal.invariant-loop-block
invariant-loop-block l = record {
  blocks : l.found.items ++ blocks_from l.function l.at (map block_of (drop l.block-index l.blocks)) ≡ l.fn.found.items ++ blocks_from l.function l.fn.first (map block_of l.blocks);
  next : l.at + sum_by (λ (b : Block). length b.lines) (map block_of (drop l.block-index l.blocks)) ≡ l.fn.first + sum_by (λ (b : Block). length b.lines) (map block_of l.blocks);
}
