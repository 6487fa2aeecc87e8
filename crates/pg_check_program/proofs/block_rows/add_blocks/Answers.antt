use Rattle.std.proofs.Common.{◌+◌, ◌++◌, length, map, drop, refl, ap, ◌∙◌}
use Rattle.pg_read_ast.specs.Views.{block_of}
use Rattle.pg_check_rules.specs.Numbered.{blocks_from}
use Rattle.pg_check_program.proofs.BlockLists.{block_step, blocks_end, count_step, count_end}
use Rattle.pg_check_program.proofs.block_rows.add_blocks.Goals as goal

pub loop-block-preserved : goal.loop-block-preserved
loop-block-preserved c = record {
  blocks =
      ap (λ xs. xs ++ blocks_from c.args.function (c.loop-block.at + length c.as_slice-lines.result.now) (map block_of (drop (c.loop-block.block-index + 1) c.args.blocks.now)))
      c.in_ok-push.ensures.items
      ∙ block_step c.args.function c.loop-block.at (c.loop-block.at + length c.as_slice-lines.result.now)
      (length c.as_slice-lines.result.now) c.loop-block.found.items c.args.blocks.now c.loop-block.block-index c.block-item.result _
      c.loop-block-test.true c.block-item.is (ap (λ ls. length ls) c.as_slice-lines.ensures.value) refl
      ∙ c.loop-block.invariant.blocks;
  next =
      count_step c.loop-block.at (c.loop-block.at + length c.as_slice-lines.result.now) (length c.as_slice-lines.result.now) c.args.blocks.now c.loop-block.block-index c.block-item.result _
      c.loop-block-test.true c.block-item.is (ap (λ ls. length ls) c.as_slice-lines.ensures.value) refl
      ∙ c.loop-block.invariant.next;
}

pub returns-clause-blocks : goal.returns-clause-blocks
returns-clause-blocks c = blocks_end c.args.function c.loop-block.at c.loop-block.found.items c.args.blocks.now c.loop-block.block-index c.loop-block-test.false ∙ c.loop-block.invariant.blocks

pub returns-clause-next : goal.returns-clause-next
returns-clause-next c = count_end c.loop-block.at c.args.blocks.now c.loop-block.block-index c.loop-block-test.false ∙ c.loop-block.invariant.next
