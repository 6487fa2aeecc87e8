use Rattle.std.proofs.Common.{◌+◌, map, drop, refl, sym, subst, ◌∙◌, List, arith}
use Rattle.pg_read_ast.specs.declared.nodes.LineNode.{LineNode}
use Rattle.pg_read_ast.specs.Views.{line_of, block_of}
use Rattle.pg_check_program.specs.ScopeNames.{scope_in}
use Rattle.pg_check_program.proofs.LineSteps.{block_lines_step, block_lines_end}
use Rattle.pg_check_program.specs.Room.{Each, LineFits, BlockFits}
use Rattle.pg_check_program.specs.ScopeSizes.{types_in}
use Rattle.pg_check_program.proofs.BoundedNumbers.{one_fits}
use Rattle.pg_check_program.proofs.line_rows.add_block_lines.Goals as goal

pub add_lines-requires : goal.add_lines-requires
add_lines-requires c =
    let types = types_in c.args.scope.now in
    record {
      fits =
          subst (λ (ls : List LineNode). Each (LineFits types) (map line_of ls)) (sym c.as_slice-lines.ensures.value)
          (one_fits (BlockFits types) block_of c.args.blocks.now c.loop-block.block-index c.block-item.result _ c.requires.fits c.loop-block-test.true c.block-item.is);
    }

pub loop-block-preserved : goal.loop-block-preserved
loop-block-preserved c = record {
  instrs = λ own.
      block_lines_step (scope_in c.args.scope.now own) c.args.scope.now.first c.loop-block.number (c.loop-block.number + 1) (drop c.loop-block.at c.args.names.now)
      (drop c.in_ok-at.at c.args.names.now) c.loop-block.found.items _ c.as_slice-lines.result.now c.args.blocks.now c.loop-block.block-index c.block-item.result _
      c.loop-block-test.true c.block-item.is refl c.as_slice-lines.ensures.value (c.in_ok-at.ensures.instrs own) c.in_ok-at.ensures.names
      ∙ c.loop-block.invariant.instrs own;
  number = omega (arith, c.loop-block.invariant.number);
}

pub returns : goal.returns
returns c = record {
  instrs = λ own.
      block_lines_end (scope_in c.args.scope.now own) c.args.scope.now.first c.loop-block.number
      (drop c.loop-block.at c.args.names.now) c.loop-block.found.items c.args.blocks.now c.loop-block.block-index c.loop-block-test.false
      ∙ c.loop-block.invariant.instrs own;
}
