use Rattle.std.proofs.Common.{map, ap}
use Rattle.pg_num.specs.declared.limits.TheConstants.{INSTRUCTION_LIMIT}
use Rattle.pg_read_ast.specs.Views.{define_of, tree_of}
use Rattle.pg_check_rules.specs.Numbered.{function_instrs}
use Rattle.pg_check_program.specs.FunctionRows.{instr_row, numbered_item}
use Rattle.pg_check_program.specs.Room.{FunctionFits}
use Rattle.pg_check_program.proofs.BoundedNumbers.{one_fits}
use Rattle.pg_check_program.proofs.ProgramRows.{rows_pushed, rows_all, first_block_step, blocks_room}
use Rattle.pg_check_program.proofs.program.instrs_of.Goals as goal

pub add_function-requires-clause-fits : goal.add_function-requires-clause-fits
add_function-requires-clause-fits c =
    one_fits (FunctionFits (tree_of c.args.globals.now.symbols.tree.now).types) define_of c.args.all.now c.loop-item.item-index c.item-item.result _ c.requires.fits.each c.loop-item-test.true
    c.item-item.is

pub add_function-requires-clause-room : goal.add_function-requires-clause-room
add_function-requires-clause-room c =
    blocks_room c.args.all.now c.loop-item.item-index c.item-item.result _ c.loop-item.first INSTRUCTION_LIMIT c.loop-item-test.true c.item-item.is c.loop-item.invariant.first c.requires.fits.blocks

pub block_behind-first-requires : goal.block_behind-first-requires
block_behind-first-requires c =
    blocks_room c.args.all.now c.loop-item.item-index c.item-item.result _ c.loop-item.first INSTRUCTION_LIMIT c.loop-item-test.true c.item-item.is c.loop-item.invariant.first c.requires.fits.blocks

pub loop-item-preserved : goal.loop-item-preserved
loop-item-preserved c =
    let m = tree_of c.args.globals.now.symbols.tree.now in
    let all = c.args.all.now in
    record {
      instrs =
          rows_pushed (instr_row m (map define_of all)) all c.loop-item.item-index c.item-item.result _ c.loop-item.found.items _
          (function_instrs m c.loop-item.first (numbered_item m.types c.item-item.result))
          c.loop-item-test.true c.item-item.is c.in_ok-add_function.ensures.instrs c.loop-item.invariant.instrs
          (ap (λ n. function_instrs m n (numbered_item m.types c.item-item.result)) c.loop-item.invariant.first);
      first = first_block_step all c.loop-item.item-index c.item-item.result _ c.loop-item.first c.block_behind-first.result c.loop-item-test.true c.item-item.is c.loop-item.invariant.first
          c.block_behind-first.ensures;
    }

pub returns : goal.returns
returns c = record {
  instrs =
      rows_all (instr_row (tree_of c.args.globals.now.symbols.tree.now) (map define_of c.args.all.now)) c.args.all.now c.loop-item.item-index c.loop-item.found.items c.loop-item-test.false
      c.loop-item.invariant.instrs;
}
