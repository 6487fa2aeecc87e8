use Rattle.std.proofs.Common.{[], ◌∷◌, map, ap, ◌∙◌, arith}
use Rattle.pg_num.specs.declared.limits.TheConstants.{INSTRUCTION_LIMIT}
use Rattle.pg_read_ast.specs.Views.{define_of, tree_of}
use Rattle.pg_check_rules.specs.Numbered.{function_at}
use Rattle.pg_check_program.specs.FunctionRows.{function_row, numbered_item}
use Rattle.pg_check_program.specs.Room.{FunctionFits}
use Rattle.pg_check_program.proofs.BoundedNumbers.{one_fits}
use Rattle.pg_check_program.proofs.ProgramRows.{rows_pushed, rows_all, first_block_step, blocks_room}
use Rattle.pg_check_program.proofs.program.functions_of.Goals as goal

pub function_at-requires-clause-params : goal.function_at-requires-clause-params
function_at-requires-clause-params c =
    (one_fits (FunctionFits (tree_of c.args.globals.now.symbols.tree.now).types) define_of c.args.all.now c.loop-item.item-index c.item-item.result _ c.requires.fits.each c.loop-item-test.true c.item-item.is).params

pub function_at-requires-clause-blocks : goal.function_at-requires-clause-blocks
function_at-requires-clause-blocks c =
    let room = blocks_room c.args.all.now c.loop-item.item-index c.item-item.result _ c.loop-item.first INSTRUCTION_LIMIT c.loop-item-test.true c.item-item.is c.loop-item.invariant.first
    c.requires.fits.blocks in
    omega (arith, room)

pub block_behind-first-requires : goal.block_behind-first-requires
block_behind-first-requires c =
    blocks_room c.args.all.now c.loop-item.item-index c.item-item.result _ c.loop-item.first INSTRUCTION_LIMIT c.loop-item-test.true c.item-item.is c.loop-item.invariant.first c.requires.fits.blocks

pub loop-item-preserved : goal.loop-item-preserved
loop-item-preserved c =
    let m = tree_of c.args.globals.now.symbols.tree.now in
    let all = c.args.all.now in
    record {
      functions =
          rows_pushed (function_row m (map define_of all)) all c.loop-item.item-index c.item-item.result _ c.loop-item.found.items _ (c.in_ok-one.one ∷ [])
          c.loop-item-test.true c.item-item.is c.in_ok-push.ensures.items c.loop-item.invariant.functions
          (ap (λ f. f ∷ []) (c.in_ok-one.ensures.function ∙ ap (λ n. function_at m n (numbered_item m.types c.item-item.result)) c.loop-item.invariant.first));
      first = first_block_step all c.loop-item.item-index c.item-item.result _ c.loop-item.first c.block_behind-first.result c.loop-item-test.true c.item-item.is c.loop-item.invariant.first
          c.block_behind-first.ensures;
    }

pub returns : goal.returns
returns c = record {
  functions =
      rows_all (function_row (tree_of c.args.globals.now.symbols.tree.now) (map define_of c.args.all.now)) c.args.all.now c.loop-item.item-index c.loop-item.found.items c.loop-item-test.false
      c.loop-item.invariant.functions;
}
