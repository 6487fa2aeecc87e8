use Rattle.std.proofs.Common.{◌+◌, ◌≤◌, length, map, sum_by, sym, ap, subst, ◌∙◌}
use Rattle.pg_num.specs.declared.limits.TheConstants.{INSTRUCTION_LIMIT}
use Rattle.pg_read_ast.specs.Syntax.{Block}
use Rattle.pg_read_ast.specs.Views.{block_of, define_of}
use Rattle.pg_check_rules.specs.Names.{first_line}
use Rattle.pg_check_rules.specs.Numbered.{blocks_from}
use Rattle.pg_check_program.specs.FunctionRows.{block_row}
use Rattle.pg_check_program.proofs.ProgramRows.{rows_pushed, rows_all, first_line_step, lines_room}
use Rattle.pg_check_program.proofs.program.blocks_of.Goals as goal

pub add_blocks-requires : goal.add_blocks-requires
add_blocks-requires c =
    let room = lines_room c.args.all.now c.loop-item.item-index c.item-item.result _ c.loop-item.first INSTRUCTION_LIMIT c.loop-item-test.true c.item-item.is c.loop-item.invariant.first
    c.requires.lines in
    subst (λ xs. c.loop-item.first + sum_by (λ (b : Block). length b.lines) (map block_of xs) ≤ INSTRUCTION_LIMIT) (sym c.as_slice-blocks.ensures.value) room

pub loop-item-preserved : goal.loop-item-preserved
loop-item-preserved c =
    let all = c.args.all.now in
    let index = c.loop-item.item-index in
    let bs = c.as_slice-blocks.result.now in
    record {
      blocks =
          rows_pushed (block_row (map define_of all)) all index c.item-item.result _ c.loop-item.found.items _ (blocks_from c.loop-item.function c.loop-item.first (map block_of bs))
          c.loop-item-test.true c.item-item.is c.in_ok-first.ensures.blocks c.loop-item.invariant.blocks
          (ap (λ n. blocks_from n c.loop-item.first (map block_of bs)) c.loop-item.invariant.number
          ∙ ap (λ n. blocks_from index n (map block_of bs)) c.loop-item.invariant.first
          ∙ ap (λ xs. blocks_from index (first_line (map define_of all) index) (map block_of xs)) c.as_slice-blocks.ensures.value);
      number = ap (λ n. n + 1) c.loop-item.invariant.number;
      first = first_line_step all index c.item-item.result _ c.loop-item.first c.in_ok-first.first c.loop-item-test.true c.item-item.is c.loop-item.invariant.first
          (c.in_ok-first.ensures.next ∙ ap (λ xs. c.loop-item.first + sum_by (λ (b : Block). length b.lines) (map block_of xs)) c.as_slice-blocks.ensures.value);
    }

pub returns : goal.returns
returns c = rows_all (block_row (map define_of c.args.all.now)) c.args.all.now c.loop-item.item-index c.loop-item.found.items c.loop-item-test.false c.loop-item.invariant.blocks
