use Rattle.std.proofs.Common.{map}
use Rattle.pg_read_ast.specs.Text.{block_text}
use Rattle.pg_read_ast.specs.Numbers.{block_at, behind_block}
use Rattle.pg_read_ast.specs.Views.{block_of, type_item_of}
use Rattle.pg_read_ast.proofs.Counting.{going_step, going_text}
use Rattle.pg_read_ast.proofs.print.functions.put_blocks.Goals as goal

pub loop-each-preserved : goal.loop-each-preserved
loop-each-preserved c = let ts = map type_item_of c.args.types.now in going_step block_of (behind_block ts)
    (block_at ts) block_text c.args.all.now c.loop-each.each-index c.args.out.now.items c.args.next.now c.loop-each.out.items c.loop-each.next
    c.each-item.result c.put_block.new.out.items c.put_block.new.next c.loop-each-test.true c.each-item.is c.in_ok-put_block.ensures.text c.in_ok-put_block.ensures.next c.loop-each.invariant

pub returns : goal.returns
returns c = let ts = map type_item_of c.args.types.now in going_text block_of (behind_block ts)
    (block_at ts) block_text c.args.all.now c.loop-each.each-index c.args.out.now.items c.args.next.now c.loop-each.out.items c.loop-each.next c.loop-each-test.false c.loop-each.invariant
