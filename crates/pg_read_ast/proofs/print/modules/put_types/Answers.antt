use Rattle.pg_read_ast.specs.Text.{type_item_text}
use Rattle.pg_read_ast.specs.Views.{type_item_of}
use Rattle.pg_read_ast.proofs.Pieces.{each_written, all_written}
use Rattle.pg_read_ast.proofs.print.modules.put_types.Goals as goal

pub loop-each-preserved : goal.loop-each-preserved
loop-each-preserved c = each_written type_item_text type_item_of c.args.all.now c.loop-each.each-index c.each-item.result
    c.args.out.now.items c.loop-each.out.items c.put_type_item.new.out.items c.loop-each-test.true c.each-item.is c.loop-each.invariant c.in_ok-put_type_item.ensures

pub returns : goal.returns
returns c = all_written type_item_text type_item_of c.args.all.now c.loop-each.each-index c.args.out.now.items c.loop-each.out.items c.loop-each-test.false c.loop-each.invariant
