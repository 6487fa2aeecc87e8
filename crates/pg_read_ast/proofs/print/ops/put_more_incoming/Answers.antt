use Rattle.std.proofs.Common.{codes}
use Rattle.pg_read_ast.specs.Text.{incoming_text, more_incoming_text}
use Rattle.pg_read_ast.specs.Views.{incoming_of}
use Rattle.pg_read_ast.proofs.Pieces.{two_written, each_written, all_written}
use Rattle.pg_read_ast.proofs.print.ops.put_more_incoming.Goals as goal

pub loop-each-preserved : goal.loop-each-preserved
loop-each-preserved c = each_written more_incoming_text incoming_of c.args.all.now c.loop-each.each-index c.each-item.result
    c.args.out.now.items c.loop-each.out.items c.put_incoming.new.out.items c.loop-each-test.true c.each-item.is c.loop-each.invariant
    (two_written (codes ", ") (incoming_text (incoming_of c.each-item.result)) c.loop-each.out.items c.put_text.new.out.items c.put_incoming.new.out.items c.in_ok-put_text.ensures
    c.in_ok-put_incoming.ensures)

pub returns : goal.returns
returns c = all_written more_incoming_text incoming_of c.args.all.now c.loop-each.each-index c.args.out.now.items c.loop-each.out.items c.loop-each-test.false c.loop-each.invariant
