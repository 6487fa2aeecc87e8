use Rattle.std.proofs.Common.{codes}
use Rattle.pg_read_ast.specs.Syntax.{consts}
use Rattle.pg_read_ast.specs.Views.{typed_const_of}
use Rattle.pg_read_ast.specs.Text.{consts_text, typed_const_text, more_const_text}
use Rattle.pg_read_ast.proofs.Pieces.{two_written, each_written, behind_first, joined_written}
use Rattle.pg_read_ast.proofs.Rows.{consts_are}
use Rattle.pg_read_ast.proofs.print.values.+print_constants.Goals as goal

pub put_consts-loop-each-preserved : goal.put_consts-loop-each-preserved
put_consts-loop-each-preserved t c = each_written more_const_text typed_const_of (behind_first c.args.all.now) c.loop-each.each-index c.each-item.result
    c.put_typed_const.new.out.items c.loop-each.out.items c.put_typed_const-in-loop-each.new.out.items c.loop-each-test.true c.each-item.is c.loop-each.invariant
    (two_written (codes ", ") (typed_const_text (typed_const_of c.each-item.result)) c.loop-each.out.items c.put_text.new.out.items c.put_typed_const-in-loop-each.new.out.items
    c.in_ok-put_text-in-len1-up.ensures c.in_ok-put_typed_const-in-len1-up-2.ensures)

pub put_consts-returns-after-loop-each : goal.put_consts-returns-after-loop-each
put_consts-returns-after-loop-each t c = joined_written typed_const_of typed_const_text more_const_text
    (λ ts. consts_text (consts ts)) consts_are c.args.all.now c.first-item.result c.loop-each.each-index
    c.args.out.now.items c.put_typed_const.new.out.items c.loop-each.out.items
    c.in-len1-up.len_at_least c.first-item.is c.loop-each-test.false c.in_ok-put_typed_const-in-len1-up.ensures c.loop-each.invariant
