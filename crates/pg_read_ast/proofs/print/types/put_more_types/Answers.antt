use Rattle.std.proofs.Common.{◌++◌, codes}
use Rattle.pg_read_ast.specs.Text.{type_text}
use Rattle.pg_read_ast.specs.Views.{ty_of}
use Rattle.pg_read_ast.proofs.Pieces.{two_written, each_written, all_written}
use Rattle.pg_read_ast.proofs.print.types.put_more_types.Goals as goal

pub loop-each-preserved : goal.loop-each-preserved
loop-each-preserved c = each_written (λ u. codes ", " ++ type_text u) ty_of c.args.all.now c.loop-each.each-index c.each-item.result
    c.args.out.now.items c.loop-each.out.items c.put_type.new.out.items c.loop-each-test.true c.each-item.is c.loop-each.invariant
    (two_written (codes ", ") (type_text (ty_of c.each-item.result)) c.loop-each.out.items c.put_text.new.out.items c.put_type.new.out.items c.in_ok-put_text.ensures c.in_ok-put_type.ensures)

pub returns : goal.returns
returns c = all_written (λ u. codes ", " ++ type_text u) ty_of c.args.all.now c.loop-each.each-index c.args.out.now.items c.loop-each.out.items c.loop-each-test.false c.loop-each.invariant
