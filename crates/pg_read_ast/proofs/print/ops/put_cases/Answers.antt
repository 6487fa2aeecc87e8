use Rattle.pg_read_ast.specs.Text.{case_text}
use Rattle.pg_read_ast.specs.Views.{case_of}
use Rattle.pg_read_ast.proofs.Pieces.{each_written, all_written}
use Rattle.pg_read_ast.proofs.print.ops.put_cases.Goals as goal

pub loop-each-preserved : goal.loop-each-preserved
loop-each-preserved c = each_written case_text case_of c.args.all.now c.loop-each.each-index c.each-item.result
    c.args.out.now.items c.loop-each.out.items c.put_case.new.out.items c.loop-each-test.true c.each-item.is c.loop-each.invariant c.in_ok-put_case.ensures

pub returns : goal.returns
returns c = all_written case_text case_of c.args.all.now c.loop-each.each-index c.args.out.now.items c.loop-each.out.items c.loop-each-test.false c.loop-each.invariant
