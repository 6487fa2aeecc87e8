use Rattle.std.proofs.Common.{◌++◌, codes}
use Rattle.pg_read_ast.specs.Text.{param_text}
use Rattle.pg_read_ast.specs.Numbers.{param_at, behind_param}
use Rattle.pg_read_ast.specs.Views.{param_of}
use Rattle.pg_read_ast.proofs.Counting.{going_step, going_text, going_next}
use Rattle.pg_read_ast.proofs.Pieces.{two_written}
use Rattle.pg_read_ast.proofs.print.functions.put_more_params.Goals as goal

pub loop-each-preserved : goal.loop-each-preserved
loop-each-preserved c = going_step param_of behind_param param_at (λ p. codes ", " ++ param_text p) c.args.all.now c.loop-each.each-index c.args.out.now.items c.args.next.now
    c.loop-each.out.items c.loop-each.next
    c.each-item.result c.put_param.new.out.items c.put_param.new.next c.loop-each-test.true c.each-item.is
    (two_written (codes ", ") (param_text (param_at c.loop-each.next (param_of c.each-item.result))) c.loop-each.out.items c.put_text.new.out.items c.put_param.new.out.items
    c.in_ok-put_text.ensures c.in_ok-put_param.ensures.text) c.in_ok-put_param.ensures.next c.loop-each.invariant

pub returns-clause-text : goal.returns-clause-text
returns-clause-text c = going_text param_of behind_param param_at (λ p. codes ", " ++ param_text p) c.args.all.now c.loop-each.each-index c.args.out.now.items c.args.next.now
    c.loop-each.out.items c.loop-each.next c.loop-each-test.false c.loop-each.invariant

pub returns-clause-next : goal.returns-clause-next
returns-clause-next c = going_next param_of behind_param param_at (λ p. codes ", " ++ param_text p) c.args.all.now c.loop-each.each-index c.args.out.now.items c.args.next.now
    c.loop-each.out.items c.loop-each.next c.loop-each-test.false c.loop-each.invariant
