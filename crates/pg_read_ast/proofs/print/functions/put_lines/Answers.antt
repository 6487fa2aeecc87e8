use Rattle.std.proofs.Common.{map}
use Rattle.pg_read_ast.specs.Text.{line_text}
use Rattle.pg_read_ast.specs.Numbers.{line_at, behind_line}
use Rattle.pg_read_ast.specs.Views.{line_of, type_item_of}
use Rattle.pg_read_ast.proofs.Counting.{going_step, going_text, going_next}
use Rattle.pg_read_ast.proofs.print.functions.put_lines.Goals as goal

pub loop-each-preserved : goal.loop-each-preserved
loop-each-preserved c = let ts = map type_item_of c.args.types.now in going_step line_of (behind_line ts)
    (line_at ts) line_text c.args.all.now c.loop-each.each-index c.args.out.now.items c.args.next.now c.loop-each.out.items c.loop-each.next
    c.each-item.result c.put_line.new.out.items c.put_line.new.next c.loop-each-test.true c.each-item.is c.in_ok-put_line.ensures.text c.in_ok-put_line.ensures.next c.loop-each.invariant

pub returns-clause-text : goal.returns-clause-text
returns-clause-text c = let ts = map type_item_of c.args.types.now in going_text line_of (behind_line ts)
    (line_at ts) line_text c.args.all.now c.loop-each.each-index c.args.out.now.items c.args.next.now c.loop-each.out.items c.loop-each.next c.loop-each-test.false c.loop-each.invariant

pub returns-clause-next : goal.returns-clause-next
returns-clause-next c = let ts = map type_item_of c.args.types.now in going_next line_of (behind_line ts)
    (line_at ts) line_text c.args.all.now c.loop-each.each-index c.args.out.now.items c.args.next.now c.loop-each.out.items c.loop-each.next c.loop-each-test.false c.loop-each.invariant
