use Rattle.std.proofs.Common.{◌≡◌, ◌++◌, rules, map, codes, flat_map, ap, sym, ◌∙◌}
use Rattle.pg_read_ast.specs.Syntax.{GepVal, vals}
use Rattle.pg_read_ast.specs.Views.{ty_of, val_of, typed_of}
use Rattle.pg_read_ast.specs.Text.{val_text, gep_head, typed_text, more_typed_text}
use Rattle.pg_read_ast.proofs.Folded.{gep_view}
use Rattle.pg_read_ast.proofs.Pieces.{two_written, four_written, each_written, all_written, on_ok}
use Rattle.pg_read_ast.proofs.Rows.{gep_is}
use Rattle.pg_read_ast.proofs.print.values.+print_values.Goals as goal

pub put_val-returns-in_ok-put_more_typed-in-GetElementPtr : goal.put_val-returns-in_ok-put_more_typed-in-GetElementPtr
put_val-returns-in_ok-put_more_typed-in-GetElementPtr t c =
    let g = c.in-GetElementPtr in
    let all = map typed_of g.indices.items in
    let e : val_of c.args.node.now ≡ GepVal g.field-0 (ty_of g.ty) (ty_of g.pointer_type) (val_of g.pointer.value) (vals all) =
    ap val_of g.is ∙ gep_view g.field-0 g.ty g.pointer_type g.pointer g.indices in
    let b : c.put_val.new.out.items ≡ c.put_gep_head.new.out.items ++ val_text (val_of g.pointer.value) = search rules in
    let d : c.put_more_typed.new.out.items ≡ c.put_val.new.out.items ++ flat_map more_typed_text all = search rules in
    on_ok c.put_text-in-GetElementPtr.result _ _
    (λ last. four_written (gep_head (ty_of g.ty) (ty_of g.pointer_type)) (val_text (val_of g.pointer.value)) (flat_map more_typed_text all) (codes ")")
    c.args.out.now.items c.put_gep_head.new.out.items c.put_val.new.out.items c.put_more_typed.new.out.items c.put_text-in-GetElementPtr.new.out.items
    c.in_ok-put_gep_head-in-GetElementPtr.ensures b d last
    ∙ ap (λ x. c.args.out.now.items ++ x) (gep_is g.field-0 (ty_of g.ty) (ty_of g.pointer_type) (val_of g.pointer.value) all ∙ ap (λ v. val_text v) (sym e)))
    c.put_text-in-GetElementPtr.ensures

pub put_more_typed-loop-each-preserved : goal.put_more_typed-loop-each-preserved
put_more_typed-loop-each-preserved t c = each_written more_typed_text typed_of c.args.all.now c.loop-each.each-index c.each-item.result
    c.args.out.now.items c.loop-each.out.items c.put_typed.new.out.items c.loop-each-test.true c.each-item.is c.loop-each.invariant
    (two_written (codes ", ") (typed_text (typed_of c.each-item.result)) c.loop-each.out.items c.put_text.new.out.items c.put_typed.new.out.items c.in_ok-put_text.ensures c.in_ok-put_typed.ensures)

pub put_more_typed-returns : goal.put_more_typed-returns
put_more_typed-returns t c = all_written more_typed_text typed_of c.args.all.now c.loop-each.each-index c.args.out.now.items c.loop-each.out.items c.loop-each-test.false c.loop-each.invariant
