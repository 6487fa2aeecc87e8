use Rattle.std.proofs.Common.{◌++◌, codes}
use Rattle.pg_read_ast.specs.Syntax.{tys}
use Rattle.pg_read_ast.specs.Text.{type_text, fields_text}
use Rattle.pg_read_ast.specs.Views.{ty_of}
use Rattle.pg_read_ast.proofs.Pieces.{on_ok, two_written, each_written, behind_first, row_written}
use Rattle.pg_read_ast.proofs.Rows.{fields_are}
use Rattle.pg_read_ast.proofs.print.types.+print_types.Goals as goal

pub put_fields-loop-field-preserved : goal.put_fields-loop-field-preserved
put_fields-loop-field-preserved t c = each_written (λ u. codes ", " ++ type_text u) ty_of (behind_first c.args.fields.now) c.loop-field.field-index c.field-item.result
    c.put_type.new.out.items c.loop-field.out.items c.put_type-in-loop-field.new.out.items c.loop-field-test.true c.field-item.is c.loop-field.invariant
    (two_written (codes ", ") (type_text (ty_of c.field-item.result)) c.loop-field.out.items c.put_text-in-loop-field.new.out.items c.put_type-in-loop-field.new.out.items
    c.in_ok-put_text-in-len1-up-2.ensures c.in_ok-put_type-in-len1-up-2.ensures)

pub put_fields-returns-after-loop-field : goal.put_fields-returns-after-loop-field
put_fields-returns-after-loop-field t c = on_ok c.put_text-in-len1-up-2.result _ _
    (λ last. row_written ty_of type_text (λ u. codes ", " ++ type_text u) (codes "{ ") (codes " }")
    (λ ts. codes "{" ++ fields_text (tys ts)) fields_are c.args.fields.now c.first-item.result c.loop-field.field-index
    c.args.out.now.items c.put_text-in-len1-up.new.out.items c.put_type.new.out.items c.loop-field.out.items c.put_text-in-len1-up-2.new.out.items
    c.in-len1-up.len_at_least c.first-item.is c.loop-field-test.false c.in_ok-put_text-in-len1-up.ensures c.in_ok-put_type-in-len1-up.ensures c.loop-field.invariant last)
    c.put_text-in-len1-up-2.ensures
