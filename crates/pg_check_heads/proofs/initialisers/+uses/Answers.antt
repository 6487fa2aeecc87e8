use Rattle.std.proofs.Common.{◌++◌, map, sym, ap, ◌∙◌}
use Rattle.std.specs.List.{flat_map}
use Rattle.pg_read_ast.specs.Views.{ty_of, const_of, typed_const_of}
use Rattle.pg_read_ast.proofs.Pieces.{on_ok}
use Rattle.pg_check_rules.specs.Written.{const_uses}
use Rattle.pg_check_heads.specs.Initialisers.{uses_behind, use_row}
use Rattle.pg_check_values.proofs.TypeRows.{row_added}
use Rattle.pg_check_heads.proofs.ConstantRows.{part_ty, part_value, array_uses, struct_uses}
use Rattle.pg_check_heads.proofs.initialisers.+uses.Goals as goal

pub add_uses-returns-in-Array : goal.add_uses-returns-in-Array
add_uses-returns-in-Array m c =
    let front = uses_behind c.args.all.now.items in
    let t = ty_of c.args.ty.now in
    on_ok c.add_part_uses.result _ _
    (λ h. h ∙ ap (λ ps. front ++ flat_map use_row (map typed_const_of ps)) c.as_slice.ensures.value
    ∙ ap (λ us. front ++ us) (array_uses t c.in-Array.field-0 c.in-Array.parts)
    ∙ ap (λ x. front ++ const_uses t (const_of x)) (sym c.in-Array.is))
    c.add_part_uses.ensures

pub add_uses-returns-in-Struct : goal.add_uses-returns-in-Struct
add_uses-returns-in-Struct m c =
    let front = uses_behind c.args.all.now.items in
    let t = ty_of c.args.ty.now in
    on_ok c.add_part_uses-in-Struct.result _ _
    (λ h. h ∙ ap (λ ps. front ++ flat_map use_row (map typed_const_of ps)) c.as_slice-in-Struct.ensures.value
    ∙ ap (λ us. front ++ us) (struct_uses t c.in-Struct.field-0 c.in-Struct.parts)
    ∙ ap (λ x. front ++ const_uses t (const_of x)) (sym c.in-Struct.is))
    c.add_part_uses-in-Struct.ensures

pub add_part_uses-loop-part-preserved : goal.add_part_uses-loop-part-preserved
add_part_uses-loop-part-preserved m c =
    let all = uses_behind c.loop-part.all.items in
    row_added use_row typed_const_of c.args.parts.now c.loop-part.part-index c.part-item.result c.part-item.result (uses_behind c.args.all.now.items) all _
    c.loop-part-test.true c.part-item.is c.loop-part.invariant
    (c.in_ok-add_uses.ensures
    ∙ ap (λ t. all ++ const_uses t (const_of c.part-item.result.value)) (sym (part_ty c.part-item.result))
    ∙ ap (λ v. all ++ const_uses (typed_const_of c.part-item.result).ty v) (sym (part_value c.part-item.result)))
