use Rattle.std.proofs.Common.{◌++◌, ◌∷◌, map, sym, ap, ◌∙◌}
use Rattle.std.specs.List.{flat_map}
use Rattle.pg_read_ast.specs.Views.{const_of, typed_const_of}
use Rattle.pg_read_ast.proofs.Pieces.{on_ok}
use Rattle.pg_check_rules.specs.Nodes.{tys_behind}
use Rattle.pg_check_rules.specs.Written.{const_types}
use Rattle.pg_check_heads.specs.Initialisers.{type_row}
use Rattle.pg_check_values.proofs.TypeRows.{row_added}
use Rattle.pg_check_heads.proofs.ConstantRows.{part_ty, part_value, array_types, struct_types, one_and_others}
use Rattle.pg_check_heads.proofs.initialisers.+parts.Goals as goal

pub add_types-returns-in-Array : goal.add_types-returns-in-Array
add_types-returns-in-Array m c =
    let front = tys_behind c.args.all.now.items in
    on_ok c.add_part_types.result _ _
    (λ h. h ∙ ap (λ ps. front ++ flat_map type_row (map typed_const_of ps)) c.as_slice.ensures.value
    ∙ ap (λ us. front ++ us) (array_types c.in-Array.field-0 c.in-Array.parts)
    ∙ ap (λ x. front ++ const_types (const_of x)) (sym c.in-Array.is))
    c.add_part_types.ensures

pub add_types-returns-in-Struct : goal.add_types-returns-in-Struct
add_types-returns-in-Struct m c =
    let front = tys_behind c.args.all.now.items in
    on_ok c.add_part_types-in-Struct.result _ _
    (λ h. h ∙ ap (λ ps. front ++ flat_map type_row (map typed_const_of ps)) c.as_slice-in-Struct.ensures.value
    ∙ ap (λ us. front ++ us) (struct_types c.in-Struct.field-0 c.in-Struct.parts)
    ∙ ap (λ x. front ++ const_types (const_of x)) (sym c.in-Struct.is))
    c.add_part_types-in-Struct.ensures

pub add_part_types-loop-part-preserved : goal.add_part_types-loop-part-preserved
add_part_types-loop-part-preserved m c =
    let all = tys_behind c.loop-part.all.items in
    row_added type_row typed_const_of c.args.parts.now c.loop-part.part-index c.part-item.result c.part-item.result (tys_behind c.args.all.now.items) all _
    c.loop-part-test.true c.part-item.is c.loop-part.invariant
    (one_and_others c.loop-part.all.items _ _ _ _ c.in_ok-push.ensures.items c.in_ok-add_types.ensures
    ∙ ap (λ t. all ++ (t ∷ const_types (const_of c.part-item.result.value))) (sym (part_ty c.part-item.result))
    ∙ ap (λ v. all ++ ((typed_const_of c.part-item.result).ty ∷ const_types v)) (sym (part_value c.part-item.result)))
