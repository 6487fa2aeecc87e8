use Rattle.std.proofs.Common.{◌++◌, map, sym, ap, ◌∙◌}
use Rattle.std.specs.List.{flat_map}
use Rattle.pg_read_ast.specs.Views.{val_of, typed_of}
use Rattle.pg_check_rules.specs.Nodes.{tys_behind}
use Rattle.pg_check_rules.specs.Written.{Use, own_types, inner_uses}
use Rattle.pg_check_values.specs.Steps.{type_row}
use Rattle.pg_check_values.proofs.TypeRows.{on_ok, three_rows, two_rows, row_added}
use Rattle.pg_check_values.proofs.InnerValues.{gep_rows}
use Rattle.pg_check_values.proofs.TypedViews.{typed_value}
use Rattle.pg_check_values.proofs.own_types.+written.Goals as goal

pub add_inner-returns-in_ok-add_inner-in-GetElementPtr : goal.add_inner-returns-in_ok-add_inner-in-GetElementPtr
add_inner-returns-in_ok-add_inner-in-GetElementPtr m c =
    let p = c.in-GetElementPtr in
    let front = tys_behind c.args.all.now.items in
    on_ok c.add_inner_indices.result
    (λ h. three_rows front _ _ _ _ _ _
    (c.in_ok-add_own-in-GetElementPtr.ensures ∙ ap (λ x. front ++ own_types (val_of x)) c.deref.ensures)
    (c.in_ok-add_inner-in-GetElementPtr.ensures ∙ ap (λ x. tys_behind c.add_own.new.all.items ++ flat_map (λ (u : Use). own_types u.value) (inner_uses (val_of x)))
    c.deref-in-GetElementPtr.ensures)
    (h ∙ ap (λ is. tys_behind c.add_inner.new.all.items ++ flat_map type_row (map typed_of is)) c.as_slice.ensures.value)
    ∙ ap (λ ts. front ++ ts) (sym (gep_rows (λ (u : Use). own_types u.value) p.field-0 p.field-1 p.field-2 p.base p.indices))
    ∙ ap (λ x. front ++ flat_map (λ (u : Use). own_types u.value) (inner_uses (val_of x))) (sym p.is))
    c.add_inner_indices.ensures

pub add_inner_indices-loop-index-preserved : goal.add_inner_indices-loop-index-preserved
add_inner_indices-loop-index-preserved m c =
    let all = tys_behind c.loop-index.all.items in
    row_added type_row typed_of c.args.indices.now c.loop-index.index-index c.index-item.result c.index-item.result (tys_behind c.args.all.now.items) all _
    c.loop-index-test.true c.index-item.is c.loop-index.invariant
    (two_rows all _ _ _ _ c.in_ok-add_own.ensures c.in_ok-add_inner.ensures
    ∙ ap (λ v. all ++ (own_types v ++ flat_map (λ (u : Use). own_types u.value) (inner_uses v))) (sym (typed_value c.index-item.result)))
