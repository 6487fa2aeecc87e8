use Rattle.std.proofs.Common.{◌++◌, map, sym, ap, ◌∙◌}
use Rattle.std.specs.List.{flat_map}
use Rattle.pg_read_ast.specs.Views.{ty_of, val_of, typed_of}
use Rattle.pg_check_rules.specs.Written.{constant_at, inner_uses}
use Rattle.pg_check_rules.specs.ValueConditions.{wrong_use}
use Rattle.pg_check_rules.specs.Earliest.{earliest}
use Rattle.pg_check_rules.proofs.Parts.{no_place}
use Rattle.pg_check_rules.proofs.Rows.{row_step}
use Rattle.pg_check_values.specs.Steps.{index_row}
use Rattle.pg_check_values.proofs.EarliestPlaces.{both}
use Rattle.pg_check_values.proofs.InnerValues.{gep_rows}
use Rattle.pg_check_values.proofs.TypedViews.{typed_ty, typed_value}
use Rattle.pg_check_values.proofs.uses.+wrong.Goals as goal

pub wrong_index_uses-loop-index-init : goal.wrong_index_uses-loop-index-init
wrong_index_uses-loop-index-init t c = λ g s. no_place

pub wrong_index_uses-loop-index-preserved : goal.wrong_index_uses-loop-index-preserved
wrong_index_uses-loop-index-preserved m c = λ g s.
    row_step (index_row (wrong_use g)) typed_of c.args.indices.now c.loop-index.index-index c.index-item.result c.index-item.result
    c.loop-index.found c.earlier.result c.earlier-found.result c.loop-index-test.true c.index-item.is (c.loop-index.invariant g s)
    (both _ _ _ _ _ c.earlier.ensures (c.in_ok-own.ensures.place g s) (c.in_ok-within.ensures.place g s)
    ∙ ap (λ y. earliest (wrong_use g (constant_at y (val_of c.index-item.result.value)) ++ flat_map (wrong_use g) (inner_uses (val_of c.index-item.result.value))))
    (sym (typed_ty c.index-item.result))
    ∙ ap (λ v. earliest (wrong_use g (constant_at (typed_of c.index-item.result).ty v) ++ flat_map (wrong_use g) (inner_uses v))) (sym (typed_value c.index-item.result)))
    c.earlier-found.ensures

pub wrong_within-returns-in_ok-others-in-GetElementPtr : goal.wrong_within-returns-in_ok-others-in-GetElementPtr
wrong_within-returns-in_ok-others-in-GetElementPtr m c = record {
  place = λ g s.
      let p = c.in-GetElementPtr in
      both _ _ _ _ _ c.earlier-in-GetElementPtr.ensures
      (both _ _ _ _ _ c.earlier.ensures
      (c.in_ok-own-in-GetElementPtr.ensures.place g s ∙ ap (λ x. earliest (wrong_use g (constant_at (ty_of p.pointer) (val_of x)))) c.deref.ensures)
      (c.in_ok-within-in-GetElementPtr.ensures.place g s ∙ ap (λ x. earliest (flat_map (wrong_use g) (inner_uses (val_of x)))) c.deref-in-GetElementPtr.ensures))
      (c.in_ok-others-in-GetElementPtr.ensures.place g s ∙ ap (λ is. earliest (flat_map (index_row (wrong_use g)) (map typed_of is))) c.as_slice.ensures.value)
      ∙ ap (λ xs. earliest xs) (sym (gep_rows (wrong_use g) p.field-0 p.field-1 p.pointer p.base p.indices))
      ∙ ap (λ x. earliest (flat_map (wrong_use g) (inner_uses (val_of x)))) (sym p.is);
}
