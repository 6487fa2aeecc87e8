use Rattle.std.proofs.Common.{◌++◌, map, sym, ap, ◌∙◌}
use Rattle.std.specs.List.{flat_map}
use Rattle.pg_read_ast.specs.Views.{val_of, typed_of}
use Rattle.pg_check_rules.specs.Written.{Use, inner_uses}
use Rattle.pg_check_rules.specs.ValueConditions.{unknown_value}
use Rattle.pg_check_rules.specs.Earliest.{earliest}
use Rattle.pg_check_rules.proofs.Parts.{no_place}
use Rattle.pg_check_rules.proofs.Rows.{row_step}
use Rattle.pg_check_values.specs.Steps.{index_row}
use Rattle.pg_check_values.proofs.EarliestPlaces.{both}
use Rattle.pg_check_values.proofs.InnerValues.{gep_rows}
use Rattle.pg_check_values.proofs.TypedViews.{typed_value}
use Rattle.pg_check_values.proofs.names.+unknown.Goals as goal

pub unknown_indices-loop-index-init : goal.unknown_indices-loop-index-init
unknown_indices-loop-index-init t c = λ g s. no_place

pub unknown_indices-loop-index-preserved : goal.unknown_indices-loop-index-preserved
unknown_indices-loop-index-preserved t c = λ g s.
    row_step (index_row (λ (u : Use). unknown_value g u.value)) typed_of c.args.indices.now c.loop-index.index-index c.index-item.result c.index-item.result
    c.loop-index.found c.earlier-own.result c.earlier-found.result c.loop-index-test.true c.index-item.is (c.loop-index.invariant g s)
    (both _ _ _ _ _ c.earlier-own.ensures (c.unknown_value.ensures g s) (c.unknown_within-within.ensures g s)
    ∙ ap (λ v. earliest (unknown_value g v ++ flat_map (λ (u : Use). unknown_value g u.value) (inner_uses v))) (sym (typed_value c.index-item.result)))
    c.earlier-found.ensures

pub unknown_within-returns-in-GetElementPtr : goal.unknown_within-returns-in-GetElementPtr
unknown_within-returns-in-GetElementPtr t c = λ g s.
    let p = c.in-GetElementPtr in
    both _ _ _ _ _ c.earlier.ensures
    (both _ _ _ _ _ c.earlier-first.ensures
    (c.unknown_value.ensures g s ∙ ap (λ x. earliest (unknown_value g (val_of x))) c.deref-in-GetElementPtr.ensures)
    (c.unknown_within-within.ensures g s ∙ ap (λ x. earliest (flat_map (λ (u : Use). unknown_value g u.value) (inner_uses (val_of x)))) c.deref.ensures))
    (c.unknown_indices.ensures g s ∙ ap (λ is. earliest (flat_map (index_row (λ (u : Use). unknown_value g u.value)) (map typed_of is))) c.as_slice.ensures.value)
    ∙ ap (λ xs. earliest xs) (sym (gep_rows (λ (u : Use). unknown_value g u.value) p.field-0 p.field-1 p.field-2 p.base p.indices))
    ∙ ap (λ x. earliest (flat_map (λ (u : Use). unknown_value g u.value) (inner_uses (val_of x)))) (sym p.is)
