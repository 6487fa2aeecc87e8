use Rattle.std.proofs.Common.{map, sym, ap, ◌∙◌}
use Rattle.pg_read_ast.specs.Views.{ty_of, val_of, typed_of}
use Rattle.pg_check_types.specs.NumberedTypes.{named_types}
use Rattle.pg_check_types.proofs.Resolutions.{if_ok}
use Rattle.pg_check_rules.specs.ValueConditions.{wrong_indices, inner_indices}
use Rattle.pg_check_rules.specs.Earliest.{earliest}
use Rattle.pg_check_values.proofs.InnerValues.{gep_indices}
use Rattle.pg_check_values.proofs.uses.wrong_own_indices.Goals as goal

pub returns-in-GetElementPtr : goal.returns-in-GetElementPtr
returns-in-GetElementPtr c = record {
  place =
      let types = named_types c.args.types.now in
      let p = c.in-GetElementPtr in
      if_ok c.wrong_indices.result
      (λ o h. h
      ∙ ap (λ is. earliest (wrong_indices types (ty_of p.ty) (map typed_of is))) c.as_slice.ensures.value
      ∙ ap (λ xs. earliest xs) (sym (gep_indices types p.field-0 p.ty p.field-2 p.field-3 p.indices))
      ∙ ap (λ x. earliest (inner_indices types (val_of x))) (sym p.is))
      c.wrong_indices.ensures.place;
}
