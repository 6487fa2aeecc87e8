use Rattle.std.proofs.Common.{◌++◌, map, sym, ap, ◌∙◌}
use Rattle.std.specs.List.{flat_map}
use Rattle.pg_read_ast.specs.Views.{ty_of, val_of, typed_of}
use Rattle.pg_check_types.specs.Resolved.{is_pointer}
use Rattle.pg_check_types.specs.NumberedTypes.{named_types}
use Rattle.pg_check_types.proofs.Resolutions.{if_ok}
use Rattle.pg_check_rules.specs.Written.{asks, isnt_void, own_demands}
use Rattle.pg_check_rules.specs.TypeConditions.{unmet}
use Rattle.pg_check_rules.specs.Earliest.{earliest}
use Rattle.pg_check_values.specs.Uses.{integer_row}
use Rattle.pg_check_values.proofs.InnerValues.{gep_demands}
use Rattle.pg_check_values.proofs.uses.unmet_own.Goals as goal

pub returns-in-GetElementPtr : goal.returns-in-GetElementPtr
returns-in-GetElementPtr c = record {
  place =
      let types = named_types c.args.types.now in
      let p = c.in-GetElementPtr in
      if_ok c.unmet_walk.result
      (λ o h. h
      ∙ ap (λ is. earliest (unmet types (asks isnt_void (ty_of p.ty)) ++ (unmet types (asks is_pointer (ty_of p.pointer)) ++ flat_map (integer_row types) (map typed_of is))))
      c.as_slice.ensures.value
      ∙ ap (λ xs. earliest xs) (sym (gep_demands types p.field-0 p.ty p.pointer p.field-3 p.indices))
      ∙ ap (λ x. earliest (flat_map (unmet types) (own_demands (val_of x)))) (sym p.is))
      c.unmet_walk.ensures.place;
}
