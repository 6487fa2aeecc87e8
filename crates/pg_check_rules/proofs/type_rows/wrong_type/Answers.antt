use Rattle.std.proofs.Common.{map, sym, ap, ◌∙◌}
use Rattle.std.specs.List.{flat_map}
use Rattle.pg_read_ast.specs.Views.{ty_of}
use Rattle.pg_check_types.specs.NumberedTypes.{named_types}
use Rattle.pg_check_types.proofs.Resolutions.{if_ok}
use Rattle.pg_check_types.proofs.StructView.{struct_view}
use Rattle.pg_check_rules.specs.Earliest.{earliest}
use Rattle.pg_check_rules.specs.TypeConditions.{void_part, wrong_type}
use Rattle.pg_check_rules.proofs.TypeLists.{list_of_tys}
use Rattle.pg_check_rules.proofs.type_rows.wrong_type.Goals as goal

pub returns-in-Struct : goal.returns-in-Struct
returns-in-Struct c = record {
  place =
      let types = named_types c.args.types.now in
      if_ok c.void_fields.result
      (λ o h. h
      ∙ ap (λ xs. earliest (flat_map (void_part types) (map ty_of xs))) c.as_slice.ensures.value
      ∙ ap (λ ts. earliest (flat_map (void_part types) ts)) (sym (list_of_tys (map ty_of c.in-Struct.fields.items)))
      ∙ ap (λ t. earliest (wrong_type types t)) (sym (struct_view c.in-Struct.field-0 c.in-Struct.fields))
      ∙ ap (λ x. earliest (wrong_type types (ty_of x))) (sym c.in-Struct.is))
      c.void_fields.ensures.place;
}
