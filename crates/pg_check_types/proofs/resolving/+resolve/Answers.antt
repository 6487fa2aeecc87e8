use Rattle.std.proofs.Common.{◌+◌, drop, map, Some, sym, ap, ◌∙◌}
use Rattle.pg_read_ast.specs.Syntax.{tys}
use Rattle.pg_read_ast.specs.Views.{ty_of}
use Rattle.pg_check_types.specs.Resolved.{NoFields, part_type, with_field, type_by, fields_by}
use Rattle.pg_check_types.specs.Table.{types_of}
use Rattle.pg_check_types.specs.Known.{denoted, item_number}
use Rattle.pg_check_types.proofs.Resolutions.{grows_again, all_within_more, denoted_more, names_more, field_step, fields_done, if_ok}
use Rattle.pg_check_types.proofs.StructView.{struct_view}
use Rattle.pg_check_types.proofs.resolving.+resolve.Goals as goal

pub fields_number-loop-field-preserved : goal.fields_number-loop-field-preserved
fields_number-loop-field-preserved t c =
    let first = types_of c.args.table.now in
    let before = types_of c.loop-field.table in
    let between = types_of c.type_number.new.table in
    let after = types_of c.field_number.new.table in
    let number = item_number c.args.places.now c.args.items.now in
    let more = grows_again before between after c.in_ok-number.ensures.grows c.in_ok-front.ensures.grows in
    record {
      grows = grows_again first before after c.loop-field.invariant.grows more;
      known = all_within_more before after number more c.loop-field.invariant.known;
      within = c.in_ok-front.ensures.within;
      value = λ named names.
          let v = c.in_ok-number.ensures.value named (names_more first before number named c.loop-field.invariant.grows c.requires names) in
          let f = denoted_more before between c.loop-field.front c.in_ok-number.ensures.grows c.loop-field.invariant.within in
          ap (λ o. fields_by named o (tys (map ty_of (drop (c.loop-field.field-index + 1) c.args.fields.now))))
          (c.in_ok-front.ensures.value ∙ ap (λ o. with_field o (part_type (denoted between c.in_ok-number.number))) f ∙ ap (λ o. with_field (denoted before c.loop-field.front) (part_type o)) v)
          ∙ sym (field_step named (denoted before c.loop-field.front) c.args.fields.now c.loop-field.field-index c.field-item.result c.loop-field-test.true c.field-item.is)
          ∙ c.loop-field.invariant.value named names;
    }

pub fields_number-returns-clause-value : goal.fields_number-returns-clause-value
fields_number-returns-clause-value t c = λ named names.
    sym (fields_done named (denoted (types_of c.loop-field.table) c.loop-field.front) c.args.fields.now c.loop-field.field-index c.loop-field-test.false)
    ∙ c.loop-field.invariant.value named names

pub type_number-returns-in-Struct-clause-value : goal.type_number-returns-in-Struct-clause-value
unfolding type_by
type_number-returns-in-Struct-clause-value t c = λ named names.
    if_ok c.fields_number.result
    (λ o h. h ∙ ap (λ xs. fields_by named (Some NoFields) (tys (map ty_of xs))) c.as_slice-in-Struct.ensures.value
    ∙ ap (λ x. type_by named x) (sym (struct_view c.in-Struct.field-0 c.in-Struct.fields)) ∙ ap (λ x. type_by named (ty_of x)) (sym c.in-Struct.is))
    (c.fields_number.ensures.value named names)
