use Rattle.pg_check_types.specs.Layout.{field_list}
use Rattle.pg_check_types.specs.Table.{type_at}
use Rattle.pg_check_types.specs.NumberedTypes.{table_of}
use Rattle.pg_check_constants.proofs.FieldPlaces.{field_found, number_within, fields_over}
use Rattle.std.proofs.Common.{sym, ◌∙◌}
use Rattle.pg_check_constants.proofs.initialisers.field_at.Goals as goal

pub returns-clause-within : goal.returns-clause-within
returns-clause-within c =
    let table = table_of c.args.known.now in
    let t = type_at table c.args.number in
    number_within table (field_list t) c.args.place c.nth_field.result (field_found table t c.args.fields.now c.args.place c.nth_field.result c.requires c.nth_field.ensures)

pub returns-clause-field : goal.returns-clause-field
returns-clause-field c =
    let table = table_of c.args.known.now in
    field_found table (type_at table c.args.number) c.args.fields.now c.args.place c.nth_field.result c.requires c.nth_field.ensures

pub returns-clause-none : goal.returns-clause-none
returns-clause-none c = λ e.
    let table = table_of c.args.known.now in
    fields_over table (type_at table c.args.number) c.args.fields.now c.args.place c.requires (sym c.nth_field.ensures ∙ e)
