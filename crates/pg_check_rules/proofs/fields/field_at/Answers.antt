use Rattle.std.proofs.Common.{arith}
use Rattle.pg_check_types.specs.Table.{type_at}
use Rattle.pg_check_types.specs.NumberedTypes.{table_of}
use Rattle.pg_check_rules.proofs.FieldLists.{chosen_if, some_last, none_at}
use Rattle.pg_check_rules.proofs.fields.field_at.Goals as goal

pub returns-then-place-layout-clause-chosen : goal.returns-then-place-layout-clause-chosen
returns-then-place-layout-clause-chosen c =
    let table = table_of c.args.types.now in
    chosen_if table (type_at table c.args.number) c.up_to-front.result c.args.place c.last_field.result
    c.up_to-front.ensures.within c.up_to-front.ensures.beginning c.up_to-front.ensures.fields c.last_field.ensures.last

pub returns-then-place-layout-clause-none : goal.returns-then-place-layout-clause-none
returns-then-place-layout-clause-none c = λ e.
    absurd (some_last (type_at (table_of c.args.types.now) c.up_to-front.result) c.args.place c.up_to-front.ensures.fields (c.last_field.ensures.none e))

pub returns-else-place-layout-clause-none : goal.returns-else-place-layout-clause-none
returns-else-place-layout-clause-none c = λ e.
    none_at (type_at (table_of c.args.types.now) c.args.number) c.args.place (omega (arith, c.if-place-layout.false, c.layout_of_number-layout.ensures.layout.fields))
