use Rattle.std.proofs.Common.{is_some, sym, ap, subst, ◌∙◌}
use Rattle.pg_check_types.specs.Table.{type_at}
use Rattle.pg_check_types.specs.Known.{denoted, IsWithin}
use Rattle.pg_check_types.specs.NumberedTypes.{table_of}
use Rattle.pg_check_rules.proofs.FieldLists.{chosen_type}
use Rattle.pg_check_values.proofs.indices.step_into_fields.Goals as goal

pub returns-clause-place : goal.returns-clause-place
returns-clause-place c =
    let table = table_of c.args.types.now in
    let chosen = chosen_type table (type_at table c.args.number) c.args.chosen c.chosen_of-last.result c.chosen_of-last.ensures.chosen c.chosen_of-last.ensures.none in
    c.refused_field.ensures _ (ap (λ o. is_some o) c.type_of_field-next.ensures ∙ chosen.2)

pub returns-clause-next : goal.returns-clause-next
returns-clause-next c =
    let table = table_of c.args.types.now in
    let chosen = chosen_type table (type_at table c.args.number) c.args.chosen c.chosen_of-last.result c.chosen_of-last.ensures.chosen c.chosen_of-last.ensures.none in
    ap (λ o. denoted table o) c.type_of_field-next.ensures ∙ chosen.0

pub returns-clause-within : goal.returns-clause-within
returns-clause-within c =
    let table = table_of c.args.types.now in
    let chosen = chosen_type table (type_at table c.args.number) c.args.chosen c.chosen_of-last.result c.chosen_of-last.ensures.chosen c.chosen_of-last.ensures.none in
    subst (λ o. IsWithin table o) (sym c.type_of_field-next.ensures) chosen.1
