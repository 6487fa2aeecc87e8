use Rattle.std.proofs.Common.{IfSome, sym, ap, subst, ◌∙◌}
use Rattle.pg_check_types.specs.Table.{type_at}
use Rattle.pg_check_types.specs.NumberedTypes.{table_of}
use Rattle.pg_check_rules.specs.ValueConditions.{field_at}
use Rattle.pg_check_rules.specs.Fields.{IsChosen}
use Rattle.pg_check_rules.proofs.FieldLists.{place_is, no_place}
use Rattle.pg_check_rules.proofs.fields.chosen_of.Goals as goal

pub returns-in-Some-clause-chosen : goal.returns-in-Some-clause-chosen
returns-in-Some-clause-chosen c =
    let table = table_of c.args.types.now in
    let t = type_at table c.args.number in
    subst (λ i. IfSome c.field_at.result (IsChosen table t i)) (sym (place_is c.args.index c.in-Some.place (sym c.place_of_index.ensures ∙ c.in-Some.is))) c.field_at.ensures.chosen

pub returns-in-Some-clause-none : goal.returns-in-Some-clause-none
returns-in-Some-clause-none c = λ e.
    ap (λ i. field_at (type_at (table_of c.args.types.now) c.args.number) i) (place_is c.args.index c.in-Some.place (sym c.place_of_index.ensures ∙ c.in-Some.is))
    ∙ c.field_at.ensures.none e

pub returns-in-None-clause-none : goal.returns-in-None-clause-none
returns-in-None-clause-none c = λ e.
    no_place (type_at (table_of c.args.types.now) c.args.number) c.args.index (sym c.place_of_index.ensures ∙ c.in-None.is)
