use Rattle.pg_check_types.specs.Layout.{field_list}
use Rattle.pg_check_types.specs.Table.{type_at}
use Rattle.pg_check_types.specs.NumberedTypes.{table_of}
use Rattle.pg_check_types.proofs.Resolutions.{if_ok}
use Rattle.pg_check_heads.proofs.PartPlaces.{fields_within}
use Rattle.pg_check_heads.proofs.wrong_constants.field_numbers.Goals as goal

pub returns-in-Some-clause-within : goal.returns-in-Some-clause-within
returns-in-Some-clause-within c =
    let table = table_of c.args.types.now in
    if_ok c.fields_of.result (λ v h. fields_within table v.items (field_list (type_at table c.in-Some.number)) h) c.fields_of.ensures
