use Rattle.pg_check_types.specs.Table.{type_at}
use Rattle.pg_check_types.specs.NumberedTypes.{table_of}
use Rattle.pg_check_constants.proofs.Sizes.{some_fits, element_size, own_end}
use Rattle.pg_check_constants.proofs.indices.step.Goals as goal

pub step_into_elements-requires-clause-fits : goal.step_into_elements-requires-clause-fits
step_into_elements-requires-clause-fits c =
    let table = table_of c.args.types.now in
    element_size (type_at table c.in-Some.number) (type_at table c.in-Array.element) c.in-Array.field-0
    (some_fits table c.args.number c.in-Some.number c.in-Some.is c.requires.within c.requires.fits) c.in-Array.ensures.same

pub step_into_fields-requires-clause-fits : goal.step_into_fields-requires-clause-fits
step_into_fields-requires-clause-fits c =
    let table = table_of c.args.types.now in
    own_end (type_at table c.in-Some.number) (some_fits table c.args.number c.in-Some.number c.in-Some.is c.requires.within c.requires.fits)
