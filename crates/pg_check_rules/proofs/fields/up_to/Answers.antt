use Rattle.std.proofs.Common.{length, arith}
use Rattle.pg_check_types.specs.Layout.{field_list}
use Rattle.pg_check_types.specs.Table.{type_at}
use Rattle.pg_check_types.specs.NumberedTypes.{table_of}
use Rattle.pg_check_types.proofs.Fronts.{own_front, front_of_front}
use Rattle.pg_check_rules.proofs.fields.up_to.Goals as goal

pub rest-init : goal.rest-init
rest-init c = record {
  within = c.requires.within;
  beginning = own_front (type_at (table_of c.args.types.now) c.args.number);
  fields = c.requires.fields;
}

pub rest-preserved : goal.rest-preserved
rest-preserved c =
    let table = table_of c.args.types.now in
    record {
      within = omega (arith, c.nearer-rest.ensures.shorter.below, c.rest.invariant.within);
      beginning =
          front_of_front (type_at table c.nearer-rest.result) (type_at table c.rest.rest) (type_at table c.args.number)
          c.nearer-rest.ensures.shorter.beginning c.rest.invariant.beginning;
      fields = c.nearer-rest.ensures.fields;
    }
