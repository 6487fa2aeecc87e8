use Rattle.std.proofs.Common.{◌<◌, length}
use Rattle.pg_check_types.specs.Table.{type_at}
use Rattle.pg_check_types.specs.NumberedTypes.{table_of}
use Rattle.pg_check_rules.specs.Fields.{FieldsBehind}
use Rattle.pg_check_rules.proofs.fields.fields_of.Given as goal

abbrev pub invariant-fields : goal.invariant-fields
invariant-fields l = record {
  within : l.rest < length (table_of l.types);
  behind : FieldsBehind (table_of l.types) (type_at (table_of l.types) l.rest) (type_at (table_of l.types) l.number) l.fields.items;
}

abbrev pub decreases-fields : goal.decreases-fields
decreases-fields l = l.rest
