use Rattle.std.proofs.Common.{◌<◌, ◌≤◌, length}
use Rattle.pg_check_types.specs.Layout.{field_list}
use Rattle.pg_check_types.specs.Table.{type_at, IsBeginning}
use Rattle.pg_check_types.specs.NumberedTypes.{table_of}
use Rattle.pg_check_rules.proofs.fields.up_to.Given as goal

abbrev pub invariant-rest : goal.invariant-rest
invariant-rest l = record {
  within : l.rest < length (table_of l.types);
  beginning : IsBeginning (type_at (table_of l.types) l.rest) (type_at (table_of l.types) l.number);
  fields : l.count ≤ length (field_list (type_at (table_of l.types) l.rest));
}

abbrev pub decreases-rest : goal.decreases-rest
decreases-rest l = l.rest
