use Rattle.std.proofs.Common.{◌≤◌}
use Rattle.pg_check_types.specs.Table.{types_of, Grows}
use Rattle.pg_check_types.specs.Known.{item_number}
use Rattle.pg_check_types.specs.Items.{AreFound, found_count}
use Rattle.pg_check_types.proofs.items.find_all_items.Given as goal

abbrev pub invariant-loop : goal.invariant-loop
invariant-loop l = record {
  grows : Grows (types_of l.fn.table) (types_of l.table);
  found : AreFound l.types (types_of l.table) (item_number l.places l.items) (found_count l.items);
  count : l.counter ≤ found_count l.items;
}
