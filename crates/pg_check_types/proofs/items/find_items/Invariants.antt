use Rattle.std.proofs.Common.{◌≤◌, ◌<◌}
use Rattle.std.specs.Bool.{OnTrue, OnFalse}
use Rattle.pg_check_types.specs.Table.{types_of, Grows}
use Rattle.pg_check_types.specs.Known.{item_number}
use Rattle.pg_check_types.specs.Items.{AreFound, AreStuck, found_count}
use Rattle.pg_check_types.proofs.items.find_items.Given as goal

abbrev pub invariant-loop-place : goal.invariant-loop-place
invariant-loop-place l = record {
  grows : Grows (types_of l.fn.table) (types_of l.table);
  found : AreFound l.types (types_of l.table) (item_number l.places l.items) (found_count l.items);
  no_less : found_count l.fn.items ≤ found_count l.items;
  more : OnTrue l.found (found_count l.fn.items < found_count l.items);
  stuck : OnFalse l.found (AreStuck l.types (types_of l.table) (item_number l.places l.items) l.items l.place);
}
