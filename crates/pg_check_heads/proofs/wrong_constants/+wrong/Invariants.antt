use Rattle.std.proofs.Common.{◌≡◌, map, take}
use Rattle.std.specs.List.{flat_map, enumerate_from}
use Rattle.pg_read_ast.specs.Views.{typed_const_of}
use Rattle.pg_check_types.specs.Table.{Grows}
use Rattle.pg_check_types.specs.Known.{denoted, IsWithin}
use Rattle.pg_check_types.specs.NumberedTypes.{named_types, table_of}
use Rattle.pg_check_rules.specs.Earliest.{earliest}
use Rattle.pg_check_heads.specs.ConstantParts.{AllWithin, part_row, field_row}
use Rattle.pg_check_heads.proofs.wrong_constants.+wrong.Given as goal

abbrev pub invariant-wrong_elements-loop-part : goal.invariant-wrong_elements-loop-part
invariant-wrong_elements-loop-part l = record {
  found : l.found ≡ earliest (flat_map (part_row (named_types l.fn.types) (denoted (table_of l.fn.types) l.element)) (map typed_const_of (take l.part-index l.parts)));
  within : IsWithin (table_of l.types) l.element;
  items : l.types.items ≡ l.fn.types.items;
  grows : Grows (table_of l.fn.types) (table_of l.types);
}

abbrev pub invariant-wrong_fields-loop-place : goal.invariant-wrong_fields-loop-place
invariant-wrong_fields-loop-place l = record {
  found : l.found ≡ earliest (flat_map (field_row (named_types l.fn.types) (table_of l.fn.types) l.fields) (enumerate_from 0 (map typed_const_of (take l.place l.parts))));
  within : AllWithin (table_of l.types) l.fields;
  items : l.types.items ≡ l.fn.types.items;
  grows : Grows (table_of l.fn.types) (table_of l.types);
}
