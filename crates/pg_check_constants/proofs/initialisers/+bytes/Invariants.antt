use Rattle.std.proofs.Common.{◌≡◌, ◌≤◌, ◌++◌, map, drop}
use Rattle.pg_num.specs.declared.limits.TheConstants.{SIZE_LIMIT}
use Rattle.pg_read_ast.specs.Syntax.{consts}
use Rattle.pg_read_ast.specs.Views.{typed_const_of, tree_of}
use Rattle.pg_check_types.specs.Layout.{field_list}
use Rattle.pg_check_types.specs.Table.{type_at}
use Rattle.pg_check_types.specs.NumberedTypes.{table_of}
use Rattle.pg_check_rules.specs.Constants.{element_bytes, field_bytes}
use Rattle.pg_check_constants.specs.Sizes.{PartsFit}
use Rattle.pg_check_types.proofs.Alignments.{end_from}
use Rattle.pg_check_constants.proofs.initialisers.+bytes.Given as goal

abbrev pub invariant-add_elements-loop-part : goal.invariant-add_elements-loop-part
invariant-add_elements-loop-part l =
    let m = tree_of l.globals.symbols.tree.now in
    let t = type_at (table_of l.known) l.element in
    record {
      bytes : l.bytes.items ++ element_bytes m t (consts (map typed_const_of (drop l.part-index l.parts))) ≡ l.fn.bytes.items ++ element_bytes m t (consts (map typed_const_of l.parts));
      fits : PartsFit m.types (consts (map typed_const_of (drop l.part-index l.parts)));
    }

abbrev pub invariant-add_fields-loop-place : goal.invariant-add_fields-loop-place
invariant-add_fields-loop-place l =
    let m = tree_of l.globals.symbols.tree.now in
    let ts = field_list (type_at (table_of l.known) l.number) in
    record {
      bytes : l.bytes.items ++ field_bytes m l.at (drop l.place ts) (consts (map typed_const_of (drop l.place l.parts))) ≡ l.fn.bytes.items
          ++ field_bytes m 0 ts (consts (map typed_const_of l.parts));
      fits : PartsFit m.types (consts (map typed_const_of (drop l.place l.parts)));
      ended : end_from l.at (drop l.place ts) ≤ SIZE_LIMIT;
    }
