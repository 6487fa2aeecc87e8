use Rattle.std.proofs.Common.{◌≡◌, map, take}
use Rattle.pg_read_ast.specs.Views.{define_of, tree_of}
use Rattle.pg_check_rules.specs.Names.{first_block}
use Rattle.pg_check_program.specs.FunctionRows.{rows_from, function_row}
use Rattle.pg_check_program.proofs.program.functions_of.Given as goal

abbrev pub invariant-loop-item : goal.invariant-loop-item
invariant-loop-item l = record {
  functions : l.found.items ≡ rows_from (function_row (tree_of l.globals.symbols.tree.now) (map define_of l.all)) 0 (take l.item-index l.all);
  first : l.first ≡ first_block (map define_of l.all) l.item-index;
}
