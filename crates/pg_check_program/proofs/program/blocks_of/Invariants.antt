use Rattle.std.proofs.Common.{◌≡◌, map, take}
use Rattle.pg_read_ast.specs.Views.{define_of}
use Rattle.pg_check_rules.specs.Names.{first_line}
use Rattle.pg_check_program.specs.FunctionRows.{rows_from, block_row}
use Rattle.pg_check_program.proofs.program.blocks_of.Given as goal

abbrev pub invariant-loop-item : goal.invariant-loop-item
invariant-loop-item l = record {
  blocks : l.found.items ≡ rows_from (block_row (map define_of l.all)) 0 (take l.item-index l.all);
  number : l.function ≡ l.item-index;
  first : l.first ≡ first_line (map define_of l.all) l.item-index;
}
