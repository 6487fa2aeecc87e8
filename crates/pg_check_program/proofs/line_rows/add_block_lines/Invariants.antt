use Rattle.std.proofs.Common.{◌≡◌, ◌+◌, ◌++◌, map, drop}
use Rattle.pg_read_ast.specs.Views.{block_of}
use Rattle.pg_check_program.specs.ScopeNames.{ScopeNames, scope_in}
use Rattle.pg_check_program.specs.LineRows.{blocks_by}
use Rattle.pg_check_program.proofs.line_rows.add_block_lines.Given as goal

abbrev pub invariant-loop-block : goal.invariant-loop-block
invariant-loop-block l = record {
  instrs : (own : ScopeNames l.scope) → l.found.items ++ blocks_by (scope_in l.scope own) l.scope.first l.number (drop l.at l.names) (map block_of (drop l.block-index l.blocks))
      ≡ l.fn.found.items ++ blocks_by (scope_in l.scope own) l.scope.first l.scope.first (drop l.start l.names) (map block_of l.blocks);
  number : l.number ≡ l.scope.first + l.block-index;
}
