use Rattle.std.proofs.Common.{◌≡◌, ◌++◌, map, drop}
use Rattle.pg_read_ast.specs.Views.{line_of, tree_of}
use Rattle.pg_check_program.specs.ScopeNames.{ScopeNames, scope_in}
use Rattle.pg_check_program.specs.LineRows.{lines_by, names_after_lines}
use Rattle.pg_check_program.proofs.line_rows.add_lines.Given as goal

abbrev pub invariant-loop-line : goal.invariant-loop-line
invariant-loop-line l = record {
  instrs : (own : ScopeNames l.scope) → l.found.items ++ lines_by (scope_in l.scope own) l.scope.first l.block (drop l.at l.names) (map line_of (drop l.line-index l.lines)) ≡ l.fn.found.items
      ++ lines_by (scope_in l.scope own) l.scope.first l.block (drop l.start l.names) (map line_of l.lines);
  names : names_after_lines (tree_of l.scope.globals.now.symbols.tree.now).types (drop l.at l.names) (map line_of (drop l.line-index l.lines))
      ≡ names_after_lines (tree_of l.scope.globals.now.symbols.tree.now).types (drop l.start l.names) (map line_of l.lines);
}
