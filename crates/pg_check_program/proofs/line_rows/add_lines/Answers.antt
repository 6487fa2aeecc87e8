use Rattle.std.proofs.Common.{◌+◌, ◌++◌, map, drop, ap, ◌∙◌}
use Rattle.pg_read_ast.specs.Numbers.{gives}
use Rattle.pg_read_ast.specs.Views.{line_of, op_of, tree_of, type_item_of}
use Rattle.pg_check_program.specs.ScopeNames.{scope_in}
use Rattle.pg_check_program.specs.LineRows.{lines_by, names_after}
use Rattle.pg_check_program.proofs.LineSteps.{line_step, line_names_step, lines_end, line_names_end}
use Rattle.pg_check_program.specs.Room.{LineFits}
use Rattle.pg_check_program.specs.ScopeSizes.{types_in}
use Rattle.pg_check_program.proofs.BoundedNumbers.{one_fits}
use Rattle.pg_check_program.proofs.line_rows.add_lines.Goals as goal

pub op_instr-requires-clause-fits : goal.op_instr-requires-clause-fits
op_instr-requires-clause-fits c =
    one_fits (LineFits (types_in c.args.scope.now)) line_of c.args.lines.now c.loop-line.line-index c.line-item.result _ c.requires.fits c.loop-line-test.true c.line-item.is

pub op_instr-requires-clause-given : goal.op_instr-requires-clause-given
op_instr-requires-clause-given c = c.in_ok-has_result.ensures.same ∙ ap (λ xs. gives (map type_item_of xs) (op_of c.line-item.result.op)) c.args.scope.now.globals.now.items

pub loop-line-preserved : goal.loop-line-preserved
loop-line-preserved c =
    let first = c.args.scope.now.first in
    let names = drop c.loop-line.at c.args.names.now in
    let behind = drop c.place_after-at.result c.args.names.now in
    let same = c.in_ok-has_result.ensures.same ∙ ap (λ xs. gives (map type_item_of xs) (op_of c.line-item.result.op)) c.args.scope.now.globals.now.items in
    let after = c.place_after-at.ensures ∙ ap (λ b. names_after b names) same in
    record {
      instrs = λ own.
          let g = scope_in c.args.scope.now own in
          ap (λ is. is ++ lines_by g first c.args.block behind (map line_of (drop (c.loop-line.line-index + 1) c.args.lines.now))) c.in_ok-push.ensures.items
          ∙ line_step g first c.args.block names behind c.loop-line.found.items c.in_ok-one.one c.args.lines.now c.loop-line.line-index c.line-item.result _
          c.loop-line-test.true c.line-item.is (c.in_ok-one.ensures.instr own) after
          ∙ c.loop-line.invariant.instrs own;
      names =
          line_names_step (tree_of c.args.scope.now.globals.now.symbols.tree.now).types names behind c.args.lines.now c.loop-line.line-index c.line-item.result _
          c.loop-line-test.true c.line-item.is after
          ∙ c.loop-line.invariant.names;
    }

pub returns-clause-instrs : goal.returns-clause-instrs
returns-clause-instrs c = λ own.
    lines_end (scope_in c.args.scope.now own) c.args.scope.now.first c.args.block
    (drop c.loop-line.at c.args.names.now) c.loop-line.found.items c.args.lines.now c.loop-line.line-index c.loop-line-test.false
    ∙ c.loop-line.invariant.instrs own

pub returns-clause-names : goal.returns-clause-names
returns-clause-names c =
    line_names_end (tree_of c.args.scope.now.globals.now.symbols.tree.now).types (drop c.loop-line.at c.args.names.now) c.args.lines.now c.loop-line.line-index c.loop-line-test.false
    ∙ c.loop-line.invariant.names
